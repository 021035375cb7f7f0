-- `readers::lend_line` lends the line at a place of the tables that the words hold.
-- Assumes nothing.
use native.Mathlib.Omega.{arith}
use Rattle.sheets.specs.Sheet.{sheet_by}
use Rattle.texts.proofs.OverwrittenLaws.{written-part, written-length, part_length}
use Rattle.readers.proofs.lend_line.Goals as goal

pub returns : goal.returns
unfolding sheet_by
returns c =
    λ T H. rw (written-part (c.judged_line-n.ensures T H)) at c.lend.ensures
