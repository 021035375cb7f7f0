-- `verdicts::sheet::word_behind` meets its contract: a word's bytes, as std has them, are those of a verdict.
-- Assumes nothing.
use mathlib.Core.Path.{◌∙◌}
use Rattle.verdicts.proofs.SheetLaws.{low-bytes}
use Rattle.verdicts.proofs.sheet.word_behind.Goals as goal

pub returns : goal.returns
returns c = rw (c.to_le_bytes.ensures ∙ low-bytes 8 c.args.w) at c.add.ensures.1
