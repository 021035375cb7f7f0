-- `sheets::text::shared` writes the word, the two counts and the share.
-- Assumes nothing.
use native.Mathlib.Omega.{arith}
use Rattle.texts.proofs.OverwrittenLaws.{written-rest, rest-room}
use Rattle.sheets.specs.Line.{shared_of}
use Rattle.sheets.proofs.LineLaws.{counts-short}
use Rattle.sheets.proofs.text.shared.Goals as goal

pub labelled-m-requires : goal.labelled-m-requires
labelled-m-requires c =
    rest-room 21 c.counts-n.ensures (omega (arith, c.requires.0, c.requires.1, counts-short c.args.word.now c.args.v))

pub returns : goal.returns
unfolding shared_of
returns c =
    written-rest c.counts-n.ensures c.labelled-m.ensures
