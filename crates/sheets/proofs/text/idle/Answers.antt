-- `sheets::text::idle` writes the word, the two counts and `-`.
-- Assumes nothing.
use native.Mathlib.Omega.{arith}
use Rattle.syntax.specs.Bytes.{ascii}
use Rattle.texts.proofs.OverwrittenLaws.{written-rest, rest-room}
use Rattle.sheets.proofs.LineLaws.{counts-short}
use Rattle.sheets.proofs.text.idle.Goals as goal

pub put-m-requires : goal.put-m-requires
put-m-requires c =
    rest-room 2 c.counts-n.ensures (omega (arith, c.requires, counts-short (ascii " idle ") c.args.v))

pub returns : goal.returns
returns c =
    written-rest c.counts-n.ensures c.put-m.ensures
