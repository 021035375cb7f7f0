-- `sheets::text::line_of` writes the place and what the verdict says.
-- Assumes nothing.
use native.Mathlib.Omega.{arith}
use Rattle.texts.proofs.OverwrittenLaws.{written-rest, rest-room}
use Rattle.texts.proofs.DecimalLaws.{digits-short}
use Rattle.sheets.proofs.text.line_of.Goals as goal

pub says-m-requires : goal.says-m-requires
says-m-requires c =
    rest-room 480 c.decimal-n.ensures (omega (arith, c.requires, digits-short 20 c.args.place))
