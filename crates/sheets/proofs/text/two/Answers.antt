-- `sheets::text::two` writes the first text with its number, and the second behind it.
-- Assumes nothing.
use Prim.Native.Nat.{◌+◌}
use native.Mathlib.Omega.{arith}
use lib.ListN.{length}
use Rattle.texts.proofs.OverwrittenLaws.{written-rest, rest-room}
use Rattle.texts.proofs.DecimalLaws.{labelled-short}
use Rattle.sheets.proofs.text.two.Goals as goal

pub labelled-m-requires : goal.labelled-m-requires
labelled-m-requires c =
    rest-room (length c.args.sign.now + 20) c.labelled-n.ensures (omega (arith, c.requires, labelled-short c.args.word.now c.args.x))
