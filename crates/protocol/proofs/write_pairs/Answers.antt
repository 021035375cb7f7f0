-- `protocol::write_pairs` writes `hex_of`. The invariant: the digits of the bytes passed were written.
-- Assumes nothing.
use native.Mathlib.Omega.{arith}
use Rattle.protocol.proofs.HexLaws.{hexed-none, hexed-next}
use Rattle.protocol.proofs.write_pairs.Goals as goal

pub loop-i-init : goal.loop-i-init
loop-i-init c = hexed-none _ _

pub loop-i-preserved : goal.loop-i-preserved
loop-i-preserved c =
    rw (c.digit.ensures, c.digit-in-loop-i.ensures) (hexed-next c.loop-i.invariant c.loop-i-test.true (omega (arith, c.requires)) (omega arith))
