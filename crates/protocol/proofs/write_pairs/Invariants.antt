-- `protocol::write_pairs` writes `hex_of`. The invariant: the digits of the bytes passed were written.
-- Assumes nothing.
use Prim.Native.Nat.{◌*◌}
use Rattle.protocol.proofs.HexLaws.{Hexed}
use Rattle.protocol.proofs.write_pairs.Given as goal

abbrev pub invariant-loop-i : goal.invariant-loop-i
invariant-loop-i l = Hexed l.b l.initial.out l.out l.i (2 * l.i)
