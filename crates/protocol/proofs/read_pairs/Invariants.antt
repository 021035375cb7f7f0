-- `protocol::read_pairs` writes the bytes of `pairs`. The invariant: the digits passed gave the n bytes written.
-- Assumes nothing.
use Prim.Native.Nat.{◌*◌}
use Rattle.protocol.proofs.HexLaws.{Paired}
use Rattle.protocol.proofs.read_pairs.Given as goal

abbrev pub invariant-loop-n : goal.invariant-loop-n
invariant-loop-n l = Paired l.field l.initial.out l.out l.n (2 * l.n)
