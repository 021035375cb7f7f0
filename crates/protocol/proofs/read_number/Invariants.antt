-- `protocol::read_number` gives `value_of`. The invariant: the digits passed stand for n.
-- Assumes nothing.
use Prim.Native.Nat.{◌≤◌}
use Rattle.protocol.proofs.NumbersLaws.{Valued}
use Rattle.protocol.proofs.read_number.Given as goal

abbrev pub invariant-loop-c : goal.invariant-loop-c
invariant-loop-c l = (l.n ≤ l.most) × Valued l.most l.field l.n l.c-index
