-- `conformance::session_calls::follow` is safe: a state has at most 65,536 bytes.
-- Assumes nothing.
use Prim.Native.Nat.{◌≤◌}
use Rattle.conformance.proofs.session_calls.follow.Given as goal

abbrev pub invariant-loop-k : goal.invariant-loop-k
invariant-loop-k l = l.n ≤ 65536
