-- `conformance::main` is safe: the window lies in the buffer.
-- Assumes nothing.
use Prim.Native.Nat.{◌≤◌}
use lib.ListN.{length}
use Rattle.conformance.proofs.main.Given as goal

abbrev pub invariant-loop : goal.invariant-loop
invariant-loop l = (l.w.from ≤ l.w.have) × (l.w.have ≤ length l.buffer)
