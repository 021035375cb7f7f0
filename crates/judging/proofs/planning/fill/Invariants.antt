-- `judging::planning::fill` meets its contract. The invariant: the first i words are filled in.
-- Assumes nothing.
use Rattle.judging.specs.Code.Planning.{Filled}
use Rattle.judging.proofs.planning.fill.Given as goal

abbrev pub invariant-loop-i : goal.invariant-loop-i
invariant-loop-i g l = Filled l.initial.plan l.plan l.at l.i (goal.F-post g l.f)
