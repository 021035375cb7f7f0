-- `judging::planning::clauses` meets its contract. The invariant: the first i are filled in, and the others stand from node `at` on.
-- Assumes nothing.
use Prim.Native.Nat.{◌+◌, ◌<◌, ◌≤◌}
use Rattle.syntax.specs.Rule.{Rule}
use Rattle.syntax.specs.Code.Arena.{HoldsRule}
use Rattle.values.specs.Code.Plan.{clauses_from}
use Rattle.judging.specs.Code.Planning.{Filled, ClauseWord}
use Rattle.judging.proofs.PlanningLaws.{Rest}
use Rattle.judging.proofs.planning.clauses.Given as goal

abbrev pub invariant-loop-plan : goal.invariant-loop-plan
invariant-loop-plan l = (l.at < l.n) × (l.i + l.at ≤ l.root) × Filled l.initial.plan l.plan clauses_from l.i (ClauseWord l.nodes l.n l.root) × ((ρ : Rule) → HoldsRule l.nodes l.root ρ → Rest l.nodes ρ l.i l.at)

abbrev pub decreases-loop-plan : goal.decreases-loop-plan
decreases-loop-plan l = l.at
