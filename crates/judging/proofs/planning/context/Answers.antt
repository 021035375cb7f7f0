-- `judging::planning::context` meets its contract.
-- Assumes nothing.
use native.Mathlib.Omega.{arith}
use lib.Seq.{get_or-drop}
use Rattle.values.specs.Code.Plan.{levels_from}
use Rattle.judging.proofs.PlanningLaws.{context-both}
use Rattle.judging.proofs.planning.context.Goals as goal

pub returns-then-order-at : goal.returns-then-order-at
returns-then-order-at c =
    record { sets = λ j l m. absurd (omega (arith, c.if-order-at.true)); clauses = λ h i b l m. absurd (omega (arith, c.if-order-at.true, c.requires.6 i l, get_or-drop levels_from c.args.plan.now i 0)) }

pub returns : goal.returns
returns c =
    context-both _ _ _ _ _ _ c.by_sets-found.result c.by_clauses.result c.join.result c.by_sets-found.ensures.0 c.by_clauses.ensures.0 c.join.ensures c.by_sets-found.ensures.1 c.by_clauses.ensures.1
