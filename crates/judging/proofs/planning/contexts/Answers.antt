-- `judging::planning::contexts` meets its contract. The invariant: the first ones are filled in.
-- Assumes nothing.
use mathlib.Core.Path.{◌≡◌}
use native.Mathlib.Omega.{arith}
use Rattle.judging.proofs.PlanningLaws.{filled_more, context-same, levels-same}
use Rattle.judging.proofs.planning.contexts.Goals as goal

pub loop-at-preserved : goal.loop-at-preserved
loop-at-preserved c =
    filled_more c.loop-at.invariant (omega (arith, c.requires.1, c.loop-at-test.true)) c.context.result
    (context-same c.args.names.now c.args.scopes.now c.args.order.now c.args.plan.now c.loop-at.plan c.args.many c.loop-at.at c.context.result (levels-same c.args.plan.now c.loop-at.plan c.args.many c.loop-at.at _ c.requires.3 c.loop-at.invariant) c.context.ensures)

pub returns : goal.returns
returns c = let all : c.loop-at.at ≡ 16 = omega arith in rw all at c.loop-at.invariant
