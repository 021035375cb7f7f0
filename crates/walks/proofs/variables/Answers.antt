-- `walks::variables` meets its contract. The loop's invariant: the first i variables are those of the first i bytes.
-- Assumes nothing.
use mathlib.Core.Path.{refl, ◌∙◌}
use native.Mathlib.Omega.{arith}
use lib.ListN.{length-set}
use Rattle.walks.proofs.LoopLaws.{variables-none, variables-step}
use Rattle.walks.proofs.variables.Goals as goal

pub loop-i-init : goal.loop-i-init
loop-i-init c = (refl, variables-none)

pub loop-i-preserved : goal.loop-i-preserved
loop-i-preserved c = (
  length-set c.loop-i.vs c.loop-i.i c.variable_of.result ∙ c.loop-i.invariant.0,
  variables-step c.args.order.now c.loop-i.vs c.loop-i.i c.variable_of.result (omega arith) (omega (arith, c.requires, c.loop-i.invariant.0)) c.variable_of.ensures c.loop-i.invariant.1,
)
