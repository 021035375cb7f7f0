-- `values::ceiling::ceiling` multiplies variable by variable.
-- Assumes nothing.
use native.Mathlib.Omega.{arith}
use Rattle.values.proofs.CeilingLaws.{multiplied-none, next_fits, multiplied-next, multiplied-all}
use Rattle.values.proofs.ceiling.ceiling.Goals as goal

pub loop-node-init : goal.loop-node-init
loop-node-init c = multiplied-none

pub overflow_mul-found : goal.overflow_mul-found
overflow_mul-found c =
    omega (arith, next_fits c.loop-node.invariant (omega arith) c.requires.1 c.count.ensures.upper_bound)

pub loop-node-preserved : goal.loop-node-preserved
loop-node-preserved c =
    multiplied-next c.loop-node.invariant (omega arith) c.requires.1 c.count.ensures.upper_bound c.kind_at.ensures c.count.ensures.value

pub returns : goal.returns
returns c = multiplied-all c.loop-node.invariant (omega arith)
