-- `rules::lengths::totalled` adds the quantifiers to the rule one by one.
-- Assumes nothing.
use native.Mathlib.Omega.{arith}
use Rattle.rules.proofs.FormulaLengthLaws.{totalled-next, totalled-all}
use Rattle.rules.proofs.lengths.totalled.Goals as goal

pub loop-v-preserved : goal.loop-v-preserved
loop-v-preserved c = totalled-next c.loop-v.invariant (omega arith) c.length_at-in-loop-v.ensures c.at_most-total-in-loop-v.ensures

pub returns : goal.returns
returns c = totalled-all c.loop-v.invariant (omega arith)
