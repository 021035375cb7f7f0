-- `values::ceiling::ceiling` multiplies variable by variable.
-- Assumes nothing.
use Rattle.values.specs.Code.Multiplied.{Multiplied}
use Rattle.values.proofs.ceiling.ceiling.Given as goal

abbrev pub invariant-loop-node : goal.invariant-loop-node
invariant-loop-node l = Multiplied l.t l.kinds l.vars l.node-index l.found
