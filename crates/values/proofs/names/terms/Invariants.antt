-- `values::names::terms` meets its contract. The invariant: the words of the first k nodes are right.
-- Assumes nothing.
use Rattle.values.specs.Code.Nodes.{NamesTo}
use Rattle.values.proofs.names.terms.Given as goal

abbrev pub invariant-loop-k : goal.invariant-loop-k
invariant-loop-k l = NamesTo l.nodes l.n l.vars l.found l.k
