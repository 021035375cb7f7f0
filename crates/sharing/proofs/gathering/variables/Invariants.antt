-- `variables` walks over one clause after the other: the loop has the variables of the clauses before k.
-- Assumes nothing.
use Rattle.sharing.specs.Code.Gathering.{Varied}
use Rattle.sharing.proofs.gathering.variables.Given as goal

abbrev pub invariant-loop-k : goal.invariant-loop-k
invariant-loop-k l = Varied l.nodes l.n l.list l.k-index l.vars l.count
