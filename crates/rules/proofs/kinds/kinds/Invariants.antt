-- `rules::kinds::kinds` fills the list of kinds from the front: the nodes below k have theirs.
-- Assumes nothing.
use Rattle.rules.specs.Code.Numbers.{Kinded}
use Rattle.rules.proofs.kinds.kinds.Given as goal

abbrev pub invariant-loop-k : goal.invariant-loop-k
invariant-loop-k l = Kinded l.nodes l.k l.kinds
