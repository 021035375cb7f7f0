-- `rules::lengths::lengths` fills the list of lengths from the front: the nodes below k have theirs.
-- Assumes nothing.
use Rattle.syntax.specs.Term.{Choices}
use Rattle.syntax.specs.Code.Reading.{mk, Knows}
use Rattle.rules.specs.Code.Lengths.{Measured}
use Rattle.rules.proofs.lengths.lengths.Given as goal

abbrev pub invariant-loop-k : goal.invariant-loop-k
invariant-loop-k l = (σ : Choices) → Knows (mk l.nodes l.n) l.vars σ → Measured l.nodes σ l.k l.lens
