-- `values::levels::chain` meets its contract. The invariant: the chains of the nodes from k on.
-- Assumes nothing.
use Rattle.values.proofs.ChainLaws.{From}
use Rattle.values.proofs.levels.chain.Given as goal

abbrev pub invariant-loop-k : goal.invariant-loop-k
invariant-loop-k l = From l.n l.levels l.first l.next l.k
