-- `join_clauses` joins from the last clause on: the rule of the clauses from k on is at a node.
-- Assumes nothing.
use mathlib.Core.Path.{◌≡◌}
use Rattle.syntax.specs.Code.Reading.{mk}
use Rattle.syntax.proofs.ClauseLaws.{Joining}
use Rattle.syntax.proofs.tests.join_clauses.Given as goal

abbrev pub invariant-loop-k : goal.invariant-loop-k
invariant-loop-k l = Joining (mk l.initial.nodes l.n) l.list l.c (mk l.nodes l.p.n) l.k l.p.node × (l.p.next ≡ l.next)
