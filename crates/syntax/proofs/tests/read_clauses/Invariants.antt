-- `read_clauses` reads clause after clause: those with `^` behind them are passed.
-- Assumes nothing.
use lib.ListN.{length}
use Rattle.syntax.specs.Code.Reading.{mk}
use Rattle.syntax.proofs.ClauseLaws.{Passing}
use Rattle.syntax.proofs.tests.read_clauses.Given as goal

abbrev pub invariant-loop-c : goal.invariant-loop-c
invariant-loop-c l = Passing l.s l.start l.vars (mk l.initial.nodes l.first) (length l.initial.list) l.list (mk l.nodes l.n) l.at l.c
