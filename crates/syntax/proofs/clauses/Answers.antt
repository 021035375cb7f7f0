-- `clauses` reads with no choices known, behind the nodes that are there, and takes the clauses only where nothing is left.
-- Assumes nothing.
use mathlib.Core.List.{[]}
use Rattle.syntax.proofs.FormulaLaws.{knows-none}
use Rattle.syntax.proofs.ClauseLaws.{as-no-clause, as-clauses, listed-none, listed-left, listed_here}
use Rattle.syntax.proofs.clauses.Goals as goal

pub returns-in_err-p : goal.returns-in_err-p
returns-in_err-p c =
    rw c.from_residual.ensures (listed-none c.requires.2 (as-no-clause (c.in_err-p.ensures [] knows-none)))

pub returns-then-p-s : goal.returns-then-p-s
returns-then-p-s c =
    listed-left c.requires.2 (as-clauses (c.in_ok-p.ensures [] knows-none)) c.if-p-s.true

pub returns : goal.returns
returns c =
    listed_here c.requires.2 (as-clauses (c.in_ok-p.ensures [] knows-none)) c.if-p-s.false
