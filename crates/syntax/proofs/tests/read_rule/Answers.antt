-- `read_rule` reads the clauses into a list and joins them.
-- Assumes nothing.
use Rattle.syntax.proofs.ClauseLaws.{as-no-clause, as-clauses, rule_found}
use Rattle.syntax.proofs.ReadingLaws.{lost}
use Rattle.syntax.proofs.tests.read_rule.Goals as goal

pub returns-in_err-p : goal.returns-in_err-p
returns-in_err-p c =
    λ σ w. lost c.from_residual.ensures (as-no-clause (c.in_err-p.ensures σ w))

pub returns : goal.returns
returns c =
    λ σ w. rule_found (as-clauses (c.in_ok-p.ensures σ w)) c.join_clauses.ensures
