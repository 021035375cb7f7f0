-- `rules::check_text`: the checks 11 and 12, one after the other.
-- Assumes nothing.
use mathlib.Core.Path.{sym, ◌∙◌}
use native.Mathlib.Omega.{arith}
use borrow.Author.Tests.{eqb-true, eqb-false}
use Rattle.rules.specs.Code.Parsed.{turned, passed}
use Rattle.rules.proofs.AcceptLaws.{refuse-empty, refuse-long, refuse-deep}
use Rattle.rules.proofs.check_text.Goals as goal
use Rattle.rules.proofs.check_text.Goals.{then-is_empty-via-then-is_empty, then-is_empty-via-else-is_empty+then-s-gt-RULE_LIMIT}

pub returns-then-is_empty : goal.returns-then-is_empty
returns-then-is_empty c =
    turned
    (elim c.then-is_empty.branch [
      | then-is_empty-via-then-is_empty w ↦ refuse-empty c.args.s.now (eqb-true _ _ (sym c.is_empty.ensures ∙ w.if-is_empty.true))
      | then-is_empty-via-else-is_empty+then-s-gt-RULE_LIMIT w ↦ refuse-long c.args.s.now (omega (arith, w.if-s-gt-RULE_LIMIT.true))
    ])

pub returns-then-too_deep : goal.returns-then-too_deep
returns-then-too_deep c =
    let some = eqb-false _ _ (sym c.is_empty.ensures ∙ c.if-is_empty.false) in
    turned (refuse-deep c.args.s.now (omega (arith, some)) (omega arith) (sym c.too_deep.ensures ∙ c.if-too_deep.true))

pub returns : goal.returns
returns c =
    let some = eqb-false _ _ (sym c.is_empty.ensures ∙ c.if-is_empty.false) in
    passed (record { long = omega (arith, some); short = omega arith; shallow = sym c.too_deep.ensures ∙ c.if-too_deep.false })
