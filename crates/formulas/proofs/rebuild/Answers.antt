-- `rebuild`: 16 unless the tree's own text has the input as its formula; that text is the only candidate.
-- Assumes nothing.
use mathlib.Core.Path.{sym, ap, ◌∙◌}
use mathlib.Core.Bool.{not}
use native.Mathlib.Omega.{arith}
use lib.Seq.{length-take-le}
use Rattle.syntax.proofs.FormulaLaws.{as-nothing, as-root}
use Rattle.formulas.proofs.WrittenLaws.{answers-wrote, same_tested}
use Rattle.formulas.proofs.ReduceLaws.{rebuild-gives, rebuild-long, rebuild-deep, rebuild-unread, rebuild-wide, rebuild-refused, rebuild-apart, rebuild-same, rebuild-text}
use Rattle.formulas.proofs.rebuild.Goals as goal

pub returns-then-formula-gt-FORMULA_LIMIT : goal.returns-then-formula-gt-FORMULA_LIMIT
returns-then-formula-gt-FORMULA_LIMIT c = rebuild-long _ _ c.if-formula-gt-FORMULA_LIMIT.true

pub returns-then-too_deep : goal.returns-then-too_deep
returns-then-too_deep c = rebuild-deep _ _ (sym c.too_deep.ensures ∙ c.if-too_deep.true)

pub returns-in_default : goal.returns-in_default
returns-in_default c = rebuild-unread _ _ (as-nothing c.in_default.ensures)

pub returns-then-rule_length-gt-LENGTH_LIMIT : goal.returns-then-rule_length-gt-LENGTH_LIMIT
returns-then-rule_length-gt-LENGTH_LIMIT c =
    rebuild-wide _ _ (as-root c.in-Some.ensures) c.rule_length.ensures c.if-rule_length-gt-LENGTH_LIMIT.true

pub returns-in_default-reduce : goal.returns-in_default-reduce
returns-in_default-reduce c =
    let t = as-root c.in-Some.ensures in
    rebuild-refused _ _ t.is (rebuild-text t c.write_rule-l.ensures) c.reduce.ensures c.in_default-reduce.is (omega (arith, c.if-formula-gt-FORMULA_LIMIT.false))

pub slice_bounds-sheet-end : goal.slice_bounds-sheet-end
slice_bounds-sheet-end c = (answers-wrote _ _ c.reduce.ensures c.in-Ok.is).fits

pub slice_bounds-ne-end : goal.slice_bounds-ne-end
slice_bounds-ne-end c = sym (length-take-le _ _ (answers-wrote _ _ c.reduce.ensures c.in-Ok.is).fits)

pub returns : goal.returns
returns c =
    rebuild-gives (rebuild-same _ c.reduce.ensures c.in-Ok.is (same_tested _ _ c.ne.ensures ∙ ap not c.if-ne.false)) c.lend.ensures

pub returns-then-ne : goal.returns-then-ne
returns-then-ne c =
    let t = as-root c.in-Some.ensures in
    rebuild-apart _ _ t.is (rebuild-text t c.write_rule-l.ensures) c.reduce.ensures c.in-Ok.is (same_tested _ _ c.ne.ensures ∙ ap not c.if-ne.true)
