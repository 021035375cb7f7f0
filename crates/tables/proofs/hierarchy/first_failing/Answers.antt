-- `tables::hierarchy::first_failing`: the steps in their sequence.
-- Assumes nothing.
use mathlib.Core.Path.{sym, ◌∙◌}
use Rattle.tables.proofs.RankLaws.{step-one, step-two, step-three, step-none}
use Rattle.tables.proofs.hierarchy.first_failing.Goals as goal

pub returns-then-not-reflexive : goal.returns-then-not-reflexive
returns-then-not-reflexive c = λ below. sym (step-one c.args.rows.now (sym c.reflexive.ensures ∙ c.if-not-reflexive.true))

pub returns-then-not-transitive : goal.returns-then-not-transitive
returns-then-not-transitive c = λ below.
    let self = sym c.reflexive.ensures ∙ c.if-not-reflexive.false in
    sym (step-two c.args.rows.now self (sym (c.transitive.ensures below) ∙ c.if-not-transitive.true))

pub returns-then-not-antisymmetric : goal.returns-then-not-antisymmetric
returns-then-not-antisymmetric c = λ below.
    let self = sym c.reflexive.ensures ∙ c.if-not-reflexive.false in
    let along = sym (c.transitive.ensures below) ∙ c.if-not-transitive.false in
    sym (step-three c.args.rows.now self along (sym (c.antisymmetric.ensures below self along) ∙ c.if-not-antisymmetric.true))

pub returns : goal.returns
returns c = λ below.
    let self = sym c.reflexive.ensures ∙ c.if-not-reflexive.false in
    let along = sym (c.transitive.ensures below) ∙ c.if-not-transitive.false in
    sym (step-none c.args.rows.now self along (sym (c.antisymmetric.ensures below self along) ∙ c.if-not-antisymmetric.false))
