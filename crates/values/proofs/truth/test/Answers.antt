-- `values::truth::test` meets its contract: each arm is a range of numbers.
-- Assumes nothing.
use mathlib.Core.Logic.{inl, inr}
use mathlib.Core.Path.{refl, ap, ◌∙◌}
use native.Mathlib.Omega.{arith}
use Rattle.syntax.specs.Rule.{Cmp}
use Rattle.values.specs.Truth.{compared}
use Rattle.values.proofs.TruthLaws.{of_range, of-related, of-empty, of_number, of-count, low-two, low-two₂}
use Rattle.values.proofs.truth.test.Goals as goal

pub returns-then-op-lt-MEMBER : goal.returns-then-op-lt-MEMBER
returns-then-op-lt-MEMBER c = λ ns n p x T σ d K.
    let within = of_range x _ _ _ c.operation-op.ensures refl refl in
    elim c.then-op-lt-MEMBER.either [
      | inl h ↦ absurd (omega (arith, within.least, h))
      | inr h ↦ absurd (omega (arith, within.most, h.1))
    ]

pub bounds-cache-right : goal.bounds-cache-right
bounds-cache-right c =
    omega (arith, low-two c.requires (omega (arith, c.if-op-lt-MEMBER.false, c.operation-op.ensures)) (omega (arith, c.if-op-lt-IS_EMPTY.true, c.operation-op.ensures)), c.right-right.ensures)

pub returns-then-op-lt-IS_EMPTY : goal.returns-then-op-lt-IS_EMPTY
returns-then-op-lt-IS_EMPTY c =
    λ ns n p x T σ d K. of-related x _ _ _ c.operation-op.ensures c.left-left.ensures c.right-right.ensures T σ d c.args.cache.now K c.related.result c.if-op-lt-IS_EMPTY.true c.related.ensures

pub returns-then-op-lt-FIRST_NUMBERED : goal.returns-then-op-lt-FIRST_NUMBERED
returns-then-op-lt-FIRST_NUMBERED c =
    λ ns n p x T σ d K. of-empty x _ _ _ c.operation-op.ensures c.left-left.ensures c.right-right.ensures T σ d c.args.cache.now K c.empty.result c.if-op-lt-IS_EMPTY.false c.if-op-lt-FIRST_NUMBERED.true c.empty.ensures

pub returns-then-op-lt-FIRST_COUNTED : goal.returns-then-op-lt-FIRST_COUNTED
returns-then-op-lt-FIRST_COUNTED c =
    λ ns n p x T σ d K. of_number x _ _ _ c.operation-op.ensures c.left-left.ensures c.right-right.ensures T σ d c.args.cache.now K c.size-x.result c.holds.result c.if-op-lt-FIRST_NUMBERED.false c.if-op-lt-FIRST_COUNTED.true c.size-x.ensures (c.holds.ensures ∙ ap (λ (d : Cmp). compared d c.size-x.result c.right-right.result) c.numbered.ensures)

pub bounds-cache-right-2 : goal.bounds-cache-right-2
bounds-cache-right-2 c =
    omega (arith, low-two₂ c.requires (omega (arith, c.if-op-lt-FIRST_COUNTED.false, c.operation-op.ensures)), c.right-right.ensures)

pub returns : goal.returns
returns c =
    λ ns n p x T σ d K. of-count x _ _ _ c.operation-op.ensures c.left-left.ensures c.right-right.ensures T σ d c.args.cache.now K c.size-x.result c.size-y.result c.holds-2.result c.if-op-lt-FIRST_COUNTED.false c.size-x.ensures c.size-y.ensures (c.holds-2.ensures ∙ ap (λ (d : Cmp). compared d c.size-x.result c.size-y.result) c.numbered-2.ensures)
