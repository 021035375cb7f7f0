-- `values::scopes::test` meets its contract.
-- Assumes nothing.
use mathlib.Core.Logic.{inl, inr}
use mathlib.Core.Path.{refl}
use native.Mathlib.Omega.{arith}
use Prim.Native.Nat.{◌<◌}
use Rattle.syntax.specs.Code.Nodes.{right_of}
use Rattle.values.proofs.TruthLaws.{of_range, low-two, low-two₂}
use Rattle.values.proofs.ScopeLaws.{scope-one, scope-two}
use Rattle.values.proofs.scopes.test.Goals as goal

pub returns-then-op-lt-MEMBER : goal.returns-then-op-lt-MEMBER
returns-then-op-lt-MEMBER c = λ ns n vs N low σ w p x u l. absurd (omega (arith, (of_range x _ _ _ c.operation-op.ensures refl refl).least, c.if-op-lt-MEMBER.true))

pub returns-then-op-lt-FIRST_COUNTED : goal.returns-then-op-lt-FIRST_COUNTED
returns-then-op-lt-FIRST_COUNTED c =
    λ ns n vs N low σ w p x u l.
    let b = low.left (omega (arith, c.if-op-lt-MEMBER.false, c.operation-op.ensures)) in
    scope-one x σ u _ _ _ c.operation-op.ensures c.left.ensures refl c.if-op-ge-IS_EMPTY.true c.if-op-lt-FIRST_COUNTED.true _ (λ s y. N _ (omega (arith, b, c.left.ensures)) σ w s y u l)

pub bounds-names-right : goal.bounds-names-right
bounds-names-right c =
    elim c.else-op-ge-IS_EMPTY.either [
      | inl h ↦ omega (arith, low-two₂ c.requires (omega (arith, h.1, c.operation-op.ensures)), c.right.ensures)
      | inr h ↦ omega (arith, low-two c.requires (omega (arith, c.if-op-lt-MEMBER.false, c.operation-op.ensures)) (omega (arith, h, c.operation-op.ensures)), c.right.ensures)
    ]

pub returns : goal.returns
returns c =
    λ ns n vs N low σ w p x u l.
    let a = low.left (omega (arith, c.if-op-lt-MEMBER.false, c.operation-op.ensures)) in
    let b : right_of c.args.node < n = elim c.else-op-ge-IS_EMPTY.either [
      | inl h ↦ low-two₂ low (omega (arith, h.1, c.operation-op.ensures))
      | inr h ↦ low-two low (omega (arith, c.if-op-lt-MEMBER.false, c.operation-op.ensures)) (omega (arith, h, c.operation-op.ensures))
    ] in
    scope-two x σ u _ _ _ c.operation-op.ensures c.left.ensures c.right.ensures (λ m. elim c.else-op-ge-IS_EMPTY.either [
      | inl h ↦ h.1
      | inr h ↦ absurd (omega arith)
    ]) l
    _ _ c.join.result (λ s y. N _ (omega (arith, a, c.left.ensures)) σ w s y u l) (λ s y. N _ (omega (arith, b, c.right.ensures)) σ w s y u l) c.join.ensures
