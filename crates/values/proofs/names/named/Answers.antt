-- `values::names::named` meets its contract.
-- Assumes nothing.
use mathlib.Core.Logic.{inl, inr}
use Prim.Native.Nat.{◌≤◌, ◌<◌}
use native.Mathlib.Omega.{arith}
use Rattle.syntax.specs.Code.Nodes.{first_pair, first_empty}
use Rattle.rules.proofs.NodeLaws.{left_below, right-below}
use Rattle.rules.proofs.ShapeLaws.{two-low}
use Rattle.values.proofs.NodeLaws.{term-small}
use Rattle.values.proofs.NamesLaws.{names-base, names-one, names-call, names-others, names-two}
use Rattle.values.proofs.names.named.Goals as goal

pub returns-then-op-lt-FIRST_CALL : goal.returns-then-op-lt-FIRST_CALL
returns-then-op-lt-FIRST_CALL c =
    λ σ w t x u l.
    elim c.then-op-lt-FIRST_CALL.either [
      | inl h ↦ names-base c.requires.0 w c.args.k c.requires.1 t x u l c.operation-op.ensures h
      | inr h ↦ absurd (omega (arith, term-small c.args.nodes.now c.args.k t x, c.operation-op.ensures, h.1))
    ]

pub returns-then-op-eq-OE : goal.returns-then-op-eq-OE
returns-then-op-eq-OE c =
    λ σ w t x u l. names-one c.requires.0 w c.args.k c.requires.1 t x u l c.operation-op.ensures c.left-below.ensures c.if-op-eq-OE.true c.own.result c.own.ensures

pub bounds-found-below : goal.bounds-found-below
bounds-found-below c =
    omega (arith, left_below c.requires.0 c.requires.1 c.operation-op.ensures c.left-below.ensures c.if-op-lt-FIRST_CALL.false, c.requires.2)

pub returns-then-op-lt-OE : goal.returns-then-op-lt-OE
returns-then-op-lt-OE c =
    λ σ w t x u l.
    let b = left_below c.requires.0 c.requires.1 c.operation-op.ensures c.left-below.ensures c.if-op-lt-FIRST_CALL.false in
    names-call c.requires.0 w c.args.k c.requires.1 t x u l c.operation-op.ensures c.left-below.ensures c.if-op-lt-FIRST_CALL.false c.if-op-lt-OE.true _ (λ a y. c.requires.3 _ b σ w a y u l)

pub returns-then-op-eq-AO : goal.returns-then-op-eq-AO
returns-then-op-eq-AO c =
    λ σ w t x u l.
    let b = left_below c.requires.0 c.requires.1 c.operation-op.ensures c.left-below.ensures c.if-op-lt-FIRST_CALL.false in
    names-others c.requires.0 w c.args.k c.requires.1 t x u l c.operation-op.ensures c.left-below.ensures c.if-op-eq-AO.true c.own-then-op-eq-AO.result _ c.join.result c.own-then-op-eq-AO.ensures (λ a y. c.requires.3 _ b σ w a y u l) c.join.ensures

pub bounds-found-right : goal.bounds-found-right
bounds-found-right c =
    let low : first_pair ≤ c.operation-op.result = omega (arith, c.if-op-eq-OE.false, c.if-op-lt-OE.false, c.if-op-eq-AO.false) in
    let high : c.operation-op.result < first_empty = omega (arith, c.if-op-ge-MEMBER.false) in
    omega (arith, right-below c.requires.0 c.requires.1 c.operation-op.ensures c.right.ensures (two-low _ low high), c.requires.2)

pub returns : goal.returns
returns c =
    λ σ w t x u l.
    let low : first_pair ≤ c.operation-op.result = omega (arith, c.if-op-eq-OE.false, c.if-op-lt-OE.false, c.if-op-eq-AO.false) in
    let high : c.operation-op.result < first_empty = omega (arith, c.if-op-ge-MEMBER.false) in
    let a = left_below c.requires.0 c.requires.1 c.operation-op.ensures c.left-below.ensures c.if-op-lt-FIRST_CALL.false in
    let b = right-below c.requires.0 c.requires.1 c.operation-op.ensures c.right.ensures (two-low _ low high) in
    names-two c.requires.0 w c.args.k c.requires.1 t x u l c.operation-op.ensures c.left-below.ensures low c.right.ensures _ _ c.join-2.result (λ s y. c.requires.3 _ a σ w s y u l) (λ s y. c.requires.3 _ b σ w s y u l) c.join-2.ensures
