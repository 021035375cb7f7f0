-- `values::plan::step` meets its contract: each arm is a range of numbers.
-- Assumes nothing.
use native.Mathlib.Omega.{arith}
use Prim.Native.Nat.{◌≤◌}
use Rattle.walks.specs.Code.Kept.{choice_of}
use Rattle.syntax.specs.Code.Nodes.{first_pair}
use Rattle.values.proofs.TruthLaws.{low-two}
use Rattle.values.proofs.PlanLaws.{step_small, step-base, step-one, step_call, step-others, step-two}
use Rattle.values.proofs.plan.step.Goals as goal

pub returns-then-op-lt-FIRST_CALL : goal.returns-then-op-lt-FIRST_CALL
returns-then-op-lt-FIRST_CALL c = λ ns n ks vs next k d long h S T σ w a x F. step-base d long h S w (choice_of c.args.choice) a x _ c.operation-op.ensures c.base.result c.if-op-lt-FIRST_CALL.true (c.base.ensures T w.words)

pub returns-then-op-ge-MEMBER : goal.returns-then-op-ge-MEMBER
returns-then-op-ge-MEMBER c = λ ns n ks vs next k d long h S T σ w a x F. absurd (omega (arith, step_small d long h S w (choice_of c.args.choice) a x _ c.operation-op.ensures, c.if-op-ge-MEMBER.true))

pub returns-then-op-eq-OE : goal.returns-then-op-eq-OE
returns-then-op-eq-OE c =
    λ ns n ks vs next k d long h S T σ w a x F. step-one d long h S w (choice_of c.args.choice) a x _ c.operation-op.ensures c.chosen.result c.one.result c.if-op-eq-OE.true c.chosen.ensures (c.one.ensures T w.fits w.words)

pub returns-then-op-lt-OE : goal.returns-then-op-lt-OE
returns-then-op-lt-OE c =
    λ ns n ks vs next k d long h S T σ w a x F. step_call d long h S w (choice_of c.args.choice) a x _ c.operation-op.ensures c.args.cache.now F c.left-left.result c.left-left.ensures c.call.result c.if-op-lt-FIRST_CALL.false c.if-op-lt-OE.true (c.call.ensures T w.fits w.words)

pub returns-then-op-eq-AO : goal.returns-then-op-eq-AO
returns-then-op-eq-AO c =
    λ ns n ks vs next k d long h S T σ w a x F. step-others d long h S w (choice_of c.args.choice) a x _ c.operation-op.ensures c.args.cache.now F c.left-left.result c.left-left.ensures c.chosen-then-op-eq-AO.result c.item.result c.less.result c.if-op-eq-AO.true c.chosen-then-op-eq-AO.ensures c.item.ensures c.less.ensures

pub bounds-cache-right : goal.bounds-cache-right
bounds-cache-right c =
    let low : first_pair ≤ c.operation-op.result = omega (arith, c.if-op-eq-OE.false, c.if-op-lt-OE.false, c.if-op-eq-AO.false) in
    omega (arith, low-two c.requires.1 (omega (arith, c.operation-op.ensures)) (omega (arith, c.if-op-ge-MEMBER.false, c.operation-op.ensures)), c.right-right.ensures)

pub returns : goal.returns
returns c =
    λ ns n ks vs next k d long h S T σ w a x F.
    let low : first_pair ≤ c.operation-op.result = omega (arith, c.if-op-eq-OE.false, c.if-op-lt-OE.false, c.if-op-eq-AO.false) in
    step-two d long h S w (choice_of c.args.choice) a x _ c.operation-op.ensures c.args.cache.now F c.left-left.result c.left-left.ensures c.right-right.result c.two.result c.right-right.ensures low (c.two.ensures T w.fits w.words)
