-- The proof of the cycle of calls {below, items}. The measure is twice the variables left, and one more for `below`; the loop's invariant: the
-- two sums are those of the items but those of rest, and the cache and what is kept are right. Assumes nothing.
use mathlib.Core.Path.{◌≡◌, refl, ap, ◌∙◌}
use native.Mathlib.Omega.{arith}
use lib.ListN.{length, set}
use Rattle.words.proofs.LoopLaws.{lowest-item, less-smaller}
use Rattle.walks.specs.Code.Kept.{choice_of}
use Rattle.walks.proofs.KeptLaws.{keeping-length}
use Rattle.judging.specs.Code.Counting.{depth_of}
use Rattle.judging.proofs.CountingLaws.{plan-runs, set-in, caches-on, counted-fits, below-whole, below_last, below-hit, below-write, items-next, items-room, items-end, turned}
use Prim.Native.Nat.{ℕ, ◌<◌, ◌+◌, ◌-◌}
use Rattle.judging.proofs.counting.+below_items.Goals as goal

pub below-returns-then-left-eq0 : goal.below-returns-then-left-eq0
below-returns-then-left-eq0 t c =
    record {
      room = refl;
      slots = refl;
      goes = λ y T ρ P st ke. (below-whole P c.args.mode (depth_of c.args.plan.now c.args.left) c.args.choice c.requires.modes (omega (arith, P.turns.many, c.if-left-eq0.true)), st, ke);
    }

pub below-returns-then-mode-left-eq1 : goal.below-returns-then-mode-left-eq1
below-returns-then-mode-left-eq1 t c =
    let d : ℕ = depth_of c.args.plan.now c.args.left in
    record {
      room = refl;
      slots = refl;
      goes = λ y T ρ P st ke. (
        below_last P c.args.mode d c.args.choice (omega (arith, P.turns.many, c.requires.within, c.if-left-eq0.false)) st (omega (arith, c.if-mode-left-eq1.true, c.if-left-eq0.false)) (omega (arith, P.turns.many, c.requires.within, c.if-mode-left-eq1.true, c.if-left-eq0.false)) c.size-size.result c.size-size.ensures,
        st,
        ke,
      );
    }

pub below-returns-in-Some : goal.below-returns-in-Some
below-returns-in-Some t c =
    let d : ℕ = depth_of c.args.plan.now c.args.left in
    let h = c.in-Some.ensures in
    record {
      room = refl;
      slots = refl;
      goes = λ y T ρ P st ke. (
        rw (h.fulls, h.breakings) (below-hit P c.args.mode d c.requires.modes (omega (arith, P.turns.many, c.requires.within, c.if-left-eq0.false)) c.slot-place.ensures c.args.choice c.meet-key.ensures ke h.fits h.there h.under),
        st,
        ke,
      );
    }

pub below-keep-requires : goal.below-keep-requires
below-keep-requires t c =
    (omega (arith, c.slot-place.ensures.is, c.slot-place.ensures.small, c.requires.modes, c.requires.planned.turns.many, c.requires.planned.turns.short, c.requires.within, c.if-left-eq0.false), counted-fits c.requires.planned c.args.choice (c.items-sum.ensures.goes c.requires.layout c.requires.tables c.requires.rule c.requires.planned c.requires.stored c.requires.keeps).0)

pub below-returns : goal.below-returns
below-returns t c =
    let d : ℕ = depth_of c.args.plan.now c.args.left in
    record {
      room = c.items-sum.ensures.room;
      slots = keeping-length c.slot-place.result c.items-sum.result.full c.items-sum.result.breaking c.meet-key.result c.keep.ensures ∙ c.items-sum.ensures.slots;
      goes = λ y T ρ P st ke.
          let r = c.items-sum.ensures.goes y T ρ P st ke in
          (r.0, r.1, below-write P c.args.mode d c.requires.modes (omega (arith, P.turns.many, c.requires.within, c.if-left-eq0.false)) c.slot-place.ensures c.args.choice c.meet-key.ensures r.2 r.0 c.keep.ensures);
    }

pub items-enter-next-requires : goal.items-enter-next-requires
items-enter-next-requires t c =
    (c.requires.0.planned.whole, plan-runs c.requires.0.planned, c.loop-rest.invariant.0 ∙ c.requires.0.room, omega (arith, c.requires.0.planned.turns.many, c.requires.0.planned.turns.short, c.requires.0.within, c.requires.1), c.requires.0.modes)

pub items-below-sum-requires : goal.items-below-sum-requires
items-below-sum-requires t c =
    let d : ℕ = depth_of c.args.plan.now c.args.left in
    let lo : d < length c.requires.0.layout.order = omega (arith, c.requires.0.planned.turns.many, c.requires.0.within, c.requires.1) in
    let put = c.put-chosen.ensures ∙ ap (λ (v : ℕ). set (choice_of c.args.choice) v c.lowest-x.result) (c.requires.0.planned.turns.variables d lo) in
    let r = c.loop-rest.invariant.3 c.requires.0.layout c.requires.0.tables c.requires.0.rule c.requires.0.planned c.requires.0.stored c.requires.0.keeps in
    let e = c.enter-next.ensures.goes c.requires.0.layout c.requires.0.tables c.requires.0.rule c.requires.0.planned (caches-on c.requires.0.planned c.args.choice c.put-chosen.result c.lowest-x.result d lo put r.1) in
    let deep : depth_of c.args.plan.now (c.args.left - 1) ≡ d + 1 = omega (arith, c.requires.0.within, c.requires.1) in (
      omega (arith, c.decreases, c.requires.1),
      record {
        layout = c.requires.0.layout;
        tables = c.requires.0.tables;
        rule = c.requires.0.rule;
        planned = c.requires.0.planned;
        modes = c.enter-next.ensures.modes;
        within = omega (arith, c.requires.0.within);
        room = c.enter-next.ensures.room ∙ c.loop-rest.invariant.0 ∙ c.requires.0.room;
        stored = rw deep e.0;
        keeps = r.2;
      },
    )

pub items-overflow_add-full : goal.items-overflow_add-full
items-overflow_add-full t c =
    let d : ℕ = depth_of c.args.plan.now c.args.left in
    let deep : depth_of c.args.plan.now (c.args.left - 1) ≡ d + 1 = omega (arith, c.requires.0.within, c.requires.1) in
    let l = lowest-item c.loop-rest.invariant.2 c.loop-rest-test.true c.lowest-x.ensures in
    let lo : d < length c.requires.0.layout.order = omega (arith, c.requires.0.planned.turns.many, c.requires.0.within, c.requires.1) in
    let r = c.loop-rest.invariant.3 c.requires.0.layout c.requires.0.tables c.requires.0.rule c.requires.0.planned c.requires.0.stored c.requires.0.keeps in
    let u = turned c.requires.0.planned c.args.choice c.lowest-x.result d (c.args.left - 1) lo deep c.put-chosen.ensures c.enter-next.ensures c.below-sum.ensures r.1 r.2 in
    omega (arith, (items-room c.requires.0.planned c.args.mode d c.args.choice _ c.put-chosen.result c.lowest-x.result u.0 u.1 u.2 lo (set-in c.requires.0.planned c.args.choice d lo c.requires.0.stored) r.0 l (c.lowest-x.ensures.found l)).0)

pub items-overflow_add-breaking : goal.items-overflow_add-breaking
items-overflow_add-breaking t c =
    let d : ℕ = depth_of c.args.plan.now c.args.left in
    let deep : depth_of c.args.plan.now (c.args.left - 1) ≡ d + 1 = omega (arith, c.requires.0.within, c.requires.1) in
    let l = lowest-item c.loop-rest.invariant.2 c.loop-rest-test.true c.lowest-x.ensures in
    let lo : d < length c.requires.0.layout.order = omega (arith, c.requires.0.planned.turns.many, c.requires.0.within, c.requires.1) in
    let r = c.loop-rest.invariant.3 c.requires.0.layout c.requires.0.tables c.requires.0.rule c.requires.0.planned c.requires.0.stored c.requires.0.keeps in
    let u = turned c.requires.0.planned c.args.choice c.lowest-x.result d (c.args.left - 1) lo deep c.put-chosen.ensures c.enter-next.ensures c.below-sum.ensures r.1 r.2 in
    omega (arith, (items-room c.requires.0.planned c.args.mode d c.args.choice _ c.put-chosen.result c.lowest-x.result u.0 u.1 u.2 lo (set-in c.requires.0.planned c.args.choice d lo c.requires.0.stored) r.0 l (c.lowest-x.ensures.found l)).1)

pub items-loop-rest-smaller : goal.items-loop-rest-smaller
items-loop-rest-smaller t c =
    let l = lowest-item c.loop-rest.invariant.2 c.loop-rest-test.true c.lowest-x.ensures in
    rw (c.less-rest.ensures, c.item.ensures) (less-smaller c.loop-rest.rest c.lowest-x.result c.loop-rest.invariant.2 l (c.lowest-x.ensures.found l))

pub items-loop-rest-preserved : goal.items-loop-rest-preserved
items-loop-rest-preserved t c =
    let d : ℕ = depth_of c.args.plan.now c.args.left in
    let deep : depth_of c.args.plan.now (c.args.left - 1) ≡ d + 1 = omega (arith, c.requires.0.within, c.requires.1) in
    let l = lowest-item c.loop-rest.invariant.2 c.loop-rest-test.true c.lowest-x.ensures in
    let smaller : c.less-rest.result < c.loop-rest.rest = rw (c.less-rest.ensures, c.item.ensures) (less-smaller c.loop-rest.rest c.lowest-x.result c.loop-rest.invariant.2 l (c.lowest-x.ensures.found l)) in (
      c.below-sum.ensures.room ∙ c.enter-next.ensures.room ∙ c.loop-rest.invariant.0,
      c.below-sum.ensures.slots ∙ c.loop-rest.invariant.1,
      omega (arith, c.loop-rest.invariant.2, smaller),
      λ y T ρ P st ke.
          let lo : d < length y.order = omega (arith, P.turns.many, c.requires.0.within, c.requires.1) in
          let r = c.loop-rest.invariant.3 y T ρ P st ke in
          let u = turned P c.args.choice c.lowest-x.result d (c.args.left - 1) lo deep c.put-chosen.ensures c.enter-next.ensures c.below-sum.ensures r.1 r.2 in
          (rw (c.less-rest.ensures, c.item.ensures) (items-next P c.args.mode d c.args.choice _ c.put-chosen.result c.lowest-x.result u.0 u.1 u.2 r.0 l (c.lowest-x.ensures.found l)), u.3, u.4),
    )

pub items-returns : goal.items-returns
items-returns t c =
    let d : ℕ = depth_of c.args.plan.now c.args.left in
    record {
      room = c.loop-rest.invariant.0;
      slots = c.loop-rest.invariant.1;
      goes = λ y T ρ P st ke.
          let r = c.loop-rest.invariant.3 y T ρ P st ke in
          let lo : d < length y.order = omega (arith, P.turns.many, c.requires.0.within, c.requires.1) in
          (items-end P c.args.mode d c.args.choice _ lo (set-in P c.args.choice d lo st) r.0 c.loop-rest-test.false, r.1, r.2);
    }
