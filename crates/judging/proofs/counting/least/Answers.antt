-- `judging::counting::least` meets its contract. The invariant: below the items but those of rest nothing breaks, and the cache and what is
-- kept are right. Assumes nothing.
use mathlib.Core.Path.{◌≡◌, ap, ◌∙◌}
use Prim.Native.Nat.{ℕ, ◌+◌, ◌-◌, ◌<◌}
use native.Mathlib.Omega.{arith}
use lib.ListN.{length, set}
use Rattle.words.proofs.LoopLaws.{lowest-item, less-smaller}
use Rattle.walks.specs.Code.Kept.{choice_of}
use Rattle.judging.specs.Code.Counting.{depth_of}
use Rattle.judging.proofs.CountingLaws.{plan-runs, set-in, caches-on, turned}
use Rattle.judging.proofs.DescendLaws.{seeking-past, seeking-hit, below-is, least-some}
use Rattle.judging.proofs.counting.least.Goals as goal

pub enter-next-requires : goal.enter-next-requires
enter-next-requires c =
    (c.requires.0.planned.whole, plan-runs c.requires.0.planned, c.loop-rest.invariant.0 ∙ c.requires.0.room, omega (arith, c.requires.0.planned.turns.many, c.requires.0.planned.turns.short, c.requires.0.within, c.requires.1), c.requires.0.modes)

pub below-under-requires : goal.below-under-requires
below-under-requires c =
    let d : ℕ = depth_of c.args.plan.now c.args.left in
    let lo : d < length c.requires.0.layout.order = omega (arith, c.requires.0.planned.turns.many, c.requires.0.within, c.requires.1) in
    let put = c.put-chosen.ensures ∙ ap (λ (v : ℕ). set (choice_of c.args.choice) v c.lowest-x.result) (c.requires.0.planned.turns.variables d lo) in
    let r = c.loop-rest.invariant.3 c.requires.0.layout c.requires.0.tables c.requires.0.rule c.requires.0.planned c.requires.0.stored c.requires.0.keeps in
    let e = c.enter-next.ensures.goes c.requires.0.layout c.requires.0.tables c.requires.0.rule c.requires.0.planned (caches-on c.requires.0.planned c.args.choice c.put-chosen.result c.lowest-x.result d lo put r.1) in
    let deep : depth_of c.args.plan.now (c.args.left - 1) ≡ d + 1 = omega (arith, c.requires.0.within, c.requires.1) in
    record {
      layout = c.requires.0.layout;
      tables = c.requires.0.tables;
      rule = c.requires.0.rule;
      planned = c.requires.0.planned;
      modes = c.enter-next.ensures.modes;
      within = omega (arith, c.requires.0.within);
      room = c.enter-next.ensures.room ∙ c.loop-rest.invariant.0 ∙ c.requires.0.room;
      stored = rw deep e.0;
      keeps = r.2;
    }

pub returns-then-under-ne0 : goal.returns-then-under-ne0
returns-then-under-ne0 c =
    let d : ℕ = depth_of c.args.plan.now c.args.left in
    let deep : depth_of c.args.plan.now (c.args.left - 1) ≡ d + 1 = omega (arith, c.requires.0.within, c.requires.1) in
    let l = lowest-item c.loop-rest.invariant.2 c.loop-rest-test.true c.lowest-x.ensures in (
      l,
      record {
        room = c.below-under.ensures.room ∙ c.enter-next.ensures.room ∙ c.loop-rest.invariant.0;
        slots = c.below-under.ensures.slots ∙ c.loop-rest.invariant.1;
        goes = λ y T ρ P st ke.
            let lo : d < length y.order = omega (arith, P.turns.many, c.requires.0.within, c.requires.1) in
            let r = c.loop-rest.invariant.3 y T ρ P st ke in
            let u = turned P c.args.choice c.lowest-x.result d (c.args.left - 1) lo deep c.put-chosen.ensures c.enter-next.ensures c.below-under.ensures r.1 r.2 in
            let b = below-is P c.args.mode d c.args.choice c.put-chosen.result c.lowest-x.result u.0 u.1 u.2 in
            (λ some. seeking-hit r.0 c.lowest-x.result l (c.lowest-x.ensures.found l) c.lowest-x.ensures (omega (arith, b, c.if-under-ne0.true)), u.3, u.4);
      },
    )

pub loop-rest-smaller : goal.loop-rest-smaller
loop-rest-smaller c =
    let l = lowest-item c.loop-rest.invariant.2 c.loop-rest-test.true c.lowest-x.ensures in
    rw (c.less-rest.ensures, c.item.ensures) (less-smaller c.loop-rest.rest c.lowest-x.result c.loop-rest.invariant.2 l (c.lowest-x.ensures.found l))

pub loop-rest-preserved : goal.loop-rest-preserved
loop-rest-preserved c =
    let d : ℕ = depth_of c.args.plan.now c.args.left in
    let deep : depth_of c.args.plan.now (c.args.left - 1) ≡ d + 1 = omega (arith, c.requires.0.within, c.requires.1) in
    let l = lowest-item c.loop-rest.invariant.2 c.loop-rest-test.true c.lowest-x.ensures in
    let smaller : c.less-rest.result < c.loop-rest.rest = rw (c.less-rest.ensures, c.item.ensures) (less-smaller c.loop-rest.rest c.lowest-x.result c.loop-rest.invariant.2 l (c.lowest-x.ensures.found l)) in (
      c.below-under.ensures.room ∙ c.enter-next.ensures.room ∙ c.loop-rest.invariant.0,
      c.below-under.ensures.slots ∙ c.loop-rest.invariant.1,
      omega (arith, c.loop-rest.invariant.2, smaller),
      λ y T ρ P st ke.
          let lo : d < length y.order = omega (arith, P.turns.many, c.requires.0.within, c.requires.1) in
          let r = c.loop-rest.invariant.3 y T ρ P st ke in
          let u = turned P c.args.choice c.lowest-x.result d (c.args.left - 1) lo deep c.put-chosen.ensures c.enter-next.ensures c.below-under.ensures r.1 r.2 in
          let b = below-is P c.args.mode d c.args.choice c.put-chosen.result c.lowest-x.result u.0 u.1 u.2 in
          (rw (c.less-rest.ensures, c.item.ensures) (seeking-past r.0 c.lowest-x.result l (c.lowest-x.ensures.found l) (omega (arith, b, c.if-under-ne0.false))), u.3, u.4),
    )

pub returns : goal.returns
returns c =
    let d : ℕ = depth_of c.args.plan.now c.args.left in (
      omega arith,
      record {
        room = c.loop-rest.invariant.0;
        slots = c.loop-rest.invariant.1;
        goes = λ y T ρ P st ke.
            let lo : d < length y.order = omega (arith, P.turns.many, c.requires.0.within, c.requires.1) in
            let r = c.loop-rest.invariant.3 y T ρ P st ke in
            (least-some P c.args.mode d c.args.choice _ lo (set-in P c.args.choice d lo st) (rw c.loop-rest-test.false at r.0) 0, r.1, r.2);
      },
    )
