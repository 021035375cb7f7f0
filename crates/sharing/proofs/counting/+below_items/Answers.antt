-- The proof of the cycle of calls {below, items}. The measure is twice the variables left, and one more for `below`; the loop's invariant: the
-- sums of each line are those of the items but those of rest, and the cache and what is kept are right. Assumes nothing.
use mathlib.Core.Path.{◌≡◌, refl, sym, ◌∙◌}
use mathlib.Core.Bool.{false, true≢false}
use mathlib.Core.Logic.{⊎_elim}
use native.Mathlib.Omega.{arith}
use lib.ListN.{length, length-replicate}
use lib.Seq.{length_front}
use Rattle.words.specs.Words.{has}
use Rattle.words.proofs.WordsLaws.{has-zero}
use Rattle.words.proofs.LoopLaws.{lowest-item, less-smaller}
use Rattle.judging.specs.Code.Counting.{depth_of}
use Rattle.sharing.proofs.LineLaws.{hit-for}
use Rattle.sharing.proofs.StandingLaws.{active-line, among-all, settle-asks, failed-asks, one-deeper, next-in, inner-turn, turn-fits, all-gone}
use Rattle.sharing.proofs.WalkLaws.{some_line, zeros-none, lines_left, outside-less, true-or-false, line-end, line_small, turn-next, entered-for, found-for, kept-front}
use Prim.Native.Nat.{ℕ, ◌<◌, ◌≤◌, ◌+◌, ◌-◌}
use Rattle.sharing.proofs.counting.+below_items.Goals as goal

pub below-returns-then-at-eq0 : goal.below-returns-then-at-eq0
below-returns-then-at-eq0 t c =
    record {
      room = c.below.ensures.room;
      slots = length_front c.args.kept.now c.below.new.kept 3072 c.below.ensures.slots;
      counts = refl;
      other = λ l a. refl;
      goes = λ h G st ke.
          let r = c.below.ensures.goes h.layout h.tables h.rule G.planned st ke.whole in
          (r.0.fulls, λ l a. absurd (true≢false (sym (rw c.if-at-eq0.true at a) ∙ has-zero l)), r.1, kept-front G ke c.requires.slots r.2 c.below.ensures.slots);
    }

pub below-returns-then-at-eq0-2 : goal.below-returns-then-at-eq0-2
below-returns-then-at-eq0-2 t c =
    let d : ℕ = depth_of c.args.plan.now c.args.at.left in
    record {
      room = refl;
      slots = refl;
      counts = refl;
      other = λ l a. refl;
      goes = λ h G st ke.
          let end : length h.layout.order ≤ d = omega (arith, G.planned.turns.many, c.if-at-eq0-2.true) in
          ((line-end G 0 d c.args.at.choice end 0 refl).fulls, λ l a. line-end G l d c.args.at.choice end _ (c.requires.none l a), st, ke);
    }

pub below-known-requires : goal.below-known-requires
below-known-requires t c =
    let l : ℕ = c.lowest.result in
    let here = lowest-item c.requires.listed.small c.if-at-eq0.false c.lowest.ensures in
    let active = c.lowest.ensures.found here in
    let hit = c.looked-missing.ensures.hits l active (rw c.if-missing-eq0.true (has-zero l)) in record { many_le_lines_limit = (c.requires.listed.few, c.requires.long, omega (arith, c.if-d-eq0.false), omega (arith, c.requires.grouped.planned.turns.many, c.requires.grouped.planned.turns.short, c.if-at-eq0-2.false), omega (arith, c.requires.listed.few, c.requires.listed.inside l active)); hit_for = record { fits = hit.fits; there = hit.there; key = hit.key; is = refl } }

pub below-returns-then-missing-eq0 : goal.below-returns-then-missing-eq0
below-returns-then-missing-eq0 t c =
    let choice : ℕ = c.args.at.choice in
    let d : ℕ = depth_of c.args.plan.now c.args.at.left in
    let l : ℕ = c.lowest.result in
    let here = lowest-item c.requires.listed.small c.if-at-eq0.false c.lowest.ensures in
    let active = c.lowest.ensures.found here in
    let none : (k : ℕ) → has c.looked-missing.result k ≡ false = λ k. rw c.if-missing-eq0.true (has-zero k) in
    let deep : d - 1 + 1 ≡ d = omega (arith, c.if-d-eq0.false) in
    record {
      room = refl;
      slots = refl;
      counts = c.looked-missing.ensures.long;
      other = λ k a. c.looked-missing.ensures.outside k a;
      goes = λ h G st ke.
          let lo : d - 1 + 1 < length h.layout.order = omega (arith, G.planned.turns.many, c.requires.within, c.if-at-eq0-2.false, c.if-d-eq0.false) in
          let full = c.known.ensures ∙ (hit-for G ke (d - 1) l choice _ lo (c.requires.listed.inside l active) (c.looked-missing.ensures.hits l active (none l))).fulls in
          (rw deep at full, λ k a. rw deep at (found-for G ke (d - 1) choice c.requires.listed lo c.looked-missing.ensures _ full k a (none k) _ refl), st, ke);
    }

pub below-keep-requires : goal.below-keep-requires
below-keep-requires t c =
    let some = some_line c.looked-missing.result c.looked-missing.ensures.small c.if-missing-eq0.false in
    let r = c.items-full.ensures.goes c.requires.held c.requires.grouped c.requires.stored c.requires.keeps in (
      record { small = c.looked-missing.ensures.small; few = c.requires.listed.few; inside = λ l a. c.requires.listed.inside l (c.looked-missing.ensures.inside l a) },
      c.requires.long,
      omega (arith, c.if-d-eq0.false),
      omega (arith, c.requires.grouped.planned.turns.many, c.requires.grouped.planned.turns.short, c.if-at-eq0-2.false),
      (line_small c.requires.grouped some.0 _ (r.1 some.0 some.1)).0,
      c.items-full.ensures.counts ∙ c.looked-missing.ensures.long ∙ c.requires.counts,
    )

pub below-returns : goal.below-returns
below-returns t c =
    let choice : ℕ = c.args.at.choice in
    let d : ℕ = depth_of c.args.plan.now c.args.at.left in
    let deep : d - 1 + 1 ≡ d = omega (arith, c.if-d-eq0.false) in
    record {
      room = c.items-full.ensures.room;
      slots = c.keep.ensures.long ∙ c.items-full.ensures.slots;
      counts = c.items-full.ensures.counts ∙ c.looked-missing.ensures.long;
      other = λ l a. c.items-full.ensures.other l (outside-less c.looked-missing.ensures l a) ∙ c.looked-missing.ensures.outside l a;
      goes = λ h G st ke.
          let lo : d - 1 + 1 < length h.layout.order = omega (arith, G.planned.turns.many, c.requires.within, c.if-at-eq0-2.false, c.if-d-eq0.false) in
          let r = c.items-full.ensures.goes h G st ke in
          let full = rw (← deep) at r.0 in (
            r.0,
            λ l a. ⊎_elim (λ m. r.1 l m) (λ m. rw deep at (found-for G ke (d - 1) choice c.requires.listed lo c.looked-missing.ensures _ full l a m _ (c.items-full.ensures.other l m))) (true-or-false (has c.looked-missing.result l)),
            r.2,
            c.keep.ensures.goes c.args.t.now c.args.plan.now h G lo (λ l m. rw (← deep) at (r.1 l m)) r.3,
          );
    }

pub items-settle-requires : goal.items-settle-requires
items-settle-requires t c = settle-asks c.requires.0 c.requires.1 _ c.loop-rest.invariant.0

pub items-failed-closed-requires : goal.items-failed-closed-requires
items-failed-closed-requires t c = failed-asks c.requires.0 _ (c.settle.auto.cache ∙ c.loop-rest.invariant.0)

pub items-below-sum-requires : goal.items-below-sum-requires
items-below-sum-requires t c =
    let S = c.requires.0 in
    let r = c.loop-rest.invariant.5 S.held S.grouped S.stored S.keeps in (
      omega (arith, c.decreases, c.requires.1),
      record {
        held = S.held;
        grouped = S.grouped;
        long = S.long;
        listed = lines_left S.listed c.failed-closed.result _ c.less.ensures;
        within = omega (arith, S.within);
        room = c.settle.auto.cache ∙ c.loop-rest.invariant.0 ∙ S.room;
        slots = omega (arith, c.loop-rest.invariant.1, S.slots);
        counts = length-replicate {A = ℕ} 32 0;
        none = λ l a. zeros-none l;
        stored = rw (one-deeper S c.requires.1) (entered-for S.grouped c.args.at.choice c.lowest-x.result (depth_of c.args.plan.now c.args.at.left) c.put-chosen.result (next-in S c.requires.1 S.grouped) c.put-chosen.ensures c.settle.ensures r.1);
        keeps = r.2;
      },
    )

pub items-add-requires : goal.items-add-requires
items-add-requires t c =
    let S = c.requires.0 in
    let x = lowest-item c.loop-rest.invariant.3 c.loop-rest-test.true c.lowest-x.ensures in
    let r = c.loop-rest.invariant.5 S.held S.grouped S.stored S.keeps in
    let u = inner-turn S c.requires.1 S.grouped c.put-chosen.ensures c.settle.ensures c.failed-closed.ensures r.1 c.less.ensures c.below-sum.ensures r.2 in
    record {
      lines = (among-all S S.listed.small (λ l a. a), u.full, c.below-sum.ensures.counts ∙ length-replicate {A = ℕ} 32 0, c.loop-rest.invariant.2 ∙ S.counts);
      by_index = λ l a. (u.small l a, omega (arith, (turn-fits S c.requires.1 S.grouped S.stored _ (u.items l a) r.0 a x (c.lowest-x.ensures.found x)).1));
    }

pub items-overflow_add-full : goal.items-overflow_add-full
items-overflow_add-full t c =
    let S = c.requires.0 in
    let x = lowest-item c.loop-rest.invariant.3 c.loop-rest-test.true c.lowest-x.ensures in
    let r = c.loop-rest.invariant.5 S.held S.grouped S.stored S.keeps in
    let u = inner-turn S c.requires.1 S.grouped c.put-chosen.ensures c.settle.ensures c.failed-closed.ensures r.1 c.less.ensures c.below-sum.ensures r.2 in
    let l = active-line S c.requires.2 in
    omega (arith, (turn-fits S c.requires.1 S.grouped S.stored _ (u.items l.0 l.1) r.0 l.1 x (c.lowest-x.ensures.found x)).0)

pub items-loop-rest-smaller : goal.items-loop-rest-smaller
items-loop-rest-smaller t c =
    let x = lowest-item c.loop-rest.invariant.3 c.loop-rest-test.true c.lowest-x.ensures in
    rw (c.less-rest.ensures, c.item.ensures) (less-smaller c.loop-rest.rest c.lowest-x.result c.loop-rest.invariant.3 x (c.lowest-x.ensures.found x))

pub items-loop-rest-preserved : goal.items-loop-rest-preserved
items-loop-rest-preserved t c =
    let x = lowest-item c.loop-rest.invariant.3 c.loop-rest-test.true c.lowest-x.ensures in
    let smaller : c.less-rest.result < c.loop-rest.rest = rw (c.less-rest.ensures, c.item.ensures) (less-smaller c.loop-rest.rest c.lowest-x.result c.loop-rest.invariant.3 x (c.lowest-x.ensures.found x)) in (
      c.below-sum.ensures.room ∙ c.settle.auto.cache ∙ c.loop-rest.invariant.0,
      c.below-sum.ensures.slots ∙ c.loop-rest.invariant.1,
      c.add.ensures.long ∙ c.loop-rest.invariant.2,
      omega (arith, c.loop-rest.invariant.3, smaller),
      λ l a. c.add.ensures.other l a ∙ c.loop-rest.invariant.4 l a,
      λ h G st ke.
          let r = c.loop-rest.invariant.5 h G st ke in
          let u = inner-turn c.requires.0 c.requires.1 G c.put-chosen.ensures c.settle.ensures c.failed-closed.ensures r.1 c.less.ensures c.below-sum.ensures r.2 in
          (λ l a. rw (c.less-rest.ensures, c.item.ensures, c.add.ensures.each l a) (turn-next G (u.items l a) _ (r.0 l a) x (c.lowest-x.ensures.found x)), u.caches, u.keeps),
    )

pub items-returns : goal.items-returns
items-returns t c = record {
  room = c.loop-rest.invariant.0;
  slots = c.loop-rest.invariant.1;
  counts = c.loop-rest.invariant.2;
  other = c.loop-rest.invariant.4;
  goes = λ h G st ke.
      let r = c.loop-rest.invariant.5 h G st ke in
      let f = all-gone c.requires.0 c.requires.1 G st _ r.0 c.loop-rest-test.false c.requires.2 in (f.0, f.1, r.1, r.2);
}
