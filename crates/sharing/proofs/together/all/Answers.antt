-- `sharing::together::all` meets its contract.
-- Assumes nothing.
use mathlib.Core.Path.{◌≡◌, refl, ◌∙◌}
use native.Mathlib.Omega.{arith}
use Prim.Native.Nat.{ℕ}
use lib.ListN.{get_or, length-replicate}
use Rattle.judging.proofs.CountingLaws.{plan-runs}
use Rattle.judging.specs.Code.Counting.{depth_of}
use Rattle.sharing.proofs.WalkLaws.{zeros-none, lines_left, ranged, full-small}
use Rattle.sharing.proofs.TogetherLaws.{every-line, is-line, kept_fresh, first-full, first_small, first-breaking}
use Rattle.sharing.proofs.together.all.Goals as goal

pub entered-requires : goal.entered-requires
entered-requires c =
    (c.requires.grouped.planned.whole, plan-runs c.requires.grouped.planned, refl, omega arith)

pub failed-closed-requires : goal.failed-closed-requires
failed-closed-requires c =
    (plan-runs c.requires.grouped.planned, c.entered.ensures.room, rw c.all.ensures (every-line c.args.many c.requires.few), ranged c.requires.grouped c.requires.long)

pub below-full-requires : goal.below-full-requires
below-full-requires c =
    let top : depth_of c.args.plan.now (get_or c.args.plan.now 850 0) ≡ 0 = omega arith in
    record {
      held = c.requires.held;
      grouped = c.requires.grouped;
      long = c.requires.long;
      listed = lines_left (every-line c.args.many c.requires.few) c.failed-closed.result _ (rw c.all.ensures at c.less.ensures);
      within = omega arith;
      room = c.entered.ensures.room;
      slots = c.requires.slots;
      counts = length-replicate {A = ℕ} 32 0;
      none = λ l a. zeros-none l;
      stored = rw top (c.entered.ensures.goes c.requires.held.layout c.requires.held.tables c.requires.held.rule c.requires.grouped.planned).0;
      keeps = kept_fresh c.requires.grouped c.args.kept.now c.requires.slots c.requires.fresh;
    }

pub add-requires : goal.add-requires
add-requires c =
    let top : depth_of c.args.plan.now (get_or c.args.plan.now 850 0) ≡ 0 = omega arith in
    let S = (c.entered.ensures.goes c.requires.held.layout c.requires.held.tables c.requires.held.rule c.requires.grouped.planned).0 in
    let K = kept_fresh c.requires.grouped c.args.kept.now c.requires.slots c.requires.fresh in
    let F = rw c.all.ensures at c.failed-closed.ensures in
    let E = every-line c.args.many c.requires.few in
    let full = first-full c.requires.grouped c.requires.few S K F top c.below-full.ensures in record { lines = (record { small = rw c.all.ensures E.small; few = omega arith; inside = λ l a. omega (arith, E.inside l (rw c.all.ensures at a), c.requires.few) }, full-small c.requires.grouped 0 _ _ full, c.below-full.ensures.counts ∙ length-replicate {A = ℕ} 32 0, c.requires.counts); by_index = λ l a. (first_small c.requires.grouped c.requires.few S K F top c.below-full.ensures (rw c.all.ensures at c.less.ensures) l (E.inside l (rw c.all.ensures at a)) zeros-none, omega (arith, c.requires.none l)) }

pub returns : goal.returns
returns c =
    let top : depth_of c.args.plan.now (get_or c.args.plan.now 850 0) ≡ 0 = omega arith in
    let F = rw c.all.ensures at c.failed-closed.ensures in
    record {
      long = c.add.ensures.long ∙ c.requires.counts;
      goes = λ h G.
          let S = (c.entered.ensures.goes h.layout h.tables h.rule G.planned).0 in
          let K = kept_fresh G c.args.kept.now c.requires.slots c.requires.fresh in (
            first-full G c.requires.few S K F top c.below-full.ensures,
            λ l m. first-breaking G c.requires.few S K F top c.below-full.ensures (rw c.all.ensures at c.less.ensures) l m _ _ (c.requires.none l) (c.add.ensures.each l (rw c.all.ensures (is-line c.args.many l c.requires.few m))),
          );
    }
