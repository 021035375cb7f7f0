-- `sharing::counting::last` meets its contract. The invariant: the sums of each line are those of the items but those of rest, and the cache is right.
-- Assumes nothing.
use mathlib.Core.Path.{refl, ◌∙◌}
use Prim.Native.Nat.{◌<◌}
use native.Mathlib.Omega.{arith}
use lib.ListN.{length-replicate}
use Prim.Native.Nat.{ℕ}
use Rattle.words.proofs.LoopLaws.{lowest-item, less-smaller}
use Rattle.sharing.proofs.StandingLaws.{active-line, among-all, settle-asks, failed-asks, last-turn, turn-fits, all-gone}
use Rattle.sharing.proofs.WalkLaws.{zeros-none, adds-last, outside-closed, turn-next}
use Rattle.sharing.proofs.counting.last.Goals as goal

pub settle-requires : goal.settle-requires
settle-requires c = settle-asks c.requires.0.is (omega (arith, c.requires.1)) _ c.loop-rest.invariant.0

pub failed-closed-requires : goal.failed-closed-requires
failed-closed-requires c = failed-asks c.requires.0.is _ (c.settle.auto.cache ∙ c.loop-rest.invariant.0)

pub add-requires : goal.add-requires
add-requires c =
    let S = c.requires.0.is in
    let some : 0 < c.args.at.left = omega (arith, c.requires.1) in
    let x = lowest-item c.loop-rest.invariant.2 c.loop-rest-test.true c.lowest-x.ensures in
    let r = c.loop-rest.invariant.4 S.held S.grouped S.stored in
    let u = last-turn S some S.grouped c.put-chosen.ensures c.settle.ensures c.failed-closed.ensures r.1 c.requires.1 in
    record {
      lines = (among-all S c.failed-closed.ensures.small c.failed-closed.ensures.inside, omega arith, length-replicate {A = ℕ} 32 0, c.loop-rest.invariant.1 ∙ S.counts);
      by_index = λ l a.
          let active = c.failed-closed.ensures.inside l a in
          (omega (arith, zeros-none l), omega (arith, (turn-fits S some S.grouped S.stored _ (u.0 l active) r.0 active x (c.lowest-x.ensures.found x)).1));
    }

pub overflow_add-full : goal.overflow_add-full
overflow_add-full c =
    let S = c.requires.0.is in
    let some : 0 < c.args.at.left = omega (arith, c.requires.1) in
    let x = lowest-item c.loop-rest.invariant.2 c.loop-rest-test.true c.lowest-x.ensures in
    let r = c.loop-rest.invariant.4 S.held S.grouped S.stored in
    let u = last-turn S some S.grouped c.put-chosen.ensures c.settle.ensures c.failed-closed.ensures r.1 c.requires.1 in
    let l = active-line S c.requires.2 in
    omega (arith, (turn-fits S some S.grouped S.stored _ (u.0 l.0 l.1) r.0 l.1 x (c.lowest-x.ensures.found x)).0)

pub loop-rest-smaller : goal.loop-rest-smaller
loop-rest-smaller c =
    let x = lowest-item c.loop-rest.invariant.2 c.loop-rest-test.true c.lowest-x.ensures in
    rw (c.less-rest.ensures, c.item.ensures) (less-smaller c.loop-rest.rest c.lowest-x.result c.loop-rest.invariant.2 x (c.lowest-x.ensures.found x))

pub loop-rest-preserved : goal.loop-rest-preserved
loop-rest-preserved c =
    let x = lowest-item c.loop-rest.invariant.2 c.loop-rest-test.true c.lowest-x.ensures in
    let smaller : c.less-rest.result < c.loop-rest.rest = rw (c.less-rest.ensures, c.item.ensures) (less-smaller c.loop-rest.rest c.lowest-x.result c.loop-rest.invariant.2 x (c.lowest-x.ensures.found x)) in (
      c.settle.auto.cache ∙ c.loop-rest.invariant.0,
      c.add.ensures.long ∙ c.loop-rest.invariant.1,
      omega (arith, c.loop-rest.invariant.2, smaller),
      λ l a. c.add.ensures.other l (outside-closed c.failed-closed.ensures l a) ∙ c.loop-rest.invariant.3 l a,
      λ h G st.
          let r = c.loop-rest.invariant.4 h G st in
          let u = last-turn c.requires.0.is (omega (arith, c.requires.1)) G c.put-chosen.ensures c.settle.ensures c.failed-closed.ensures r.1 c.requires.1 in
          (λ l a. rw (c.less-rest.ensures, c.item.ensures, adds-last c.add.ensures l) (turn-next G (u.0 l a) _ (r.0 l a) x (c.lowest-x.ensures.found x)), u.1),
    )

pub returns : goal.returns
returns c = λ kept. record {
  room = c.loop-rest.invariant.0;
  slots = refl;
  counts = c.loop-rest.invariant.1;
  other = c.loop-rest.invariant.3;
  goes = λ h G st ke.
      let r = c.loop-rest.invariant.4 h G st in
      let f = all-gone c.requires.0.is (omega (arith, c.requires.1)) G st _ r.0 c.loop-rest-test.false c.requires.2 in (f.0, f.1, r.1, ke);
}
