-- `sharing::lines::looked` meets its contract. The invariant: of the lines that were gone over, each has its kept count or is missing.
-- Assumes nothing.
use mathlib.Core.Path.{refl, ◌∙◌}
use mathlib.Core.List.{List}
use Prim.Native.Nat.{ℕ, ◌-◌, ◌<◌}
use native.Mathlib.Omega.{arith}
use lib.Dec.{lit<}
use lib.ListN.{length, length-set}
use Rattle.words.proofs.WordsLaws.{has-zero, join-lt}
use Rattle.sharing.proofs.LineLaws.{going_start, turn, key-at, hit-is}
use Rattle.sharing.proofs.LookedLaws.{Seen, Unseen, hit-on, miss-on, seen_all}
use Rattle.sharing.proofs.lines.looked.Goals as goal

pub loop-rest-init : goal.loop-rest-init
loop-rest-init c = (
  lit< tt,
  refl,
  going_start (Seen c.args.lines.now c.args.kept.now c.args.at.many (c.args.d - 1) c.args.at.choice c.args.breaking.now c.args.breaking.now 0)
      (Unseen c.args.lines.now c.args.kept.now c.args.at.many (c.args.d - 1) c.args.at.choice c.args.breaking.now c.args.breaking.now 0) c.requires.0 (λ l. (has-zero l, refl)),
)

pub bounds-lines-l : goal.bounds-lines-l
bounds-lines-l c =
    omega (arith, (turn c.requires.0 c.loop-rest.invariant.2 c.loop-rest-test.true c.lowest-l.ensures).few, c.requires.1, c.requires.3)

pub slot-place-requires : goal.slot-place-requires
slot-place-requires c =
    (c.requires.0.few, c.requires.2, c.requires.3, (turn c.requires.0 c.loop-rest.invariant.2 c.loop-rest-test.true c.lowest-l.ensures).few)

pub bounds-breaking-l : goal.bounds-breaking-l
bounds-breaking-l c =
    omega (arith, (turn c.requires.0 c.loop-rest.invariant.2 c.loop-rest-test.true c.lowest-l.ensures).few, c.requires.4, c.loop-rest.invariant.1)

pub loop-rest-smaller-in-Some : goal.loop-rest-smaller-in-Some
loop-rest-smaller-in-Some c =
    rw (c.less-rest.ensures, c.item.ensures) (turn c.requires.0 c.loop-rest.invariant.2 c.loop-rest-test.true c.lowest-l.ensures).less

pub loop-rest-preserved-in-Some : goal.loop-rest-preserved-in-Some
loop-rest-preserved-in-Some c =
    let here = turn c.requires.0 c.loop-rest.invariant.2 c.loop-rest-test.true c.lowest-l.ensures in
    let l : ℕ = c.lowest-l.result in
    let now : List ℕ = c.loop-rest.breaking in
    let H = c.in-Some.ensures in
    let count : ℕ = c.in-Some.counts.breaking in
    let key = key-at c.args.lines.now l c.args.d c.args.at.choice c.meet-key.result c.requires.2 c.meet-key.ensures in
    let found = hit-is c.args.lines.now c.args.kept.now c.args.at.many (c.args.d - 1) l c.args.at.choice c.meet-key.result c.slot-place.result count key
    c.slot-place.ensures.0 H.fits H.there H.under H.breakings in
    let fits : l < length now = omega (arith, here.few, c.requires.4, c.loop-rest.invariant.1) in (
      c.loop-rest.invariant.0,
      length-set now l count ∙ c.loop-rest.invariant.1,
      rw (c.less-rest.ensures, c.item.ensures)
          (hit-on c.args.lines.now c.args.kept.now c.args.at.many (c.args.d - 1) c.args.at.choice c.args.breaking.now now c.loop-rest.missing count here fits found c.loop-rest.invariant.2),
    )

pub loop-rest-smaller : goal.loop-rest-smaller
loop-rest-smaller c =
    rw (c.less-rest.ensures, c.item.ensures) (turn c.requires.0 c.loop-rest.invariant.2 c.loop-rest-test.true c.lowest-l.ensures).less

pub loop-rest-preserved : goal.loop-rest-preserved
loop-rest-preserved c =
    rw (c.join-missing.ensures, c.item-in-None.ensures, c.less-rest.ensures, c.item.ensures) (
      join-lt c.loop-rest.missing _,
      c.loop-rest.invariant.1,
      miss-on c.args.lines.now c.args.kept.now c.args.at.many (c.args.d - 1) c.args.at.choice c.args.breaking.now c.loop-rest.breaking c.loop-rest.missing c.loop-rest.invariant.0 (turn c.requires.0 c.loop-rest.invariant.2 c.loop-rest-test.true c.lowest-l.ensures) c.loop-rest.invariant.2,
    )

pub returns : goal.returns
returns c =
    seen_all c.args.lines.now c.args.kept.now c.args.at.many (c.args.d - 1) c.args.at.choice c.args.breaking.now c.loop-rest.invariant.0 c.loop-rest.invariant.1 c.loop-rest.invariant.2 c.loop-rest-test.false
