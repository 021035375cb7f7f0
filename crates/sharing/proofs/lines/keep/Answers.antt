-- `sharing::lines::keep` meets its contract. The invariant: the counts of the lines that were gone over are kept, and what was kept is still right.
-- Assumes nothing.
use Prim.Native.Nat.{ℕ}
use native.Mathlib.Omega.{arith}
use Rattle.sharing.proofs.LineLaws.{Any, going_on, turn, key-at, keeps-next}
use Rattle.sharing.proofs.lines.keep.Goals as goal

pub bounds-lines-l : goal.bounds-lines-l
bounds-lines-l c =
    omega (arith, (turn c.requires.0 c.loop-rest.invariant.0 c.loop-rest-test.true c.lowest-l.ensures).few, c.requires.1, c.requires.3)

pub bounds-breaking-l : goal.bounds-breaking-l
bounds-breaking-l c =
    omega (arith, (turn c.requires.0 c.loop-rest.invariant.0 c.loop-rest-test.true c.lowest-l.ensures).few, c.requires.5)

pub slot-requires : goal.slot-requires
slot-requires c =
    (c.requires.0.few, c.requires.2, c.requires.3, (turn c.requires.0 c.loop-rest.invariant.0 c.loop-rest-test.true c.lowest-l.ensures).few)

pub loop-rest-smaller : goal.loop-rest-smaller
loop-rest-smaller c =
    rw (c.less-rest.ensures, c.item.ensures) (turn c.requires.0 c.loop-rest.invariant.0 c.loop-rest-test.true c.lowest-l.ensures).less

pub loop-rest-preserved : goal.loop-rest-preserved
loop-rest-preserved c =
    let l : ℕ = c.lowest-l.result in
    let t = (turn c.requires.0 c.loop-rest.invariant.0 c.loop-rest-test.true c.lowest-l.ensures) in
    let key = key-at c.args.lines.now l c.args.d c.args.at.choice c.meet-key.result c.requires.2 c.meet-key.ensures in (
      rw (c.less-rest.ensures, c.item.ensures) (going_on Any Any Any Any t c.loop-rest.invariant.0 tt (λ j ne p. tt) (λ j ne q. tt)),
      keeps-next l c.meet-key.result c.slot.result t.counted t.within key c.slot.ensures.0 c.keep.ensures c.loop-rest.invariant.1,
    )
