-- `sharing::lines::failed` meets its contract. The invariant: of the lines that were gone over, those found have a false clause; no other line is found.
-- Assumes nothing.
use mathlib.Core.Path.{sym, ◌∙◌}
use mathlib.Core.Bool.{true≢false}
use mathlib.Core.Logic.{⊎_elim}
use Prim.Native.Nat.{ℕ}
use native.Mathlib.Omega.{arith}
use lib.Dec.{lit<}
use Rattle.words.specs.Words.{has}
use Rattle.words.proofs.WordsLaws.{has-zero, join-lt}
use Rattle.sharing.proofs.LineLaws.{going_start, going_end, turn}
use Rattle.sharing.proofs.WalkLaws.{true-or-false}
use Rattle.sharing.proofs.FailedLaws.{Told, Untold, false-on, true-on}
use Rattle.sharing.proofs.lines.failed.Goals as goal

pub loop-rest-init : goal.loop-rest-init
loop-rest-init c =
    (lit< tt, going_start (Told c.args.plan.now c.args.lines.now c.args.cache.now c.args.level 0) (Untold 0) c.requires.2 (λ l. has-zero l))

pub bounds-lines-l : goal.bounds-lines-l
bounds-lines-l c =
    omega (arith, (turn c.requires.2 c.loop-rest.invariant.1 c.loop-rest-test.true c.lowest-l.ensures).few, c.requires.3.long)

pub bounds-lines-l-in-loop-rest : goal.bounds-lines-l-in-loop-rest
bounds-lines-l-in-loop-rest c =
    omega (arith, (turn c.requires.2 c.loop-rest.invariant.1 c.loop-rest-test.true c.lowest-l.ensures).few, c.requires.3.long)

pub holds_among-requires : goal.holds_among-requires
holds_among-requires c =
    let here = turn c.requires.2 c.loop-rest.invariant.1 c.loop-rest-test.true c.lowest-l.ensures in
    let l : ℕ = c.lowest-l.result in
    (c.requires.0, c.requires.1, c.requires.3.begins l here.within, c.requires.3.ends l here.within)

pub loop-rest-smaller-then-not-holds_among : goal.loop-rest-smaller-then-not-holds_among
loop-rest-smaller-then-not-holds_among c =
    rw (c.less-rest.ensures, c.item.ensures) (turn c.requires.2 c.loop-rest.invariant.1 c.loop-rest-test.true c.lowest-l.ensures).less

pub loop-rest-preserved-then-not-holds_among : goal.loop-rest-preserved-then-not-holds_among
loop-rest-preserved-then-not-holds_among c =
    let found : ℕ = c.loop-rest.found in
    rw (c.join-found.ensures, c.item-then-not-holds_among.ensures, c.less-rest.ensures, c.item.ensures) (
      join-lt found _,
      false-on c.args.plan.now c.args.lines.now c.args.cache.now c.args.level found c.loop-rest.invariant.0 (turn c.requires.2 c.loop-rest.invariant.1 c.loop-rest-test.true c.lowest-l.ensures)
          c.holds_among.result c.if-not-holds_among.true c.holds_among.ensures c.loop-rest.invariant.1,
    )

pub loop-rest-smaller : goal.loop-rest-smaller
loop-rest-smaller c =
    rw (c.less-rest.ensures, c.item.ensures) (turn c.requires.2 c.loop-rest.invariant.1 c.loop-rest-test.true c.lowest-l.ensures).less

pub loop-rest-preserved : goal.loop-rest-preserved
loop-rest-preserved c =
    rw (c.less-rest.ensures, c.item.ensures) (
      c.loop-rest.invariant.0,
      true-on c.args.plan.now c.args.lines.now c.args.cache.now c.args.level c.loop-rest.found (turn c.requires.2 c.loop-rest.invariant.1 c.loop-rest-test.true c.lowest-l.ensures)
          c.holds_among.result c.if-not-holds_among.false c.holds_among.ensures c.loop-rest.invariant.1,
    )

pub returns : goal.returns
returns c =
    record {
      small = c.loop-rest.invariant.0;
      inside = λ l h. ⊎_elim (λ a. a) (λ a. absurd (true≢false (sym h ∙ c.loop-rest.invariant.1.outside l a))) (true-or-false (has _ l));
      each = λ l h. going_end c.loop-rest.invariant.1 c.loop-rest-test.false l h;
    }
