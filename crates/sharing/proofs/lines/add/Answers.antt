-- `sharing::lines::add` meets its contract. The invariant: each line that was gone over has its summand, the others none yet.
-- Assumes nothing.
use mathlib.Core.Path.{◌≡◌, sym, ◌∙◌}
use mathlib.Core.Bool.{cond}
use mathlib.Core.List.{List}
use Prim.Native.Nat.{ℕ, ◌+◌, ◌<◌}
use native.Mathlib.Omega.{arith}
use lib.ListN.{length, get_or, length-set}
use Rattle.words.specs.Words.{has}
use Rattle.sharing.proofs.LineLaws.{going_end, turn}
use Rattle.sharing.proofs.AddedLaws.{added, more-is, more-not}
use Rattle.sharing.proofs.lines.add.Goals as goal
use Rattle.sharing.proofs.lines.add.Goals.{then-contains, else-contains}

pub contains-requires : goal.contains-requires
contains-requires c =
    omega (arith, (turn c.requires.lines.0 c.loop-rest.invariant.1 c.loop-rest-test.true c.lowest-l.ensures).few)

pub bounds-under-l : goal.bounds-under-l
bounds-under-l c =
    omega (arith, (turn c.requires.lines.0 c.loop-rest.invariant.1 c.loop-rest-test.true c.lowest-l.ensures).few, c.requires.lines.2)

pub bounds-breaking-l : goal.bounds-breaking-l
bounds-breaking-l c =
    omega (arith, (turn c.requires.lines.0 c.loop-rest.invariant.1 c.loop-rest-test.true c.lowest-l.ensures).few, c.requires.lines.3, c.loop-rest.invariant.0)

pub bounds-breaking-l-in-loop-rest : goal.bounds-breaking-l-in-loop-rest
bounds-breaking-l-in-loop-rest c =
    omega (arith, (turn c.requires.lines.0 c.loop-rest.invariant.1 c.loop-rest-test.true c.lowest-l.ensures).few, c.requires.lines.3, c.loop-rest.invariant.0)

pub loop-rest-smaller : goal.loop-rest-smaller
loop-rest-smaller c =
    rw (c.less-rest.ensures, c.item.ensures) (turn c.requires.lines.0 c.loop-rest.invariant.1 c.loop-rest-test.true c.lowest-l.ensures).less

pub loop-rest-preserved : goal.loop-rest-preserved
loop-rest-preserved c =
    let more : c.if-contains.more ≡ cond (has c.args.closed c.lowest-l.result) c.args.full (get_or c.args.under.now c.lowest-l.result 0) = let l : ℕ = c.lowest-l.result in
    elim c.if-contains.branch [
      | then-contains w ↦ w.more-is ∙ more-is (has c.args.closed l) c.args.full (get_or c.args.under.now l 0) (sym c.contains.ensures ∙ w.if-contains.true)
      | else-contains w ↦ w.more-is ∙ more-not (has c.args.closed l) c.args.full (get_or c.args.under.now l 0) (sym c.contains.ensures ∙ w.if-contains.false)
    ] in
    let here = turn c.requires.lines.0 c.loop-rest.invariant.1 c.loop-rest-test.true c.lowest-l.ensures in
    let now : List ℕ = c.loop-rest.breaking in
    let l : ℕ = c.lowest-l.result in
    let fits : l < length now = omega (arith, here.few, c.requires.lines.3, c.loop-rest.invariant.0) in (
      length-set now l (get_or now l 0 + c.if-contains.more) ∙ c.loop-rest.invariant.0,
      rw (c.less-rest.ensures, c.item.ensures) (added c.args.closed c.args.full c.args.under.now c.args.breaking.now now here fits c.if-contains.more more c.loop-rest.invariant.1),
    )

pub returns : goal.returns
returns c =
    record { long = c.loop-rest.invariant.0; each = λ l h. going_end c.loop-rest.invariant.1 c.loop-rest-test.false l h; other = λ l z. c.loop-rest.invariant.1.outside l z }
