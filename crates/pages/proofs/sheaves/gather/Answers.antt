-- `pages::sheaves::gather` meets its contract. The invariant: the lines that were gone through are gathered, as many as fitted.
-- Assumes nothing.
use native.Mathlib.Omega.{arith}
use Rattle.words.proofs.LoopLaws.{less-smaller}
use Rattle.pages.proofs.LineLaws.{line-is}
use Rattle.pages.proofs.GatherLaws.{gathers-none, gathers-left, going_end, going_on, next, gathers-more}
use Rattle.pages.proofs.sheaves.gather.Goals as goal

pub loop-rest-init : goal.loop-rest-init
loop-rest-init c =
    record { small = c.requires.0.small; inside = λ j h. h; behind = λ j h. omega arith; gathers = gathers-none c.requires.1 }

pub add-requires-clause-line_value : goal.add-requires-clause-line_value
add-requires-clause-line_value c =
    rw (← line-is _ _ c.in-Some.ensures) (c.requires.0.accepted _ (next c.requires.0 c.loop-rest.invariant c.loop-rest-test.true c.lowest-j.ensures).wants)

pub returns-in_default-add : goal.returns-in_default-add
returns-in_default-add c =
    gathers-left c.loop-rest.invariant.gathers c.add.ensures c.in_default-add.is

pub bounds-members-lines : goal.bounds-members-lines
bounds-members-lines c =
    omega (arith, (next c.requires.0 c.loop-rest.invariant c.loop-rest-test.true c.lowest-j.ensures).room, c.loop-rest.invariant.gathers.members_of.for_members)

pub bounds-starts-lines : goal.bounds-starts-lines
bounds-starts-lines c =
    omega (arith, (next c.requires.0 c.loop-rest.invariant c.loop-rest-test.true c.lowest-j.ensures).room, c.loop-rest.invariant.gathers.members_of.for_starts)

pub crowded-requires : goal.crowded-requires
crowded-requires c =
    let N = next c.requires.0 c.loop-rest.invariant c.loop-rest-test.true c.lowest-j.ensures in
    let G = gathers-more c.requires.0 c.loop-rest.invariant c.loop-rest-test.true c.lowest-j.ensures c.add.ensures c.in-Some-add.is (line-is _ _ c.in-Some.ensures) in
    (omega (arith, N.room), G.sheaf.room.known)

pub loop-rest-preserved-then-crowded : goal.loop-rest-preserved-then-crowded
loop-rest-preserved-then-crowded c =
    going_end (gathers-more c.requires.0 c.loop-rest.invariant c.loop-rest-test.true c.lowest-j.ensures c.add.ensures c.in-Some-add.is (line-is _ _ c.in-Some.ensures))

pub loop-rest-smaller : goal.loop-rest-smaller
loop-rest-smaller c =
    let low = (next c.requires.0 c.loop-rest.invariant c.loop-rest-test.true c.lowest-j.ensures).low in
    rw (c.less-rest.ensures, c.item.ensures) (less-smaller c.loop-rest.rest c.lowest-j.result c.loop-rest.invariant.small low (c.lowest-j.ensures.found low))

pub loop-rest-preserved : goal.loop-rest-preserved
loop-rest-preserved c =
    let low = (next c.requires.0 c.loop-rest.invariant c.loop-rest-test.true c.lowest-j.ensures).low in
    rw (c.less-rest.ensures, c.item.ensures)
    (going_on c.args.wanted c.loop-rest.invariant.small c.loop-rest.invariant.inside c.loop-rest.invariant.behind c.lowest-j.ensures low
    (gathers-more c.requires.0 c.loop-rest.invariant c.loop-rest-test.true c.lowest-j.ensures c.add.ensures c.in-Some-add.is (line-is _ _ c.in-Some.ensures)))
