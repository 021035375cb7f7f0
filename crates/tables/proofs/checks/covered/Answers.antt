-- `tables::checks::covered`. Invariant: the rest without what the roles left dominate is what is to be empty in the end.
-- The measure is what is left, as a number. Assumes nothing.
use Prim.Native.Nat.{ℕ}
use mathlib.Core.Path.{◌≡◌, ap, ◌∙◌}
use lib.ListN.{get_or}
use Rattle.words.specs.Words.{item_of, less_of}
use Rattle.words.proofs.WordsLaws.{less-lt}
use Rattle.words.proofs.LoopLaws.{less-smaller, lowest-item}
use Rattle.tables.proofs.ReachLaws.{cover-turn, cover-end, cover-none}
use Rattle.tables.proofs.checks.covered.Goals as goal

pub returns-then-left-eq0 : goal.returns-then-left-eq0
returns-then-left-eq0 c =
    cover-none c.args.rows.now c.args.own c.args.over c.loop-rest.left c.loop-rest.rest c.loop-rest.invariant.2 c.if-left-eq0.true c.loop-rest.invariant.1 c.loop-rest-test.true

pub loop-rest-smaller : goal.loop-rest-smaller
loop-rest-smaller c =
    let l = lowest-item c.loop-rest.invariant.0 c.if-left-eq0.false c.lowest-r.ensures in
    rw (c.less-left.ensures, c.item.ensures) (less-smaller c.loop-rest.left c.lowest-r.result c.loop-rest.invariant.0 l (c.lowest-r.ensures.found l))

pub loop-rest-preserved : goal.loop-rest-preserved
loop-rest-preserved c =
    let r : ℕ = c.lowest-r.result in
    let l = lowest-item c.loop-rest.invariant.0 c.if-left-eq0.false c.lowest-r.ensures in
    let left : c.less-left.result ≡ less_of c.loop-rest.left (item_of r) = c.less-left.ensures ∙ ap (less_of c.loop-rest.left) c.item.ensures in
    let rest : c.less-rest.result ≡ less_of c.loop-rest.rest (get_or c.args.rows.now r 0) =
    c.less-rest.ensures ∙ ap (less_of c.loop-rest.rest) c.row.ensures in (
      rw left (less-lt c.loop-rest.left (item_of r)),
      rw rest (less-lt c.loop-rest.rest (get_or c.args.rows.now r 0)),
      rw (left, rest) (cover-turn c.args.rows.now c.loop-rest.rest c.loop-rest.left r l (c.lowest-r.ensures.found l) ∙ c.loop-rest.invariant.2),
    )

pub returns : goal.returns
returns c =
    cover-end c.args.rows.now c.args.own c.args.over c.loop-rest.left c.loop-rest.rest c.loop-rest.invariant.2 c.loop-rest-test.false
