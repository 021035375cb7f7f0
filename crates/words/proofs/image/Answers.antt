-- `words::image` meets its contract. Invariant: what was found, joined with the image of what is left, is the image of w.
-- The measure is what is left, as a number. Assumes nothing.
use Prim.Native.Nat.{ℕ}
use mathlib.Core.Path.{◌≡◌, sym, ap, ◌∙◌}
use borrow.Author.Rules.{rules}
use lib.ListN.{get_or}
use Rattle.words.specs.Words.{item_of, join_of, less_of, image_of}
use Rattle.words.proofs.WordsLaws.{join-lt, less-lt}
use Rattle.words.proofs.LoopLaws.{image-begin, image-turn, image-end, less-smaller, lowest-item}
use Rattle.words.proofs.image.Goals as goal

pub loop-left-init : goal.loop-left-init
loop-left-init c = (c.ranges.w.fits, search rules, image-begin c.args.rows.now c.args.w)

pub loop-left-smaller : goal.loop-left-smaller
loop-left-smaller c =
    let L = c.loop-left in
    let low = c.lowest-i.ensures in
    let l = lowest-item L.invariant.0 c.loop-left-test.true low in
    rw (c.less-left.ensures, c.item.ensures) (less-smaller L.left c.lowest-i.result L.invariant.0 l (low.found l))

pub loop-left-preserved : goal.loop-left-preserved
loop-left-preserved c =
    let L = c.loop-left in
    let i : ℕ = c.lowest-i.result in
    let low = c.lowest-i.ensures in
    let l = lowest-item L.invariant.0 c.loop-left-test.true low in
    let left : c.less-left.result ≡ less_of L.left (item_of i) = c.less-left.ensures ∙ ap (less_of L.left) c.item.ensures in
    let found : c.join-found.result ≡ join_of L.found (get_or c.args.rows.now i 0) =
    c.join-found.ensures ∙ ap (join_of L.found) c.row.ensures in (
      rw left (less-lt L.left (item_of i)),
      rw found (join-lt L.found (get_or c.args.rows.now i 0)),
      rw (left, found) (image-turn c.args.rows.now L.found L.left i l (low.found l) ∙ L.invariant.2),
    )

pub returns : goal.returns
returns c =
    let L = c.loop-left in
    sym (image-end c.args.rows.now L.found L.invariant.1) ∙ ap (λ (x : ℕ). join_of L.found (image_of c.args.rows.now x)) (sym c.loop-left-test.false) ∙ L.invariant.2
