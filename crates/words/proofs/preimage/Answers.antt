-- `words::preimage` meets its contract. Invariant: what was found are those of the first i items whose row meets w.
-- The measure is what is left of the rows. Assumes nothing.
use mathlib.Core.Path.{refl, sym, ap, ap₂, ◌∙◌}
use Prim.Native.Nat.{ℕ}
use native.Mathlib.Omega.{arith}
use lib.Seq.{length-take-le, get_or-take}
use Rattle.words.specs.Words.{word_of, join_of, meet_of}
use Rattle.words.proofs.LoopLaws.{turn_in, turn-out, preimage-end}
use Rattle.words.proofs.preimage.Goals as goal
use Rattle.words.proofs.preimage.Goals.{then-meet-ne0, else-meet-ne0}

pub loop-i-init : goal.loop-i-init
unfolding word_of
loop-i-init c = (omega arith, refl)

pub loop-i-preserved : goal.loop-i-preserved
loop-i-preserved c =
    let L = c.loop-i in
    let all = length-take-le c.min-n.result c.args.rows.now (omega arith) in
    let met = c.meet.ensures ∙ ap (λ (r : ℕ). meet_of r c.args.w) (get_or-take c.min-n.result c.args.rows.now L.i 0 (omega (arith, all))) in (
      omega (arith, all),
      elim c.if-meet-ne0.branch [
        | then-meet-ne0 w ↦ w.found-is ∙ w.join-found.ensures ∙ ap₂ join_of L.invariant.1 w.item.ensures ∙ turn_in c.args.rows.now c.args.w L.i (omega (arith, all)) (λ e. w.if-meet-ne0.true (met ∙ e))
        | else-meet-ne0 w ↦ w.found-is ∙ L.invariant.1 ∙ turn-out c.args.rows.now c.args.w L.i (sym met ∙ w.if-meet-ne0.false)
      ],
    )

pub returns : goal.returns
returns c =
    let L = c.loop-i in
    let all = length-take-le c.min-n.result c.args.rows.now (omega arith) in
    L.invariant.1 ∙ preimage-end c.args.rows.now c.args.w L.i (omega (arith, all))
