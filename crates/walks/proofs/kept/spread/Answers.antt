-- `walks::kept::spread` meets its contract. The invariant: the mask has the bytes of the variables below u.
-- Assumes nothing.
use mathlib.Core.Path.{sym, ap, ◌∙◌}
use mathlib.Core.Bool.{true≢false}
use Prim.Native.Nat.{ℕ}
use native.Mathlib.Omega.{arith}
use Rattle.words.specs.Words.{has}
use Rattle.words.proofs.WordsLaws.{has-zero}
use Rattle.walks.proofs.BytesLaws.{masks-next, masks-out}
use Rattle.walks.proofs.kept.spread.Goals as goal
use Rattle.walks.proofs.kept.spread.Goals.{then-contains, else-contains}

pub returns-then-word-eq0 : goal.returns-then-word-eq0
returns-then-word-eq0 c = λ u i l m h. absurd (true≢false (sym h ∙ ap (λ (w : ℕ). has w u) c.if-word-eq0.true ∙ has-zero u))

pub loop-u-preserved : goal.loop-u-preserved
loop-u-preserved c =
    elim c.if-contains.branch [
      | then-contains w ↦ masks-next _ _ _ _ (omega arith) c.loop-u.invariant (w.mask-is ∙ w.join-mask.ensures)
      | else-contains w ↦ rw w.mask-is (masks-out _ _ _ (sym c.contains.ensures ∙ w.if-contains.false) c.loop-u.invariant)
    ]
