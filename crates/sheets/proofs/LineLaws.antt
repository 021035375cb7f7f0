-- Laws of a line's text: how long its parts are, and the three ways in which choices are written.
-- Assumes nothing.
use mathlib.Core.Path.{◌≡◌, sym, ap}
use mathlib.Core.List.{List, ◌++◌}
use Prim.Native.Nat.{ℕ, suc, ◌+◌, ◌≤◌, ◌<◌}
use native.Mathlib.Numerals.{add-one}
use native.Mathlib.Omega.{arith}
use borrow.Author.Tests.{eq-eqb, ne_eqb}
use lib.ListN.{length, drop, get_or, length-append, drop_of_length-le}
use lib.Seq.{drop-cons}
use Rattle.syntax.specs.Bytes.{ascii}
use Rattle.texts.specs.Code.Overwritten.{Overwritten}
use Rattle.texts.proofs.DecimalLaws.{digits-short}
use Rattle.texts.proofs.OverwrittenLaws.{none_written}
use Rattle.verdicts.specs.declared.Verdict.{Verdict}
use Rattle.sheets.specs.Line.{labelled, choices_from, counts_of, shared_of}

pub counts-short : (w : List ℕ) (v : Verdict) → length (counts_of w v) ≤ length w + 41
unfolding counts_of
counts-short w v = simp length-append (omega (arith, digits-short 20 v.full, digits-short 20 v.breaking))

pub shared-short : (w : List ℕ) (v : Verdict) → length (shared_of w v) ≤ length w + 62
unfolding shared_of
shared-short w v = simp length-append (omega (arith, counts-short w v, digits-short 20 v.share))

pub two-short : (w : List ℕ) (x : ℕ) (u : List ℕ) (y : ℕ) → length (labelled w x ++ labelled u y) ≤ length w + length u + 40
two-short w x u y = simp length-append (omega (arith, digits-short 20 x, digits-short 20 y))

module _ (first : List ℕ) (k : ℕ) where
  pub none_left : (old : List ℕ) → length first ≤ k → Overwritten (choices_from (k + 1) (drop k first)) old old 0
  unfolding choices_from
  none_left old h = rw (drop_of_length-le first h) (none_written old)

  pub none-chosen : (old : List ℕ) → k < length first → get_or first k 0 ≡ 255 → Overwritten (choices_from (k + 1) (drop k first)) old old 0
  unfolding choices_from
  none-chosen old h e = rw (drop-cons first k 0 h, eq-eqb (get_or first k 0) 255 e) (none_written old)

  pub one-chosen : {old new : List ℕ} {n : ℕ} → k < length first → (get_or first k 0 ≡ 255 → ⊥)
      → Overwritten ((labelled (ascii " v") (k + 1) ++ labelled (ascii "=") (get_or first k 0)) ++ choices_from (k + 1 + 1) (drop (k + 1) first)) old new n
      → Overwritten (choices_from (k + 1) (drop k first)) old new n
  unfolding choices_from
  one-chosen h e w =
      let a : suc (k + 1) ≡ k + 1 + 1 = omega arith in
      let b : drop (suc k) first ≡ drop (k + 1) first = ap (λ (n : ℕ). drop n first) (sym (add-one k)) in
      rw (drop-cons first k 0 h, ne_eqb (get_or first k 0) 255 e, a, b) w
