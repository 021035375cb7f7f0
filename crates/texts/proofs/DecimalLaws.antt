-- Laws of decimal digits: how many there are, and the three ways in which they are written.
-- Assumes nothing.
use mathlib.Core.Path.{◌≡◌, refl}
use mathlib.Core.Bool.{Bool, true, false}
use mathlib.Core.List.{List, ◌++◌}
use Prim.Native.Nat.{ℕ, zero, suc, ◌+◌, ◌-◌, ◌/◌, ◌%◌, ◌≤◌, ◌<◌}
use native.Mathlib.Omega.{arith}
use borrow.Author.Tests.{lt-ltb, le-ltb, ne_eqb}
use lib.Dec.{ltb}
use lib.ListN.{length, set, length-append}
use Rattle.texts.specs.Code.Overwritten.{Overwritten}
use Rattle.texts.specs.Decimal.{last_digit, digits_to, decimal_of}
use Rattle.texts.proofs.OverwrittenLaws.{none_written, written_byte}
use Rattle.texts.proofs.PiecesLaws.{free, free-append}

pub digits-short : (k n : ℕ) → length (digits_to k n) ≤ k
unfolding digits_to
digits-short zero n = omega arith
digits-short (suc k) n = go (ltb n 10) (digits_to k (n / 10)) (digits-short k (n / 10))
  where
    go : (b : Bool) (w : List ℕ) → length w ≤ k → length (last_digit b n w) ≤ suc k
    go true w h = omega arith
    go false w h = simp length-append (omega arith)

-- A byte below the digits does not stand among them.
pub digits-free : (c k n : ℕ) → c < 48 → free c (digits_to k n) ≡ true
unfolding digits_to free
digits-free c zero n h = refl
digits-free c (suc k) n h = go (ltb n 10) (digits_to k (n / 10)) (digits-free c k (n / 10) h)
  where
    go : (b : Bool) (w : List ℕ) → free c w ≡ true → free c (last_digit b n w) ≡ true
    go true w f = rw (ne_eqb (48 + n) c (λ e. omega arith))
    go false w f = free-append c w _ f (rw (ne_eqb (48 + n % 10) c (λ e. omega arith)))

pub digits-room : (k n : ℕ) {old new : List ℕ} {i : ℕ} → Overwritten (digits_to k n) old new i → i ≤ k
digits-room k n r = omega (arith, r.count, digits-short k n)

pub digits-none : (k n : ℕ) (old : List ℕ) → k ≡ 0 → Overwritten (digits_to k n) old old 0
unfolding digits_to
digits-none zero n old e = none_written old
digits-none (suc k) n old e = absurd (omega arith)

pub digits-one : (k n : ℕ) (old : List ℕ) → (k ≡ 0 → ⊥) → n < 10 → k ≤ length old → Overwritten (digits_to k n) old (set old 0 (48 + n)) 1
unfolding digits_to
digits-one zero n old z h l = absurd (z refl)
digits-one (suc k) n old z h l = rw (lt-ltb n 10 h) (written_byte (48 + n) (none_written old) (omega arith))

pub digits_more : (k n : ℕ) {old mid : List ℕ} {i : ℕ} → (k ≡ 0 → ⊥) → 10 ≤ n → k ≤ length old → Overwritten (digits_to (k - 1) (n / 10)) old mid i → Overwritten (digits_to k n) old (set mid i (48 + n % 10)) (i + 1)
unfolding digits_to
digits_more zero n z h l r = absurd (z refl)
digits_more (suc k) n z h l r =
    let e : suc k - 1 ≡ k = omega arith in
    let r' = rw e at r in rw (le-ltb n 10 h) (written_byte (48 + n % 10) r' (omega (arith, digits-room k (n / 10) r')))

-- A number behind a text.
pub labelled-short : (w : List ℕ) (n : ℕ) → length (w ++ decimal_of n) ≤ length w + 20
labelled-short w n = simp length-append (omega (arith, digits-short 20 n))
