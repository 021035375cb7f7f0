-- Writing a verdict's bytes one part after the other.
-- Assumes nothing.
use mathlib.Core.Path.{◌≡◌, refl, sym, ap, ap₂, ◌∙◌}
use mathlib.Core.List.{List, [], ◌∷◌, append-nil}
use Prim.Native.Nat.{ℕ, zero, suc, ◌-◌, ◌/◌, ◌%◌, ◌^◌, ◌≤◌}
use native.Mathlib.Nat.{div-one, div-div-eq-div-mul}
use native.Mathlib.Numerals.{unary_clauses}
use native.Mathlib.Omega.{arith}
use lib.ListN.{length, set, length-append, drop_of_length-le}
use borrow.Rule.Slice.PartMut.{mid_of, put_mid}
use Rattle.std.specs.Int.{bytes_low_first, byte_at}
use Rattle.tables.specs.Bytes.{lowest_first}
use Rattle.texts.specs.Code.Overwritten.{Overwritten, Behind}
use Rattle.texts.proofs.OverwrittenLaws.{none_written, written_byte, written-rest}
use Rattle.verdicts.specs.declared.Verdict.{Verdict}
use Rattle.verdicts.specs.Verdict.{written}

-- The bytes of a word, as std has them.
low-first : (i n w : ℕ) → bytes_low_first i n w ≡ lowest_first n (w / 256 ^ i)
unfolding lowest_first
low-first i zero w = refl
low-first i (suc n) w = ap₂ (λ (b : ℕ) (bs : List ℕ). b ∷ bs) (first i) (low-first (suc i) n w ∙ ap (lowest_first n) next)
  where
    first : (i : ℕ) → byte_at i w ≡ w / 256 ^ i % 256
    first zero = ap (λ (t : ℕ). t % 256) (sym (div-one w))
    first (suc i) = refl

    next : w / 256 ^ suc i ≡ w / 256 ^ i / 256
    next = simp unary_clauses (sym (div-div-eq-div-mul w (256 ^ i) 256))

pub low-bytes : (n w : ℕ) → bytes_low_first 0 n w ≡ lowest_first n w
low-bytes n w = low-first 0 n w ∙ ap (lowest_first n) (div-one w)

-- They are all there is where there was room for them alone.
pub word-alone : (w : ℕ) {mid new : List ℕ} → length mid ≡ 8 → Behind 0 (lowest_first 8 w) mid new → new ≡ lowest_first 8 w
unfolding lowest_first
word-alone w {mid} e b = (b [] mid (none_written mid)).bytes ∙ rw (drop_of_length-le mid {i = 8} (omega arith), append-nil (lowest_first 8 w))

-- The five parts one behind the other are the verdict's bytes.
pub all-written : {old d₁ d₂ d₃ : List ℕ} {n : ℕ} (word : ℕ) (v : Verdict) → 26 ≤ length old → length v.first ≡ 8
    → Behind 1 (lowest_first 8 v.full) (set old 0 word) d₁ → Behind 9 (lowest_first 8 v.breaking) d₁ d₂
    → Overwritten v.first (mid_of 17 (length d₂ - 17) d₂) d₃ n → Overwritten (written word v) old (set (put_mid 17 (length d₂ - 17) d₂ d₃) 25 v.share) 26
unfolding written lowest_first
all-written {old} word v room eight p₁ p₂ p₃ =
    let o = written_byte word (none_written old) (omega arith) in
    let q = written-rest (p₂ _ old (p₁ _ old o)) p₃ in
    written_byte v.share (rw (p₃.count, eight) at q) (omega arith)

-- A verdict has 26 bytes.
pub length-written : (word : ℕ) (v : Verdict) → length v.first ≡ 8 → length (written word v) ≡ 26
unfolding written lowest_first
length-written word v e = rw (length-append v.first (v.share ∷ []), e)
