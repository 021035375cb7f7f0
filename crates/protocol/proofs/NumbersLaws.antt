-- Laws of decimal fields: one digit more.
-- Assumes nothing.
use mathlib.Core.Path.{◌≡◌, refl, ◌∙◌}
use mathlib.Core.List.{List, [], ◌∷◌}
use mathlib.Core.Option.{none, some}
use Prim.Native.Nat.{ℕ, ◌+◌, ◌*◌, ◌-◌, ◌≤◌, ◌<◌}
use native.Mathlib.Numerals.{add-one}
use native.Mathlib.Omega.{arith}
use borrow.Author.Tests.{le-leb, lt-leb}
use lib.ListN.{length, drop, get_or, drop_of_length-le}
use lib.Seq.{drop-cons}
use Rattle.protocol.specs.Numbers.{value_of, value_on}

-- The digits before place i stand for n.
pub record Valued (most : ℕ) (s : List ℕ) (n i : ℕ) : Type 0 where
  pub rest : value_of most s ≡ value_on most n (drop i s)

pub value-first : (most : ℕ) (s : List ℕ) → (length s ≡ 0 → ⊥) → Valued most s 0 0
unfolding value_of
value-first most [] h = absurd (h refl)
value-first most (c ∷ s) h = record { rest = refl }

pub value_none : (most : ℕ) (s : List ℕ) → length s ≡ 0 → value_of most s ≡ none
unfolding value_of
value_none most [] h = refl
value_none most (c ∷ s) h = absurd (omega arith)

module _ {most : ℕ} {s : List ℕ} {n i : ℕ} (v : Valued most s n i) where
  pub value-next : (d : ℕ) → i < length s → 48 ≤ get_or s i 0 → get_or s i 0 ≤ 57 → d + 48 ≡ get_or s i 0 → 10 * n + d ≤ most → Valued most s (10 * n + d) (i + 1)
  unfolding value_on
  value-next d h a b q f =
      let g : get_or s i 0 - 48 ≡ d = omega arith in
      record { rest = v.rest ∙ rw (add-one i, drop-cons s i 0 h, le-leb 48 (get_or s i 0) a, le-leb (get_or s i 0) 57 b, g, le-leb (10 * n + d) most f) }

  pub too-low : i < length s → get_or s i 0 < 48 → value_of most s ≡ none
  unfolding value_on
  too-low h a = v.rest ∙ rw (drop-cons s i 0 h, lt-leb 48 (get_or s i 0) a)

  pub too-high : i < length s → 48 ≤ get_or s i 0 → 57 < get_or s i 0 → value_of most s ≡ none
  unfolding value_on
  too-high h a b = v.rest ∙ rw (drop-cons s i 0 h, le-leb 48 (get_or s i 0) a, lt-leb (get_or s i 0) 57 b)

  pub too_much : (d : ℕ) → i < length s → 48 ≤ get_or s i 0 → get_or s i 0 ≤ 57 → d + 48 ≡ get_or s i 0 → most < 10 * n + d → value_of most s ≡ none
  unfolding value_on
  too_much d h a b q f =
      let g : get_or s i 0 - 48 ≡ d = omega arith in
      v.rest ∙ rw (drop-cons s i 0 h, le-leb 48 (get_or s i 0) a, le-leb (get_or s i 0) 57 b, g, lt-leb (10 * n + d) most f)

  pub value-all : length s ≤ i → value_of most s ≡ some n
  unfolding value_on
  value-all l = v.rest ∙ rw (drop_of_length-le s l)
