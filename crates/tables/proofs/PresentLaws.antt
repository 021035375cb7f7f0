-- Laws of the word of the users who are present: who is in it, how many, and one user more.
-- Assumes nothing.
use mathlib.Core.Path.{◌≡◌, refl, sym, ap, ◌∙◌}
use mathlib.Core.Bool.{Bool, true, false, ◌&&◌, ◌||◌, and-true as and_yes, and-false as and_no, or-false}
use mathlib.Core.List.{List, [], ◌∷◌, ◌++◌, map}
use Prim.Native.Nat.{ℕ, zero, suc, ◌+◌, ◌^◌, ◌<◌, ◌≤◌}
use native.Mathlib.Omega.{arith}
use lib.Dec.{eqb, ltb}
use lib.ListN.{length, get_or, length-map}
use borrow.Author.Tests.{eq-eqb, ne_eqb, eqb-true}
use Rattle.words.specs.Words.{has, gate, count_to, size_of, item_of, join_of}
use Rattle.words.proofs.WordsLaws.{word-ext, word-has, word_in, word_lt, word_none, both, and-true, count-ext, none-count, has-item}
use Rattle.tables.specs.Tables.{User, is_present, present_in, present_count}
use Rattle.tables.proofs.PutLaws.{map_more}

pub has-present : (us : List User) (u : ℕ) → u < 64 → has (present_in us) u ≡ is_present us u
unfolding present_in
has-present us u l = word_in 64 (is_present us) u l

pub present-is : (us : List User) (u : ℕ) → has (present_in us) u ≡ true → is_present us u ≡ true
unfolding present_in
present-is us u h = (and-true (ltb u 64) (is_present us u) (sym (word-has 64 (is_present us) u) ∙ h)).1

pub present-lt : (us : List User) → present_in us < 2 ^ 64
unfolding present_in
present-lt us = word_lt 64 (is_present us)

-- Who is present has a row.
pub present-there : (us : List User) (u : ℕ) → is_present us u ≡ true → u < length us
present-there [] u h = let z : ◌≡◌ {A = ℕ} 0 1 = cc in absurd (omega arith)
present-there (x ∷ us) zero h = omega arith
present-there (x ∷ us) (suc u) h = omega (arith, present-there us u h)

pub present-word : (us : List User) (u : ℕ) → length us ≤ 64 → is_present us u ≡ true → has (present_in us) u ≡ true
present-word us u few h = has-present us u (omega (arith, present-there us u h)) ∙ h

-- The word has as many items as users are marked so.
count-front : (n : ℕ) (f : ℕ → Bool) → count_to (suc n) f ≡ gate (f 0) 1 + count_to n (λ i. f (suc i))
unfolding count_to
count-front zero f = omega arith
count-front (suc n) f = omega (arith, count-front n f)

counted : (us : List User) (n : ℕ) → length us ≤ n → count_to n (is_present us) ≡ present_count us
unfolding present_count
counted [] n l = none-count n (is_present []) (λ i k. refl)
counted (u ∷ us) zero l = absurd (omega arith)
counted (u ∷ us) (suc n) l = count-front n (is_present (u ∷ us)) ∙ ap (λ (k : ℕ). gate u.present 1 + k) (counted us n (omega arith))

pub present-size : (us : List User) → length us ≤ 64 → size_of (present_in us) ≡ present_count us
unfolding size_of
present-size us l = count-ext 64 (has (present_in us)) (is_present us) (λ u k. has-present us u k) ∙ counted us 64 l

-- ---- the rows read so far

pub present-none : 0 ≡ present_in []
unfolding present_in
present-none = sym (word_none 64 (is_present []) (λ i l. refl))

eqb-suc : (i n : ℕ) → eqb (suc i) (suc n) ≡ eqb i n
eqb-suc i n =
    both (eqb (suc i) (suc n)) (eqb i n) (λ e. eq-eqb i n (omega (arith, eqb-true (suc i) (suc n) e)))
    (λ e. eq-eqb (suc i) (suc n) (omega (arith, eqb-true i n e)))

grown : (bs : List Bool) (b : Bool) (i : ℕ) → get_or (bs ++ (b ∷ [])) i false ≡ (get_or bs i false || (eqb i (length bs) && b))
grown [] b zero = refl
grown [] b (suc i) = rw (ne_eqb (suc i) 0 (λ z. absurd (omega arith)))
grown (c ∷ bs) b zero = rw (ne_eqb 0 (suc (length bs)) (λ z. absurd (omega arith))) (sym (or-false c))
grown (c ∷ bs) b (suc i) = rw (eqb-suc i (length bs)) (grown bs b i)

present-grown : (us : List User) (x : User) (i : ℕ) → is_present (us ++ (x ∷ [])) i ≡ (is_present us i || (eqb i (length us) && x.present))
present-grown us x i =
    rw (map_more (λ (u : User). u.present) us x, ← length-map us (λ (u : User). u.present)) (grown (map (λ u. u.present) us) x.present i)

-- One who is present is joined to them, and one who left is not.
pub present-more : (us : List User) (x : User) → length us < 64 → x.present ≡ true → join_of (present_in us) (item_of (length us)) ≡ present_in (us ++ (x ∷ []))
unfolding present_in join_of
present-more us x l h =
    word-ext 64 _ _
    (λ i k.
    rw (has-present us i k, has-item (length us) i k, present-grown us x i, h) (ap (λ (b : Bool). is_present us i || b) (sym (and_yes (eqb i (length us))))))

pub present-same : (us : List User) (x : User) → x.present ≡ false → present_in us ≡ present_in (us ++ (x ∷ []))
unfolding present_in
present-same us x h = word-ext 64 _ _ (λ i k. rw (present-grown us x i, h) (sym (or-false (is_present us i)) ∙ ap (λ (b : Bool). is_present us i || b) (sym (and_no (eqb i (length us))))))
