-- One turn of the loops of image and preimage, and where they begin and end.
-- Assumes nothing.
use mathlib.Core.Path.{◌≡◌, refl, sym, ap, ap₂, ◌∙◌}
use mathlib.Core.Bool.{Bool, true, false, ◌&&◌, ◌||◌, not, and-true as and_yes, and-false as and_no, or-false, or_assoc}
use mathlib.Core.List.{List}
use Prim.Native.Nat.{ℕ, zero, suc, ◌+◌, ◌*◌, ◌^◌, ◌≤◌, ◌<◌, min}
use native.Mathlib.Numerals.{add-one}
use native.Mathlib.Omega.{arith}
use borrow.Author.Tests.{eqb-true, eqb-false, ne_eqb}
use lib.Dec.{eqb}
use lib.ListN.{get_or, length, get_or-eq_default}
use lib.Pow.{pow_pos, pow_mono}
use lib.Bits.{bit_or, or_shifted_r}
use Rattle.words.specs.Words.{has, gate, word_of, any_to, Lowest, item_of, meet_of, join_of, less_of, image_of, preimage_of}
use Rattle.words.proofs.WordsLaws.{word_none, word-ext, word-self, word_lt, word_more, both, and-true, and_both, and_comm}
use Rattle.words.proofs.WordsLaws.{any_here, any-witness, any_none, any-ext, any_word, has-zero, has_join, has-less, has-item, item-pow, item-lt}
use Rattle.words.proofs.RelationLaws.{has-image}
use Rattle.words.proofs.BitsLaws.{or-join}

-- ---- image: one item is taken from w, and its row joined

or_cases : (a b : Bool) {C : Bool} → (a || b) ≡ true → (a ≡ true → C ≡ true) → (b ≡ true → C ≡ true) → C ≡ true
or_cases true b e p q = p refl
or_cases false b e p q = q e

pub or_right : (a b : Bool) → b ≡ true → (a || b) ≡ true
or_right true b e = refl
or_right false b e = e

-- Some number has f: i, or one that is not i.
any-take : (n : ℕ) (f : ℕ → Bool) (i : ℕ) → i < n → any_to n f ≡ (f i || any_to n (λ j. f j && not (eqb j i)))
any-take n f i l = both (any_to n f) (f i || any_to n rest) there back
  where
    rest : ℕ → Bool
    rest j = f j && not (eqb j i)

    pick : (j : ℕ) → j < n → f j ≡ true → (b : Bool) → eqb j i ≡ b → (f i || any_to n rest) ≡ true
    pick j k h true e = ap (λ (b : Bool). b || any_to n rest) (ap f (sym (eqb-true j i e)) ∙ h)
    pick j k h false e = or_right (f i) (any_to n rest) (any_here n rest j k (and_both h (ap not e)))

    there : any_to n f ≡ true → (f i || any_to n rest) ≡ true
    there e = let w = any-witness n f e in pick w.0 w.1 w.2 (eqb w.0 i) refl

    back : (f i || any_to n rest) ≡ true → any_to n f ≡ true
    back e =
        or_cases (f i) (any_to n rest) e (any_here n f i l) (λ h.
        let w = any-witness n rest h in any_here n f w.0 w.1 (and-true (f w.0) (not (eqb w.0 i)) w.2).0)

pub image-turn : (rows : List ℕ) (f w i : ℕ) → i < 64 → has w i ≡ true
    → join_of (join_of f (get_or rows i 0)) (image_of rows (less_of w (item_of i))) ≡ join_of f (image_of rows w)
unfolding join_of
image-turn rows f w i l h =
    word-ext 64 (λ x. has (join_of f (get_or rows i 0)) x || has (image_of rows (less_of w (item_of i))) x) (λ x. has f x || has (image_of rows w) x) bit
  where
    rest : (x j : ℕ) → j < 64 → (has (less_of w (item_of i)) j && has (get_or rows j 0) x) ≡ ((has w j && has (get_or rows j 0) x) && not (eqb j i))
    rest x j k = ap (λ (b : Bool). b && has (get_or rows j 0) x) (has-less w (item_of i) j k ∙ ap (λ (b : Bool). has w j && not b) (has-item i j k)) ∙ turn (has w j) (not (eqb j i)) (has (get_or rows j 0) x)
      where
        turn : (a b c : Bool) → ((a && b) && c) ≡ ((a && c) && b)
        turn true b c = and_comm b c
        turn false b c = refl

    bit : (x : ℕ) → x < 64 → (has (join_of f (get_or rows i 0)) x || has (image_of rows (less_of w (item_of i))) x) ≡ (has f x || has (image_of rows w) x)
    bit x k =
        let R : ℕ → Bool = λ j. has w j && has (get_or rows j 0) x in
        let e : has (image_of rows (less_of w (item_of i))) x ≡ any_to 64 (λ j. R j && not (eqb j i)) =
        has-image rows (less_of w (item_of i)) x k ∙ any-ext 64 (λ j. has (less_of w (item_of i)) j && has (get_or rows j 0) x) (λ j. R j && not (eqb j i)) (rest x) in
        let g : has (image_of rows w) x ≡ (has (get_or rows i 0) x || any_to 64 (λ j. R j && not (eqb j i))) =
        has-image rows w x k ∙ any-take 64 R i l
        ∙ ap (λ (b : Bool). (b && has (get_or rows i 0) x) || any_to 64 (λ j. R j && not (eqb j i))) h in
        ap₂ (λ (a b : Bool). a || b) (has_join f (get_or rows i 0) x k) e
        ∙ or_assoc (has f x) (has (get_or rows i 0) x) (any_to 64 (λ j. R j && not (eqb j i)))
        ∙ sym (ap (λ (b : Bool). has f x || b) g)

pub image-begin : (rows : List ℕ) (w : ℕ) → join_of 0 (image_of rows w) ≡ image_of rows w
unfolding join_of image_of
image-begin rows w =
    word-ext 64 (λ x. has 0 x || has (image_of rows w) x) (has (image_of rows w)) (λ x _. ap (λ (b : Bool). b || has (image_of rows w) x) (has-zero x))
    ∙ word-self 64 (image_of rows w) (word_lt 64 _)

pub image-end : (rows : List ℕ) (f : ℕ) → f < 2 ^ 64 → join_of f (image_of rows 0) ≡ f
unfolding join_of
image-end rows f l =
    word-ext 64 (λ x. has f x || has (image_of rows 0) x) (has f) (λ x k.
    ap (λ (b : Bool). has f x || b)
    (has-image rows 0 x k ∙ any_none 64 (λ i. has 0 i && has (get_or rows i 0) x) (λ i _. ap (λ (b : Bool). b && has (get_or rows i 0) x) (has-zero i)))
    ∙ or-false (has f x))
    ∙ word-self 64 f l

-- Without one of its items a word is a smaller number.
word-take : (n : ℕ) (f : ℕ → Bool) (i : ℕ) → i < n → f i ≡ true → word_of n (λ j. f j && not (eqb j i)) + 2 ^ i ≡ word_of n f
unfolding word_of
word-take zero f i l h = absurd (omega arith)
word-take (suc n) f i l h = go (eqb n i) refl (λ k. word-take n f i k h)
  where
    rest : ℕ → Bool
    rest j = f j && not (eqb j i)

    go : (b : Bool) → eqb n i ≡ b → (i < n → word_of n rest + 2 ^ i ≡ word_of n f)
        → (word_of n rest + gate (f n && not b) (2 ^ n)) + 2 ^ i ≡ word_of n f + gate (f n) (2 ^ n)
    go true e ih =
        let q : n ≡ i = eqb-true n i e in
        let same : word_of n rest ≡ word_of n f =
        word-ext n rest f (λ j k. ap (λ (b : Bool). f j && not b) (ne_eqb j i (λ r. omega arith)) ∙ and_yes (f j)) in
        omega (arith, same, ap (λ (b : Bool). gate b (2 ^ n)) (and_no (f n)), ap (λ (b : Bool). gate b (2 ^ n)) (ap f q ∙ h), ap (λ (k : ℕ). 2 ^ k) q)
    go false e ih =
        let ne : n ≡ i → ⊥ = eqb-false n i e in
        omega (arith, ih (omega arith), ap (λ (b : Bool). gate b (2 ^ n)) (and_yes (f n)))

pub less-smaller : (w i : ℕ) → w < 2 ^ 64 → i < 64 → has w i ≡ true → less_of w (item_of i) < w
unfolding less_of
less-smaller w i lw l h =
    omega (
      arith,
      word-ext 64 (λ j. has w j && not (has (item_of i) j)) (λ j. has w j && not (eqb j i)) (λ j k. ap (λ (b : Bool). has w j && not b) (has-item i j k)),
      word-take 64 (has w) i l h,
      word-self 64 w lw,
      pow_pos i,
    )

-- A word that is not empty has a smallest item.
pub lowest-item : {w r : ℕ} → w < 2 ^ 64 → (w ≡ 0 → ⊥) → Lowest w r → r < 64
lowest-item {w} {r} l ne f =
    let none : 64 ≤ r → ⊥ = λ h. ne (sym (word-self 64 w l) ∙ word_none 64 (has w) (λ i k. f.least i (omega arith))) in
    omega arith

-- ---- preimage: row i is looked at

-- The test of one row.
abbrev pub meets : List ℕ → ℕ → ℕ → Bool
meets rows w i = any_to 64 (λ x. has (get_or rows i 0) x && has w x)

pub meets_word : (rows : List ℕ) (w i : ℕ) → meets rows w i ≡ not (eqb (meet_of (get_or rows i 0) w) 0)
unfolding meet_of
meets_word rows w i = any_word 64 (λ x. has (get_or rows i 0) x && has w x)

pub join-item : (f : ℕ → Bool) (i : ℕ) → i < 64 → join_of (word_of i f) (item_of i) ≡ word_of i f + 2 ^ i
join-item f i l =
    let small : word_of i f < 2 ^ 64 = omega (arith, word_lt i f, pow_mono {i = i} {j = 64} (omega arith)) in
    let e : item_of i ≡ 1 * 2 ^ i = omega (arith, item-pow i l) in
    sym (or-join (word_of i f) (item_of i) small (item-lt i)) ∙ ap (bit_or (word_of i f)) e ∙ or_shifted_r 1 i (word_of i f) (word_lt i f)
    ∙ omega arith

pub turn_in : (rows : List ℕ) (w i : ℕ) → i < 64 → (meet_of (get_or rows i 0) w ≡ 0 → ⊥)
    → join_of (word_of i (meets rows w)) (item_of i) ≡ word_of (i + 1) (meets rows w)
unfolding word_of
turn_in rows w i l h =
    join-item (meets rows w) i l
    ∙ ap (λ (b : Bool). word_of i (meets rows w) + gate b (2 ^ i)) (sym (meets_word rows w i ∙ ap not (ne_eqb (meet_of (get_or rows i 0) w) 0 h)))
    ∙ ap (λ (k : ℕ). word_of k (meets rows w)) (sym (add-one i))

pub turn-out : (rows : List ℕ) (w i : ℕ) → meet_of (get_or rows i 0) w ≡ 0 → word_of i (meets rows w) ≡ word_of (i + 1) (meets rows w)
unfolding word_of
turn-out rows w i h =
    omega (arith, ap (λ (b : Bool). gate b (2 ^ i)) (meets_word rows w i ∙ ap (λ (x : ℕ). not (eqb x 0)) h), ap (λ (k : ℕ). word_of k (meets rows w)) (add-one i))

pub preimage-end : (rows : List ℕ) (w n : ℕ) → n ≡ min (length rows) 64 → word_of n (meets rows w) ≡ preimage_of rows w
unfolding preimage_of
preimage-end rows w n e =
    sym (word_more n 64 (meets rows w) (omega arith) (λ i p q.
    any_none 64 (λ x. has (get_or rows i 0) x && has w x) (λ x _.
    ap (λ (b : Bool). b && has w x) (ap (λ (r : ℕ). has r x) (get_or-eq_default rows 0 {n = i} (omega arith)) ∙ has-zero x))))
