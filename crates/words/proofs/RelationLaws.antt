-- Laws of going from a set along a relation: it is the union over the members, image and preimage are two cases, and going twice is going along the composed relation.
-- Assumes nothing.
use mathlib.Core.Path.{◌≡◌, refl, sym, ap, ap₂, ◌∙◌}
use mathlib.Core.Bool.{Bool, true, false, ◌&&◌, ◌||◌}
use mathlib.Core.List.{List}
use Prim.Native.Nat.{ℕ, zero, suc, ◌<◌, ◌^◌}
use borrow.Author.Tests.{eqb-true, eq-eqb}
use lib.ListN.{get_or}
use Rattle.words.specs.Words.{has, word_of, any_to, item_of, join_of, image_of, preimage_of}
use Rattle.words.specs.Relations.{Relation, some_in, reach, composed, Unites}
use Rattle.words.proofs.WordsLaws.{word-ext, word_in, word_holds, word_lt, both, and-true, and_both, and_comm, any_here, any-witness, any-ext, has-item, has_join}

-- ---- some item of a word

-- Of the one item of a word.
pub some_item : (i : ℕ) (g : ℕ → Bool) → i < 64 → some_in (item_of i) g ≡ g i
some_item i g l = both (some_in (item_of i) g) (g i) there back
  where
    there : some_in (item_of i) g ≡ true → g i ≡ true
    there e =
        let (j, lj, h) = any-witness 64 (λ j. has (item_of i) j && g j) e in
        let (p, q) = and-true (has (item_of i) j) (g j) h in
        rw (eqb-true j i (sym (has-item i j lj) ∙ p)) at q

    back : g i ≡ true → some_in (item_of i) g ≡ true
    back e = any_here 64 (λ j. has (item_of i) j && g j) i l (and_both (has-item i i l ∙ eq-eqb i i refl) e)

-- Of a union: of the one or of the other.
or_swap : (a b c d : Bool) → ((a || b) || (c || d)) ≡ ((a || c) || (b || d))
or_swap true b c d = refl
or_swap false true true d = refl
or_swap false true false d = refl
or_swap false false c d = refl

pub any-or : (n : ℕ) (f g : ℕ → Bool) → any_to n (λ i. f i || g i) ≡ (any_to n f || any_to n g)
unfolding any_to
any-or zero f g = refl
any-or (suc n) f g = ap (λ (b : Bool). b || (f n || g n)) (any-or n f g) ∙ or_swap (any_to n f) (any_to n g) (f n) (g n)

pub or-and : (a b c : Bool) → ((a || b) && c) ≡ ((a && c) || (b && c))
or-and true b true = refl
or-and true true false = refl
or-and true false false = refl
or-and false b c = refl

some-join : (v w : ℕ) (g : ℕ → Bool) → some_in (join_of v w) g ≡ (some_in v g || some_in w g)
some-join v w g =
    any-ext 64 (λ i. has (join_of v w) i && g i) (λ i. (has v i && g i) || (has w i && g i)) (λ i l.
    ap (λ (b : Bool). b && g i) (has_join v w i l) ∙ or-and (has v i) (has w i) (g i))
    ∙ any-or 64 (λ i. has v i && g i) (λ i. has w i && g i)

-- Of an item that is there.
pub some_of : (w : ℕ) (f : ℕ → Bool) → some_in w f ≡ true → (i : ℕ) × (has w i ≡ true) × (f i ≡ true)
some_of w f e = let (i, l, h) = any-witness 64 (λ i. has w i && f i) e in let (m, q) = and-true (has w i) (f i) h in (i, m, q)

-- ---- going along a relation

pub has-reach : (R : Relation) (w x : ℕ) → x < 64 → has (reach R w) x ≡ some_in w (λ i. R i x)
unfolding reach
has-reach R w = word_in 64 (λ x. some_in w (λ i. R i x))

-- What is reached is reached from an item that is there.
pub reached-from : (R : Relation) (w x : ℕ) → has (reach R w) x ≡ true → (i : ℕ) × (has w i ≡ true) × (R i x ≡ true)
unfolding reach
reached-from R w x h = some_of w (λ i. R i x) (word_holds 64 (λ x. some_in w (λ i. R i x)) x h)

-- It depends on what is related to the items that are there.
pub reach-alike : (R Q : Relation) (w : ℕ) → ((i x : ℕ) → i < 64 → x < 64 → has w i ≡ true → R i x ≡ Q i x) → reach R w ≡ reach Q w
unfolding reach
reach-alike R Q w h =
    word-ext 64 (λ x. some_in w (λ i. R i x)) (λ x. some_in w (λ i. Q i x)) (λ x l.
    any-ext 64 (λ i. has w i && R i x) (λ i. has w i && Q i x) (λ i k. of-member (has w i) (h i x k l)))
  where
    of-member : (m : Bool) {a b : Bool} → (m ≡ true → a ≡ b) → (m && a) ≡ (m && b)
    of-member true e = e refl
    of-member false e = refl

pub reach-ext : (R Q : Relation) (w : ℕ) → ((i x : ℕ) → i < 64 → x < 64 → R i x ≡ Q i x) → reach R w ≡ reach Q w
reach-ext R Q w h = reach-alike R Q w (λ i x k l _. h i x k l)

-- "on a set, the union over its members": so it is along every relation.
pub unites : (R : Relation) → Unites (reach R)
unfolding reach join_of
unites R =
    record {
      members = λ w. reach-ext R (λ i x. has (reach R (item_of i)) x) w (λ i x k l.
          sym (has-reach R (item_of i) x l ∙ some_item i (λ i. R i x) k));
      unions = λ v w. word-ext 64 (λ x. some_in (join_of v w) (λ i. R i x)) (λ x. has (reach R v) x || has (reach R w) x) (λ x l.
          some-join v w (λ i. R i x) ∙ sym (ap₂ (λ (a b : Bool). a || b) (has-reach R v x l) (has-reach R w x l)));
    }

pub reach-reach : (R Q : Relation) (w : ℕ) → reach Q (reach R w) ≡ reach (composed R Q) w
unfolding reach
reach-reach R Q w = word-ext 64 _ _ (λ x l. both (any_to 64 (from x)) (any_to 64 (to x)) (there x) (back x))
  where
    step : ℕ → ℕ → Bool
    step j i = has w i && R i j

    from : ℕ → ℕ → Bool
    from x j = has (word_of 64 (λ j. any_to 64 (λ i. has w i && R i j))) j && Q j x

    to : ℕ → ℕ → Bool
    to x i = has w i && any_to 64 (λ j. R i j && Q j x)

    there : (x : ℕ) → any_to 64 (from x) ≡ true → any_to 64 (to x) ≡ true
    there x e =
        let p = any-witness 64 (from x) e in
        let j : ℕ = p.0 in
        let q = and-true (has (reach R w) j) (Q j x) p.2 in
        let r = any-witness 64 (step j) (sym (word_in 64 (λ j. any_to 64 (step j)) j p.1) ∙ q.0) in
        let s = and-true (has w r.0) (R r.0 j) r.2 in
        any_here 64 (to x) r.0 r.1 (and_both s.0 (any_here 64 (λ j. R r.0 j && Q j x) j p.1 (and_both s.1 q.1)))

    back : (x : ℕ) → any_to 64 (to x) ≡ true → any_to 64 (from x) ≡ true
    back x e =
        let p = any-witness 64 (to x) e in
        let i : ℕ = p.0 in
        let q = and-true (has w i) (any_to 64 (λ j. R i j && Q j x)) p.2 in
        let r = any-witness 64 (λ j. R i j && Q j x) q.1 in
        let s = and-true (R i r.0) (Q r.0 x) r.2 in
        any_here 64 (from x) r.0 r.1
        (and_both (word_in 64 (λ j. any_to 64 (step j)) r.0 r.1 ∙ any_here 64 (step r.0) i p.1 (and_both q.0 s.0)) s.1)

-- Image and preimage, for any rows.
pub image-reach : (rows : List ℕ) (w : ℕ) → image_of rows w ≡ reach (λ i x. has (get_or rows i 0) x) w
unfolding image_of reach
image-reach rows w = refl

pub preimage-reach : (rows : List ℕ) (w : ℕ) → preimage_of rows w ≡ reach (λ x i. has (get_or rows i 0) x) w
unfolding preimage_of reach
preimage-reach rows w =
    word-ext 64 (λ i. any_to 64 (λ x. has (get_or rows i 0) x && has w x)) (λ i. any_to 64 (λ x. has w x && has (get_or rows i 0) x)) (λ i _.
    any-ext 64 (λ x. has (get_or rows i 0) x && has w x) (λ x. has w x && has (get_or rows i 0) x) (λ x _. and_comm (has (get_or rows i 0) x) (has w x)))

pub has-image : (rows : List ℕ) (w x : ℕ) → x < 64 → has (image_of rows w) x ≡ any_to 64 (λ i. has w i && has (get_or rows i 0) x)
unfolding image_of
has-image rows w = word_in 64 (λ x. any_to 64 (λ i. has w i && has (get_or rows i 0) x))

pub has-preimage : (rows : List ℕ) (w i : ℕ) → i < 64 → has (preimage_of rows w) i ≡ any_to 64 (λ x. has (get_or rows i 0) x && has w x)
unfolding preimage_of
has-preimage rows w = word_in 64 (λ i. any_to 64 (λ x. has (get_or rows i 0) x && has w x))

pub image-lt : (rows : List ℕ) (w : ℕ) → image_of rows w < 2 ^ 64
unfolding image_of
image-lt rows w = word_lt 64 (λ x. any_to 64 (λ i. has w i && has (get_or rows i 0) x))

pub preimage-lt : (rows : List ℕ) (w : ℕ) → preimage_of rows w < 2 ^ 64
unfolding preimage_of
preimage-lt rows w = word_lt 64 (λ i. any_to 64 (λ x. has (get_or rows i 0) x && has w x))

-- Rows count only by their first 64.
pub image-ext : (rows rows' : List ℕ) (w : ℕ) → ((i : ℕ) → i < 64 → get_or rows i 0 ≡ get_or rows' i 0) → image_of rows w ≡ image_of rows' w
image-ext rows rows' w h =
    image-reach rows w
    ∙ reach-ext (λ i x. has (get_or rows i 0) x) (λ i x. has (get_or rows' i 0) x) w (λ i x k _. ap (λ (r : ℕ). has r x) (h i k))
    ∙ sym (image-reach rows' w)

pub preimage-ext : (rows rows' : List ℕ) (w : ℕ) → ((i : ℕ) → i < 64 → get_or rows i 0 ≡ get_or rows' i 0) → preimage_of rows w ≡ preimage_of rows' w
preimage-ext rows rows' w h =
    preimage-reach rows w
    ∙ reach-ext (λ x i. has (get_or rows i 0) x) (λ x i. has (get_or rows' i 0) x) w (λ x i _ k. ap (λ (r : ℕ). has r x) (h i k))
    ∙ sym (preimage-reach rows' w)

-- Two steps, for any rows: forth and forth, forth and back.
pub image-image : (rows rows' : List ℕ) (w : ℕ)
    → image_of rows' (image_of rows w) ≡ reach (composed (λ i j. has (get_or rows i 0) j) (λ j x. has (get_or rows' j 0) x)) w
image-image rows rows' w =
    image-reach rows' (image_of rows w) ∙ ap (reach (λ j x. has (get_or rows' j 0) x)) (image-reach rows w)
    ∙ reach-reach (λ i j. has (get_or rows i 0) j) (λ j x. has (get_or rows' j 0) x) w

pub preimage-image : (rows rows' : List ℕ) (w : ℕ)
    → preimage_of rows' (image_of rows w) ≡ reach (composed (λ i j. has (get_or rows i 0) j) (λ j x. has (get_or rows' x 0) j)) w
preimage-image rows rows' w =
    preimage-reach rows' (image_of rows w) ∙ ap (reach (λ j x. has (get_or rows' x 0) j)) (image-reach rows w)
    ∙ reach-reach (λ i j. has (get_or rows i 0) j) (λ j x. has (get_or rows' x 0) j) w
