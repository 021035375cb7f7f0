-- Laws of words by bits: what `has` says of each word, that a word is known by its bits, and when a word is empty.
-- Assumes nothing.
use mathlib.Core.Path.{◌≡◌, refl, sym, ap, ap₂, ◌∙◌}
use mathlib.Core.Bool.{Bool, true, false, ◌&&◌, ◌||◌, not, and-true as and_yes, and-false as and_no}
use Prim.Native.Nat.{ℕ, zero, suc, ◌+◌, ◌*◌, ◌-◌, ◌/◌, ◌%◌, ◌^◌, ◌≤◌, ◌<◌}
use native.Mathlib.Nat.{mod-one, mod-lt, mod-eq_of_lt, div-eq_of_lt, add-div_right, two-pow-succ, lt_of_lt_of_le, add-zero}
use native.Mathlib.Omega.{arith}
use borrow.Author.Tests.{ltb-true, ltb-false, lt-ltb, le-ltb, eqb-true, eqb-false, eq-eqb, ne_eqb}
use lib.Dec.{eqb, ltb, lit<}
use lib.Pow.{pow_pos, pow_mono, mod-pow-add, field, mod-mod-pow, low}
use Rattle.words.specs.Words.{has, gate, word_of, any_to, count_to, size_of, all_of, item_of}
use Rattle.words.specs.Words.{meet_of, join_of, less_of}

-- ---- tests

pub gate-le : (b : Bool) (n : ℕ) → gate b n ≤ n
gate-le true n = omega arith
gate-le false n = omega arith

-- A digit is 0 or 1.
pub digit : (d n : ℕ) → d < 2 → gate (eqb d 1) n ≡ d * n
digit zero n h = omega arith
digit (suc zero) n h = omega arith
digit (suc (suc d)) n h = absurd (omega arith)

-- ---- one bit of a number

pub has-mod : (w n i : ℕ) → i < n → has (w % 2 ^ n) i ≡ has w i
unfolding has
has-mod w n i h =
    let j : ℕ = n - suc i in
    let e : n ≡ (j + 1) + i = omega arith in
    ap (λ (x : ℕ). eqb x 1) (ap (λ (k : ℕ). w % 2 ^ k / 2 ^ i % 2) e ∙ ap (λ (x : ℕ). x % 2) (field w (j + 1) i) ∙ mod-mod-pow (w / 2 ^ i) j 1)

pub has-out : (w n i : ℕ) → w < 2 ^ n → n ≤ i → has w i ≡ false
unfolding has
has-out w n i h l =
    let small : w < 2 ^ i = lt_of_lt_of_le h (pow_mono l) in
    rw (div-eq_of_lt small)

pub has-zero : (i : ℕ) → has 0 i ≡ false
has-zero i = has-out 0 0 i (lit< tt) (omega arith)

pub has_in : (w n i : ℕ) → w < 2 ^ n → has w i ≡ true → i < n
has_in w n i l h = go (ltb i n) refl
  where
    go : (b : Bool) → ltb i n ≡ b → i < n
    go true e = ltb-true i n e
    go false e =
        let q : ◌≡◌ {A = Bool} true false = sym h ∙ has-out w n i l (ltb-false i n e) in
        let z : ◌≡◌ {A = ℕ} 0 1 = cc in absurd (omega arith)

-- ---- the word of a test

pub word_lt : (n : ℕ) (f : ℕ → Bool) → word_of n f < 2 ^ n
unfolding word_of
word_lt zero f = lit< tt
word_lt (suc n) f = omega (arith, word_lt n f, gate-le (f n) (2 ^ n), two-pow-succ n)

pub word-ext : (n : ℕ) (f g : ℕ → Bool) → ((i : ℕ) → i < n → f i ≡ g i) → word_of n f ≡ word_of n g
unfolding word_of
word-ext zero f g h = refl
word-ext (suc n) f g h = ap₂ (λ (x : ℕ) (b : Bool). x + gate b (2 ^ n)) (word-ext n f g (λ i l. h i (omega arith))) (h n (omega arith))

-- the lower bits stay
word_low : (n : ℕ) (f : ℕ → Bool) → word_of (suc n) f % 2 ^ n ≡ word_of n f
unfolding word_of
word_low n f = go (f n) (word_of n f) (word_lt n f)
  where
    go : (b : Bool) (r : ℕ) → r < 2 ^ n → (r + gate b (2 ^ n)) % 2 ^ n ≡ r
    go true r h = ap (λ (x : ℕ). x % 2 ^ n) (let e : r + 2 ^ n ≡ 1 * 2 ^ n + r = omega arith in e) ∙ low 1 n h
    go false r h = ap (λ (x : ℕ). x % 2 ^ n) (add-zero r) ∙ mod-eq_of_lt h

-- the highest bit is the last test
word-top : (n : ℕ) (f : ℕ → Bool) → has (word_of (suc n) f) n ≡ f n
unfolding word_of has
word-top n f = go (f n) (word_of n f) (word_lt n f)
  where
    go : (b : Bool) (r : ℕ) → r < 2 ^ n → eqb ((r + gate b (2 ^ n)) / 2 ^ n % 2) 1 ≡ b
    go true r h = ap (λ (x : ℕ). eqb (x % 2) 1) (add-div_right r (pow_pos n) ∙ ap (λ (x : ℕ). x + 1) (div-eq_of_lt h))
    go false r h = ap (λ (x : ℕ). eqb (x % 2) 1) (ap (λ (x : ℕ). x / 2 ^ n) (add-zero r) ∙ div-eq_of_lt h)

pub word_in : (n : ℕ) (f : ℕ → Bool) (i : ℕ) → i < n → has (word_of n f) i ≡ f i
word_in zero f i h = absurd (omega arith)
word_in (suc n) f i h = go (λ l. word_in n f i l) (eqb i n) refl
  where
    go : (i < n → has (word_of n f) i ≡ f i) → (b : Bool) → eqb i n ≡ b → has (word_of (suc n) f) i ≡ f i
    go ih true e = rw (eqb-true i n e) (word-top n f)
    go ih false e =
        let ne : i ≡ n → ⊥ = eqb-false i n e in
        let l : i < n = omega arith in
        sym (has-mod (word_of (suc n) f) n i l) ∙ ap (λ (x : ℕ). has x i) (word_low n f) ∙ ih l

pub word-has : (n : ℕ) (f : ℕ → Bool) (i : ℕ) → has (word_of n f) i ≡ (ltb i n && f i)
word-has n f i = go (ltb i n) refl
  where
    go : (b : Bool) → ltb i n ≡ b → has (word_of n f) i ≡ (b && f i)
    go true e = word_in n f i (ltb-true i n e)
    go false e = has-out (word_of n f) n i (word_lt n f) (ltb-false i n e)

-- A number's own bits make it again: words are known by their bits.
pub word_mod : (n w : ℕ) → word_of n (has w) ≡ w % 2 ^ n
unfolding word_of has
word_mod zero w = sym (mod-one w)
word_mod (suc n) w =
    let e : suc n ≡ 1 + n = omega arith in
    omega (arith, word_mod n w, digit (w / 2 ^ n % 2) (2 ^ n) (mod-lt (w / 2 ^ n) (lit< tt)), mod-pow-add w 1 n, ap (λ (k : ℕ). w % 2 ^ k) e)

pub word-self : (n w : ℕ) → w < 2 ^ n → word_of n (has w) ≡ w
word-self n w h = word_mod n w ∙ mod-eq_of_lt h

pub same_bits : (n w v : ℕ) → w < 2 ^ n → v < 2 ^ n → ((i : ℕ) → i < n → has w i ≡ has v i) → w ≡ v
same_bits n w v hw hv h = sym (word-self n w hw) ∙ word-ext n (has w) (has v) h ∙ word-self n v hv

-- Where no test holds the word is 0, and where all hold it is all ones.
pub word_none : (n : ℕ) (f : ℕ → Bool) → ((i : ℕ) → i < n → f i ≡ false) → word_of n f ≡ 0
unfolding word_of
word_none zero f h = refl
word_none (suc n) f h = ap₂ (λ (x : ℕ) (b : Bool). x + gate b (2 ^ n)) (word_none n f (λ i l. h i (omega arith))) (h n (omega arith))

pub word-every : (n : ℕ) (f : ℕ → Bool) → ((i : ℕ) → i < n → f i ≡ true) → word_of n f + 1 ≡ 2 ^ n
unfolding word_of
word-every zero f h = refl
word-every (suc n) f h =
    omega (arith, word-every n f (λ i l. h i (omega arith)), ap (λ (b : Bool). gate b (2 ^ n)) (h n (omega arith)), two-pow-succ n)

-- Tests that fail from n on add nothing.
pub word_more : (n m : ℕ) (f : ℕ → Bool) → n ≤ m → ((i : ℕ) → n ≤ i → i < m → f i ≡ false) → word_of m f ≡ word_of n f
unfolding word_of
word_more n zero f l h = ap (λ (k : ℕ). word_of k f) (let e : 0 ≡ n = omega arith in e)
word_more n (suc m) f l h = go (eqb n (suc m)) refl (λ k. word_more n m f k (λ i p q. h i p (omega arith)))
  where
    go : (b : Bool) → eqb n (suc m) ≡ b → (n ≤ m → word_of m f ≡ word_of n f) → word_of m f + gate (f m) (2 ^ m) ≡ word_of n f
    go true e ih = ap (λ (k : ℕ). word_of k f) (sym (eqb-true n (suc m) e))
    go false e ih =
        let ne : n ≡ suc m → ⊥ = eqb-false n (suc m) e in
        let k : n ≤ m = omega arith in
        ap₂ (λ (x : ℕ) (b : Bool). x + gate b (2 ^ m)) (ih k) (h m k (omega arith)) ∙ add-zero (word_of n f)

-- ---- some number below n

-- Two tests are equal when each gives the other.
pub both : (a b : Bool) → (a ≡ true → b ≡ true) → (b ≡ true → a ≡ true) → a ≡ b
both true b p q = sym (p refl)
both false true p q = q refl
both false false p q = refl

pub eqb_comm : (a b : ℕ) → eqb a b ≡ eqb b a
eqb_comm a b = both (eqb a b) (eqb b a) (λ e. eq-eqb b a (sym (eqb-true a b e))) (λ e. eq-eqb a b (sym (eqb-true b a e)))

pub and-true : (a b : Bool) → (a && b) ≡ true → (a ≡ true) × (b ≡ true)
and-true true b e = (refl, e)
and-true false b e = let z : ◌≡◌ {A = ℕ} 0 1 = cc in absurd (omega arith)

-- What is in the word of a test has passed it.
pub word_holds : (n : ℕ) (f : ℕ → Bool) (i : ℕ) → has (word_of n f) i ≡ true → f i ≡ true
word_holds n f i h = (and-true (ltb i n) (f i) (sym (word-has n f i) ∙ h)).1

pub and_both : {a b : Bool} → a ≡ true → b ≡ true → (a && b) ≡ true
and_both p q = rw (p, q)

pub and_comm : (a b : Bool) → (a && b) ≡ (b && a)
and_comm true true = refl
and_comm true false = refl
and_comm false true = refl
and_comm false false = refl

pub any_here : (n : ℕ) (f : ℕ → Bool) (i : ℕ) → i < n → f i ≡ true → any_to n f ≡ true
unfolding any_to
any_here zero f i l h = absurd (omega arith)
any_here (suc n) f i l h = go (eqb i n) refl (λ k. any_here n f i k h)
  where
    or_right : (a : Bool) → (a || true) ≡ true
    or_right true = refl
    or_right false = refl

    go : (b : Bool) → eqb i n ≡ b → (i < n → any_to n f ≡ true) → (any_to n f || f n) ≡ true
    go true e ih = ap (λ (b : Bool). any_to n f || b) (ap f (sym (eqb-true i n e)) ∙ h) ∙ or_right (any_to n f)
    go false e ih =
        let ne : i ≡ n → ⊥ = eqb-false i n e in
        ap (λ (b : Bool). b || f n) (ih (omega arith))

pub any-witness : (n : ℕ) (f : ℕ → Bool) → any_to n f ≡ true → (i : ℕ) × (i < n) × (f i ≡ true)
unfolding any_to
any-witness zero f h = let z : ◌≡◌ {A = ℕ} 0 1 = cc in absurd (omega arith)
any-witness (suc n) f h = go (any_to n f) refl h (λ e. any-witness n f e)
  where
    go : (b : Bool) → any_to n f ≡ b → (b || f n) ≡ true → (any_to n f ≡ true → (i : ℕ) × (i < n) × (f i ≡ true)) → (i : ℕ) × (i < suc n) × (f i ≡ true)
    go true e q ih = let w = ih e in (w.0, omega (arith, w.1), w.2)
    go false e q ih = (n, omega arith, q)

pub any_none : (n : ℕ) (f : ℕ → Bool) → ((i : ℕ) → i < n → f i ≡ false) → any_to n f ≡ false
unfolding any_to
any_none zero f h = refl
any_none (suc n) f h = ap₂ (λ (a b : Bool). a || b) (any_none n f (λ i l. h i (omega arith))) (h n (omega arith))

pub any-ext : (n : ℕ) (f g : ℕ → Bool) → ((i : ℕ) → i < n → f i ≡ g i) → any_to n f ≡ any_to n g
unfolding any_to
any-ext zero f g h = refl
any-ext (suc n) f g h = ap₂ (λ (a b : Bool). a || b) (any-ext n f g (λ i l. h i (omega arith))) (h n (omega arith))

-- Some number has f where the word of f is not 0.
pub any_word : (n : ℕ) (f : ℕ → Bool) → any_to n f ≡ not (eqb (word_of n f) 0)
any_word n f = go (any_to n f) refl
  where
    go : (b : Bool) → any_to n f ≡ b → b ≡ not (eqb (word_of n f) 0)
    go true e =
        let w = any-witness n f e in
        let none : word_of n f ≡ 0 → ⊥ = λ z.
        let q : ◌≡◌ {A = Bool} true false = sym w.2 ∙ sym (word_in n f w.0 w.1) ∙ ap (λ (x : ℕ). has x w.0) z ∙ has-zero w.0 in
        let y : ◌≡◌ {A = ℕ} 0 1 = cc in absurd (omega arith) in
        rw (ne_eqb (word_of n f) 0 none)
    go false e = rw (word_none n f (λ i l. none i l (f i) refl))
      where
        none : (i : ℕ) → i < n → (b : Bool) → f i ≡ b → b ≡ false
        none i l true q = sym (any_here n f i l q) ∙ e
        none i l false q = refl

-- ---- how many numbers below n

pub count-ext : (n : ℕ) (f g : ℕ → Bool) → ((i : ℕ) → i < n → f i ≡ g i) → count_to n f ≡ count_to n g
unfolding count_to
count-ext zero f g h = refl
count-ext (suc n) f g h = ap₂ (λ (x : ℕ) (b : Bool). x + gate b 1) (count-ext n f g (λ i l. h i (omega arith))) (h n (omega arith))

pub count-le : (n : ℕ) (f : ℕ → Bool) → count_to n f ≤ n
unfolding count_to
count-le zero f = omega arith
count-le (suc n) f = omega (arith, count-le n f, gate-le (f n) 1)

-- The word of f is 0 exactly where no number has f.
pub count_none : (n : ℕ) (f : ℕ → Bool) → count_to n f ≡ 0 → word_of n f ≡ 0
unfolding count_to word_of
count_none zero f h = refl
count_none (suc n) f h = go (f n) h (λ e. count_none n f e)
  where
    go : (b : Bool) → count_to n f + gate b 1 ≡ 0 → (count_to n f ≡ 0 → word_of n f ≡ 0) → word_of n f + gate b (2 ^ n) ≡ 0
    go true e ih = absurd (omega arith)
    go false e ih = omega (arith, ih (omega arith))

pub none-count : (n : ℕ) (f : ℕ → Bool) → ((i : ℕ) → i < n → f i ≡ false) → count_to n f ≡ 0
unfolding count_to
none-count zero f h = refl
none-count (suc n) f h = ap₂ (λ (x : ℕ) (b : Bool). x + gate b 1) (none-count n f (λ i l. h i (omega arith))) (h n (omega arith))

-- ---- words of 64 items

pub size-zero : (w : ℕ) → w < 2 ^ 64 → size_of w ≡ 0 → w ≡ 0
unfolding size_of
size-zero w l h = sym (word-self 64 w l) ∙ count_none 64 (has w) h

pub zero-size : size_of 0 ≡ 0
unfolding size_of
zero-size = none-count 64 (has 0) (λ i l. has-zero i)

pub size-le : (w : ℕ) → size_of w ≤ 64
unfolding size_of
size-le w = count-le 64 (has w)

pub has_meet : (a b i : ℕ) → i < 64 → has (meet_of a b) i ≡ (has a i && has b i)
unfolding meet_of
has_meet a b = word_in 64 (λ i. has a i && has b i)

pub has_join : (a b i : ℕ) → i < 64 → has (join_of a b) i ≡ (has a i || has b i)
unfolding join_of
has_join a b = word_in 64 (λ i. has a i || has b i)

pub has-less : (a b i : ℕ) → i < 64 → has (less_of a b) i ≡ (has a i && not (has b i))
unfolding less_of
has-less a b = word_in 64 (λ i. has a i && not (has b i))

pub has-item : (x i : ℕ) → i < 64 → has (item_of x) i ≡ eqb i x
unfolding item_of
has-item x = word_in 64 (λ i. eqb i x)

-- A word without one of its items.
pub less-here : (w x : ℕ) → x < 64 → has (less_of w (item_of x)) x ≡ false
less-here w x l = has-less w (item_of x) x l ∙ ap (λ (b : Bool). has w x && not b) (has-item x x l ∙ eq-eqb x x refl) ∙ and_no (has w x)

pub less_other : (w x i : ℕ) → i < 64 → (i ≡ x → ⊥) → has (less_of w (item_of x)) i ≡ has w i
less_other w x i l ne = has-less w (item_of x) i l ∙ ap (λ (b : Bool). has w i && not b) (has-item x i l ∙ ne_eqb i x ne) ∙ and_yes (has w i)

pub has_all : (n i : ℕ) → i < 64 → has (all_of n) i ≡ ltb i n
unfolding all_of
has_all n = word_in 64 (λ i. ltb i n)

-- ---- how many items are below n

count-all : (k n : ℕ) → k ≤ n → count_to k (λ i. ltb i n) ≡ k
unfolding count_to
count-all zero n h = refl
count-all (suc k) n h = rw (count-all k n (omega arith), lt-ltb k n (omega arith)) (omega arith)

count-below : (k n : ℕ) → n ≤ k → count_to k (λ i. ltb i n) ≡ n
unfolding count_to
count-below zero n h = omega arith
count-below (suc k) n h = go (ltb k n) refl (count-below k n)
  where
    go : (b : Bool) → ltb k n ≡ b → (n ≤ k → count_to k (λ i. ltb i n) ≡ n) → count_to k (λ i. ltb i n) + gate b 1 ≡ n
    go true e ih = let l : k < n = ltb-true k n e in omega (arith, count-all k n (omega arith))
    go false e ih = omega (arith, ih (ltb-false k n e))

pub size-all : (n : ℕ) → n ≤ 64 → size_of (all_of n) ≡ n
unfolding size_of
size-all n h = count-ext 64 (has (all_of n)) (λ i. ltb i n) (has_all n) ∙ count-below 64 n h

pub item-lt : (x : ℕ) → item_of x < 2 ^ 64
unfolding item_of
item-lt x = word_lt 64 (λ i. eqb i x)

pub all-lt : (n : ℕ) → all_of n < 2 ^ 64
unfolding all_of
all-lt n = word_lt 64 (λ i. ltb i n)

pub meet-lt : (a b : ℕ) → meet_of a b < 2 ^ 64
unfolding meet_of
meet-lt a b = word_lt 64 (λ i. has a i && has b i)

pub join-lt : (a b : ℕ) → join_of a b < 2 ^ 64
unfolding join_of
join-lt a b = word_lt 64 (λ i. has a i || has b i)

pub less-lt : (a b : ℕ) → less_of a b < 2 ^ 64
unfolding less_of
less-lt a b = word_lt 64 (λ i. has a i && not (has b i))

-- ---- the one item, and the first n, as numbers

item-is : (n x : ℕ) → x < n → word_of n (λ i. eqb i x) ≡ 2 ^ x
unfolding word_of
item-is zero x l = absurd (omega arith)
item-is (suc n) x l = go (eqb n x) refl (λ k. item-is n x k)
  where
    go : (b : Bool) → eqb n x ≡ b → (x < n → word_of n (λ i. eqb i x) ≡ 2 ^ x) → word_of n (λ i. eqb i x) + gate b (2 ^ n) ≡ 2 ^ x
    go true e ih =
        let q : n ≡ x = eqb-true n x e in
        omega (arith, word_none n (λ i. eqb i x) (λ i k. ne_eqb i x (λ r. omega arith)), ap (λ (k : ℕ). 2 ^ k) q)
    go false e ih =
        let ne : n ≡ x → ⊥ = eqb-false n x e in
        omega (arith, ih (omega arith))

pub item-pow : (x : ℕ) → x < 64 → item_of x ≡ 2 ^ x
unfolding item_of
item-pow x l = item-is 64 x l

pub item-none : (x : ℕ) → 64 ≤ x → item_of x ≡ 0
unfolding item_of
item-none x l = word_none 64 (λ i. eqb i x) (λ i k. ne_eqb i x (λ r. omega arith))

pub all_ones : (n : ℕ) → n ≤ 64 → all_of n + 1 ≡ 2 ^ n
unfolding all_of
all_ones n l =
    ap (λ (x : ℕ). x + 1) (word_more n 64 (λ i. ltb i n) l (λ i k _. le-ltb i n k))
    ∙ word-every n (λ i. ltb i n) (λ i k. lt-ltb i n k)

pub all-full : (n : ℕ) → 64 ≤ n → all_of n + 1 ≡ 2 ^ 64
unfolding all_of
all-full n l = word-every 64 (λ i. ltb i n) (λ i k. lt-ltb i n (omega arith))
