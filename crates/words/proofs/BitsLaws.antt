-- What the machine's operations do to bits: each gives the word that the definitions say.
-- Assumes nothing.
use mathlib.Core.Path.{◌≡◌, refl, sym, ap, ◌∙◌}
use mathlib.Core.Bool.{Bool, true, false, ◌&&◌, ◌||◌, not}
use Prim.Native.Nat.{ℕ, zero, suc, ◌+◌, ◌-◌, ◌/◌, ◌%◌, ◌^◌, ◌<◌}
use native.Mathlib.Nat.{mod-lt, mod-eq_of_lt, div-one, pow-suc}
use native.Mathlib.Omega.{arith}
use lib.Dec.{eqb, lit<}
use lib.Pow.{pow_pos, shr-shr, mod-pow-add, ones_sub-lt}
use lib.Bits.{bit_and, bit_or, and_shr, and_mod, and_lt, or_shr, or_mod, or_lt}
use lib.Count.{ones, ones_in, ones_cat, count_trailing_zeros, under, trailing_le}
use Rattle.words.specs.Words.{has, gate, word_of, count_to, size_of, meet_of, join_of, less_of, Lowest}
use Rattle.words.proofs.WordsLaws.{word-ext, word-self}

-- ---- operations on two words, bit by bit

-- An operation that works on each digit apart works on each bit apart.
by_digits : (op : ℕ → ℕ → ℕ) (g : Bool → Bool → Bool)
    → ((a b k : ℕ) → op a b / 2 ^ k ≡ op (a / 2 ^ k) (b / 2 ^ k)) → ((a b k : ℕ) → op a b % 2 ^ k ≡ op (a % 2 ^ k) (b % 2 ^ k))
    → ((x y : ℕ) → x < 2 → y < 2 → eqb (op x y) 1 ≡ g (eqb x 1) (eqb y 1))
    → (a b i : ℕ) → has (op a b) i ≡ g (has a i) (has b i)
unfolding has
by_digits op g high low cases a b i =
    ap (λ (x : ℕ). eqb x 1) (ap (λ (x : ℕ). x % 2) (high a b i) ∙ low (a / 2 ^ i) (b / 2 ^ i) 1)
    ∙ cases (a / 2 ^ i % 2) (b / 2 ^ i % 2) (mod-lt (a / 2 ^ i) (lit< tt)) (mod-lt (b / 2 ^ i) (lit< tt))

pub has-and : (a b i : ℕ) → has (bit_and a b) i ≡ (has a i && has b i)
has-and = by_digits bit_and (λ a b. a && b) and_shr and_mod cases
  where
    cases : (x y : ℕ) → x < 2 → y < 2 → eqb (bit_and x y) 1 ≡ (eqb x 1 && eqb y 1)
    cases zero y h k = refl
    cases (suc zero) zero h k = refl
    cases (suc zero) (suc zero) h k = refl
    cases (suc zero) (suc (suc y)) h k = absurd (omega arith)
    cases (suc (suc x)) y h k = absurd (omega arith)

pub has-or : (a b i : ℕ) → has (bit_or a b) i ≡ (has a i || has b i)
has-or = by_digits bit_or (λ a b. a || b) or_shr or_mod cases
  where
    cases : (x y : ℕ) → x < 2 → y < 2 → eqb (bit_or x y) 1 ≡ (eqb x 1 || eqb y 1)
    cases zero y h k = refl
    cases (suc zero) zero h k = refl
    cases (suc zero) (suc zero) h k = refl
    cases (suc zero) (suc (suc y)) h k = absurd (omega arith)
    cases (suc (suc x)) y h k = absurd (omega arith)

-- ---- the lowest bit, and the rest

pub has-low : (w : ℕ) → has w 0 ≡ eqb (w % 2) 1
unfolding has
has-low w = ap (λ (x : ℕ). eqb (x % 2) 1) (div-one w)

pub has-suc : (w i : ℕ) → has w (suc i) ≡ has (w / 2) i
unfolding has
has-suc w i =
    let e : suc i ≡ 1 + i = omega arith in
    ap (λ (x : ℕ). eqb (x % 2) 1) (ap (λ (k : ℕ). w / 2 ^ k) e ∙ sym (shr-shr w 1 i))

-- The bits that are not set.
pub has-not : (n b i : ℕ) → b < 2 ^ n → i < n → has ((2 ^ n - 1) - b) i ≡ not (has b i)
has-not zero b i h l = absurd (omega arith)
has-not (suc n) b zero h l =
    let e : ((2 ^ suc n - 1) - b) % 2 ≡ 1 - b % 2 = omega (arith, pow-suc 2 n) in
    has-low ((2 ^ suc n - 1) - b) ∙ ap (λ (x : ℕ). eqb x 1) e ∙ flip (b % 2) (mod-lt b (lit< tt)) ∙ sym (ap not (has-low b))
  where
    flip : (d : ℕ) → d < 2 → eqb (1 - d) 1 ≡ not (eqb d 1)
    flip zero k = refl
    flip (suc zero) k = refl
    flip (suc (suc d)) k = absurd (omega arith)
has-not (suc n) b (suc i) h l =
    let e : ((2 ^ suc n - 1) - b) / 2 ≡ (2 ^ n - 1) - b / 2 = omega (arith, pow-suc 2 n) in
    has-suc ((2 ^ suc n - 1) - b) i ∙ ap (λ (x : ℕ). has x i) e ∙ has-not n (b / 2) i (omega (arith, pow-suc 2 n)) (omega arith)
    ∙ sym (ap not (has-suc b i))

-- ---- the words

-- A word of 64 bits is the word of its bits, however they are told.
pub told : (w : ℕ) (f : ℕ → Bool) → w < 2 ^ 64 → ((i : ℕ) → i < 64 → has w i ≡ f i) → w ≡ word_of 64 f
told w f l h = sym (word-self 64 w l) ∙ word-ext 64 (has w) f h

pub and-meet : (a b : ℕ) → a < 2 ^ 64 → b < 2 ^ 64 → bit_and a b ≡ meet_of a b
unfolding meet_of
and-meet a b ha hb = told (bit_and a b) (λ i. has a i && has b i) (and_lt 64 a b ha hb) (λ i _. has-and a b i)

pub or-join : (a b : ℕ) → a < 2 ^ 64 → b < 2 ^ 64 → bit_or a b ≡ join_of a b
unfolding join_of
or-join a b ha hb = told (bit_or a b) (λ i. has a i || has b i) (or_lt 64 a b ha hb) (λ i _. has-or a b i)

pub and-not-less : (a b : ℕ) → a < 2 ^ 64 → b < 2 ^ 64 → bit_and a ((2 ^ 64 - 1) - b) ≡ less_of a b
unfolding less_of
and-not-less a b ha hb =
    told (bit_and a ((2 ^ 64 - 1) - b)) (λ i. has a i && not (has b i)) (and_lt 64 a ((2 ^ 64 - 1) - b) ha (ones_sub-lt 64 b)) (λ i l.
    has-and a ((2 ^ 64 - 1) - b) i ∙ ap (λ (x : Bool). has a i && x) (has-not 64 b i hb l))

-- ---- the count of ones

ones-count : (n w : ℕ) → ones (w % 2 ^ n) ≡ count_to n (has w)
unfolding count_to has ones ones_in
ones-count zero w = ap ones (let e : w % 2 ^ 0 ≡ 0 = omega arith in e)
ones-count (suc n) w =
    let e : suc n ≡ 1 + n = omega arith in
    ap ones (ap (λ (k : ℕ). w % 2 ^ k) e ∙ mod-pow-add w 1 n)
    ∙ ones_cat n (w / 2 ^ n % 2) (w % 2 ^ n) (mod-lt w (omega (arith, pow_pos n)))
    ∙ omega (arith, ones-count n w, one (w / 2 ^ n % 2) (mod-lt (w / 2 ^ n) (lit< tt)))
  where
    one : (d : ℕ) → d < 2 → ones d ≡ gate (eqb d 1) 1
    one zero k = refl
    one (suc zero) k = refl
    one (suc (suc d)) k = absurd (omega arith)

pub ones-size : (w : ℕ) → w < 2 ^ 64 → ones w ≡ size_of w
unfolding size_of
ones-size w l = ap ones (sym (mod-eq_of_lt l)) ∙ ones-count 64 w

-- ---- the lowest item

trailing-least : (k w i : ℕ) → i < count_trailing_zeros k w → has w i ≡ false
unfolding count_trailing_zeros
trailing-least zero w i l = absurd (omega arith)
trailing-least (suc k) w i l = go (w % 2) refl i l (λ j. trailing-least k (w / 2) j)
  where
    go : (d : ℕ) → w % 2 ≡ d → (i : ℕ) → i < under d (count_trailing_zeros k (w / 2)) → ((j : ℕ) → j < count_trailing_zeros k (w / 2) → has (w / 2) j ≡ false)
        → has w i ≡ false
    go zero e zero l ih = has-low w ∙ ap (λ (x : ℕ). eqb x 1) e
    go zero e (suc i) l ih = has-suc w i ∙ ih i (omega arith)
    go (suc d) e i l ih = absurd (omega arith)

trailing-found : (k w : ℕ) → count_trailing_zeros k w < k → has w (count_trailing_zeros k w) ≡ true
unfolding count_trailing_zeros
trailing-found zero w l = absurd (omega arith)
trailing-found (suc k) w l = go (w % 2) refl l (λ h. trailing-found k (w / 2) h)
  where
    go : (d : ℕ) → w % 2 ≡ d → under d (count_trailing_zeros k (w / 2)) < suc k → (count_trailing_zeros k (w / 2) < k → has (w / 2) (count_trailing_zeros k (w / 2)) ≡ true)
        → has w (under d (count_trailing_zeros k (w / 2))) ≡ true
    go zero e l ih = has-suc w (count_trailing_zeros k (w / 2)) ∙ ih (omega arith)
    go (suc zero) e l ih = has-low w ∙ ap (λ (x : ℕ). eqb x 1) e
    go (suc (suc d)) e l ih = absurd (omega (arith, mod-lt w {m = 2} (lit< tt)))

pub trailing-lowest : (w : ℕ) → Lowest w (count_trailing_zeros 64 w)
trailing-lowest w = record { within = trailing_le 64 w; least = trailing-least 64 w; found = trailing-found 64 w }
