-- Laws of words as bytes: the bytes of a word and the word of bytes undo each other.
-- Assumes nothing.
use mathlib.Core.Path.{◌≡◌, refl, ap}
use mathlib.Core.List.{[], ◌∷◌, ◌++◌}
use Prim.Native.Nat.{ℕ, zero, suc, ◌+◌, ◌*◌, ◌/◌, ◌%◌, ◌^◌, ◌<◌}
use native.Mathlib.Nat.{pow-suc}
use native.Mathlib.Omega.{arith}
use lib.ListN.{length}
use Rattle.tables.specs.Bytes.{Bytes, AreBytes, word_from, lowest_first}

pub lowest-length : (n w : ℕ) → length (lowest_first n w) ≡ n
unfolding lowest_first
lowest-length zero w = refl
lowest-length (suc n) w = ap suc (lowest-length n (w / 256))

-- A word that has no more than n bytes is the word of its n bytes.
pub word-lowest : (n w : ℕ) → w < 256 ^ n → word_from (lowest_first n w) ≡ w
unfolding lowest_first word_from
word-lowest zero w h = omega arith
word-lowest (suc n) w h =
    let l : w < 256 ^ n * 256 = rw pow-suc at h in
    rw (word-lowest n (w / 256) (omega arith)) (omega arith)

-- Bytes are those of their word.
pub lowest-word : (b : Bytes) → AreBytes b → lowest_first (length b) (word_from b) ≡ b
unfolding lowest_first word_from AreBytes
lowest-word [] h = refl
lowest-word (x ∷ b) h =
    let l : x < 256 = h 0 in
    let m : (x + 256 * word_from b) % 256 ≡ x = omega arith in
    let d : (x + 256 * word_from b) / 256 ≡ word_from b = omega arith in
    rw (m, d) (ap (λ (s : Bytes). x ∷ s) (lowest-word b (λ i. h (suc i))))

-- The bytes of a word are bytes; so are bytes one after another, and parts of them.
pub lowest-bytes : (n w : ℕ) → AreBytes (lowest_first n w)
unfolding lowest_first AreBytes
lowest-bytes zero w i = omega arith
lowest-bytes (suc n) w zero = omega arith
lowest-bytes (suc n) w (suc i) = lowest-bytes n (w / 256) i

pub bytes-cons : (n : ℕ) (s : Bytes) → n < 256 → AreBytes s → AreBytes (n ∷ s)
unfolding AreBytes
bytes-cons n s l h zero = l
bytes-cons n s l h (suc i) = h i

pub bytes-append : (b s : Bytes) → AreBytes b → AreBytes s → AreBytes (b ++ s)
unfolding AreBytes
bytes-append [] s h k i = k i
bytes-append (x ∷ b) s h k zero = h 0
bytes-append (x ∷ b) s h k (suc i) = bytes-append b s (λ j. h (suc j)) k i

pub bytes-behind : (b s : Bytes) → AreBytes (b ++ s) → AreBytes s
unfolding AreBytes
bytes-behind [] s h = h
bytes-behind (x ∷ b) s h = bytes-behind b s (λ i. h (suc i))

pub bytes-before : (b s : Bytes) → AreBytes (b ++ s) → AreBytes b
unfolding AreBytes
bytes-before [] s h i = omega arith
bytes-before (x ∷ b) s h zero = h 0
bytes-before (x ∷ b) s h (suc i) = bytes-before b s (λ j. h (suc j)) i
