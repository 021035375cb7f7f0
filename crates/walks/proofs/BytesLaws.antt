-- A choice in one word of 8 bytes: an item is put, and two words that are equal under a context's mask are choices alike.
-- Assumes nothing.
use mathlib.Core.Path.{◌≡◌, refl, sym, ap, ap₂, ◌∙◌}
use mathlib.Core.List.{List, ◌∷◌}
use mathlib.Core.Bool.{Bool, true, false, not, ◌&&◌, ◌||◌, true≢false, and-true, or-false}
use Prim.Native.Nat.{ℕ, zero, suc, ◌+◌, ◌*◌, ◌-◌, ◌/◌, ◌%◌, ◌^◌, ◌<◌, ◌≤◌}
use native.Mathlib.Decide.{ℕ_discrete, dec_lt}
use native.Mathlib.Nat.{mod-lt, add-zero, div-one, div-div-eq-div-mul}
use native.Mathlib.Numerals.{unary_clauses}
use native.Mathlib.Omega.{arith}
use lib.Dec.{eqb, lit<}
use lib.ListN.{length, get_or, set, length-set, get_or-eq_default}
use lib.Pow.{pow_pos, shr-shr, shl-shr, shl_exact, low}
use lib.Seq.{get_or-set_same, get_or-set_other, ext_get_or}
use borrow.Author.Tests.{eq-eqb, ne_eqb, lt-ltb}
use Rattle.std.specs.Int.{bytes_low_first, to_le_bytes, w64, byte_at as byte_at_place}
use Rattle.words.specs.Words.{has, all_of, meet_of, join_of, less_of}
use Rattle.words.proofs.WordsLaws.{has-mod, has-out, has-zero, same_bits, has_meet, has_join, has-less, has_all, all_ones}
use Rattle.walks.specs.Choices.{nothing_chosen}
use Rattle.walks.specs.Code.Context.{Alike}
use Rattle.walks.specs.Code.Kept.{bytes_from, choice_of, MasksTo, Masks, put_in}

pub bytes-length : (n w : ℕ) → length (bytes_from n w) ≡ n
unfolding bytes_from
bytes-length zero w = refl
bytes-length (suc n) w = ap suc (bytes-length n (w / 256))

-- nothing is chosen in the word of all ones
pub nothing-word : choice_of 18446744073709551615 ≡ nothing_chosen
unfolding bytes_from
nothing-word = refl

-- the bytes of a word, as std has them
low-first : (i n w : ℕ) → bytes_low_first i n w ≡ bytes_from n (w / 256 ^ i)
unfolding bytes_from
low-first i zero w = refl
low-first i (suc n) w = ap₂ (λ (b : ℕ) (bs : List ℕ). b ∷ bs) (first i) (low-first (suc i) n w ∙ ap (bytes_from n) next)
  where
    first : (i : ℕ) → byte_at_place i w ≡ w / 256 ^ i % 256
    first zero = ap (λ (t : ℕ). t % 256) (sym (div-one w))
    first (suc i) = refl

    next : w / 256 ^ suc i ≡ w / 256 ^ i / 256
    next = simp unary_clauses (sym (div-div-eq-div-mul w (256 ^ i) 256))

pub le-bytes : (w : ℕ) → to_le_bytes w64 w ≡ choice_of w
le-bytes w = low-first 0 8 w ∙ ap choice_of (div-one w)

-- ---- the bits of a byte

pub byte_at : (n w u : ℕ) → u < n → get_or (bytes_from n w) u 0 ≡ w / 2 ^ (8 * u) % 2 ^ 8
unfolding bytes_from
byte_at zero w u l = absurd (omega arith)
byte_at (suc n) w zero l = omega arith
byte_at (suc n) w (suc u) l =
    let e : 8 + 8 * u ≡ 8 * suc u = omega arith in
    byte_at n (w / 256) u (omega arith) ∙ ap (λ (t : ℕ). t % 2 ^ 8) (shr-shr w 8 (8 * u) ∙ ap (λ (k : ℕ). w / 2 ^ k) e)

has-shr : (w k i : ℕ) → has (w / 2 ^ k) i ≡ has w (k + i)
unfolding has
has-shr w k i = ap (λ (t : ℕ). eqb (t % 2) 1) (shr-shr w k i)

has-byte : (w u i : ℕ) → i < 8 → has (w / 2 ^ (8 * u) % 2 ^ 8) i ≡ has w (8 * u + i)
has-byte w u i l = has-mod (w / 2 ^ (8 * u)) 8 i l ∙ has-shr w (8 * u) i

byte-lt : (w u : ℕ) → w / 2 ^ (8 * u) % 2 ^ 8 < 2 ^ 8
byte-lt w u = mod-lt (w / 2 ^ (8 * u)) (pow_pos 8)

-- two bytes are equal by their bits
same_byte : (a b u : ℕ) → u < 8 → ((i : ℕ) → i < 8 → has a (8 * u + i) ≡ has b (8 * u + i)) → get_or (choice_of a) u 0 ≡ get_or (choice_of b) u 0
same_byte a b u l h =
    byte_at 8 a u l
    ∙ same_bits 8 _ _ (byte-lt a u) (byte-lt b u) (λ i k. has-byte a u i k ∙ h i k ∙ sym (has-byte b u i k))
    ∙ sym (byte_at 8 b u l)

-- ---- alike at a context

-- a choice and what is left of it under the mask
pub alike-key : (word mask : ℕ) → Masks word mask → (w : ℕ) → Alike word (choice_of (meet_of w mask)) (choice_of w)
alike-key word mask m w u h = go (dec_lt u 8)
  where
    go : Dec (u < 8) → get_or (choice_of (meet_of w mask)) u 0 ≡ get_or (choice_of w) u 0
    go (yes l) =
        same_byte (meet_of w mask) w u l (λ i k.
        has_meet w mask (8 * u + i) (omega arith) ∙ ap (λ (t : Bool). has w (8 * u + i) && t) (m u i l k h) ∙ and-true (has w (8 * u + i)))
    go (no l) =
        let la : length (choice_of (meet_of w mask)) ≤ u = omega (arith, bytes-length 8 (meet_of w mask)) in
        let lb : length (choice_of w) ≤ u = omega (arith, bytes-length 8 w) in
        get_or-eq_default (choice_of (meet_of w mask)) 0 la ∙ sym (get_or-eq_default (choice_of w) 0 lb)

-- so two words that are equal under the mask are choices alike
pub alike_masked : (word mask : ℕ) → Masks word mask → (a b : ℕ) → meet_of a mask ≡ meet_of b mask → Alike word (choice_of a) (choice_of b)
alike_masked word mask m a b e u h = sym (alike-key word mask m a u h) ∙ ap (λ (t : ℕ). get_or (choice_of t) u 0) e ∙ alike-key word mask m b u h

-- ---- an item is put

has-shl : (x k i : ℕ) → has (x * 2 ^ k) (k + i) ≡ has x i
has-shl x k i = sym (has-shr (x * 2 ^ k) k i) ∙ ap (λ (t : ℕ). has t i) (shl-shr x k)

has-shl-low : (x k i : ℕ) → i < k → has (x * 2 ^ k) i ≡ false
has-shl-low x k i l =
    sym (has-mod (x * 2 ^ k) k i l) ∙ ap (λ (t : ℕ). has (t % 2 ^ k) i) (sym (add-zero (x * 2 ^ k))) ∙ ap (λ (t : ℕ). has t i) (low x k (pow_pos k)) ∙ has-zero i

-- the bits of x, put at the byte of v: no other byte has one
shifted-other : (v x : ℕ) → x < 256 → (u i : ℕ) → i < 8 → (u ≡ v → ⊥) → has (x * 2 ^ (8 * v)) (8 * u + i) ≡ false
shifted-other v x lx u i k ne = go (dec_lt u v)
  where
    go : Dec (u < v) → has (x * 2 ^ (8 * v)) (8 * u + i) ≡ false
    go (yes l) = has-shl-low x (8 * v) (8 * u + i) (omega arith)
    go (no l) =
        let j : ℕ = 8 * u + i - 8 * v in
        let e : 8 * u + i ≡ 8 * v + j = omega arith in
        ap (has (x * 2 ^ (8 * v))) e ∙ has-shl x (8 * v) j ∙ has-out x 8 j lx (omega arith)

has-ones : (i : ℕ) → i < 8 → has 255 i ≡ true
has-ones i l =
    let e : 255 ≡ all_of 8 = omega (arith, all_ones 8 (omega arith)) in
    ap (λ (t : ℕ). has t i) e ∙ has_all 8 i (omega arith) ∙ lt-ltb i 8 l

has-mask : (v u i : ℕ) → i < 8 → has (255 * 2 ^ (8 * v)) (8 * u + i) ≡ eqb u v
has-mask v u i k = go (ℕ_discrete u v)
  where
    go : Dec (u ≡ v) → has (255 * 2 ^ (8 * v)) (8 * u + i) ≡ eqb u v
    go (yes e) = rw e (has-shl 255 (8 * v) i ∙ has-ones i k ∙ sym (eq-eqb v v refl))
    go (no ne) = shifted-other v 255 (lit< tt) u i k ne ∙ sym (ne_eqb u v ne)

-- the word with the byte of v cleared and x there
module _ (w v x : ℕ) (lv : v < 8) (lx : x < 256) where
  abbrev put : ℕ
  put = put_in w v x

  put-bit : (u i : ℕ) → u < 8 → i < 8 → has put (8 * u + i) ≡ ((has w (8 * u + i) && not (eqb u v)) || has (x * 2 ^ (8 * v)) (8 * u + i))
  put-bit u i l k =
      has_join (less_of w (255 * 2 ^ (8 * v))) (x * 2 ^ (8 * v)) (8 * u + i) (omega arith)
      ∙ ap (λ (t : Bool). t || has (x * 2 ^ (8 * v)) (8 * u + i))
      (has-less w (255 * 2 ^ (8 * v)) (8 * u + i) (omega arith) ∙ ap (λ (t : Bool). has w (8 * u + i) && not t) (has-mask v u i k))

  pub choice-put : choice_of (put_in w v x) ≡ set (choice_of w) v x
  choice-put =
      ext_get_or 0 (choice_of put) (set (choice_of w) v x) (bytes-length 8 put ∙ sym (length-set (choice_of w) v x ∙ bytes-length 8 w)) (λ u l. go u (omega (arith, bytes-length 8 put)) (ℕ_discrete u v))
    where
      here : get_or (choice_of put) v 0 ≡ x
      here =
          byte_at 8 put v lv
          ∙ same_bits 8 _ _ (byte-lt put v) lx (λ i k.
          has-byte put v i k ∙ put-bit v i lv k
          ∙ ap₂ (λ (a b : Bool). (has w (8 * v + i) && not a) || b) (eq-eqb v v refl) (has-shl x (8 * v) i) ∙ none (has w (8 * v + i)) (has x i))
        where
          none : (a b : Bool) → ((a && false) || b) ≡ b
          none true b = refl
          none false b = refl

      go : (u : ℕ) → u < 8 → Dec (u ≡ v) → get_or (choice_of put) u 0 ≡ get_or (set (choice_of w) v x) u 0
      go u l (yes e) = rw e (here ∙ sym (get_or-set_same (choice_of w) v x 0 (omega (arith, bytes-length 8 w))))
      go u l (no ne) =
          same_byte put w u l (λ i k.
          put-bit u i l k
          ∙ ap₂ (λ (a b : Bool). (has w (8 * u + i) && not a) || b) (ne_eqb u v ne) (shifted-other v x lx u i k ne)
          ∙ or-false (has w (8 * u + i) && true) ∙ and-true (has w (8 * u + i)))
          ∙ sym (get_or-set_other (choice_of w) v u x 0 ne)

-- ---- a mask is joined byte by byte

pub masks-in : (n word mask : ℕ) → n < 8 → MasksTo n word mask → MasksTo (n + 1) word (join_of mask (255 * 2 ^ (8 * n)))
masks-in n word mask ln m u i l k h =
    has_join mask (255 * 2 ^ (8 * n)) (8 * u + i) (omega arith) ∙ ap (λ (t : Bool). has mask (8 * u + i) || t) (has-mask n u i k) ∙ go (ℕ_discrete u n)
  where
    or-true : (a : Bool) → (a || true) ≡ true
    or-true true = refl
    or-true false = refl

    go : Dec (u ≡ n) → (has mask (8 * u + i) || eqb u n) ≡ true
    go (yes e) = rw (eq-eqb u n e) (or-true (has mask (8 * u + i)))
    go (no ne) = rw (m u i (omega arith) k h)

pub masks-out : (n word mask : ℕ) → has word n ≡ false → MasksTo n word mask → MasksTo (n + 1) word mask
masks-out n word mask z m u i l k h = go (ℕ_discrete u n)
  where
    go : Dec (u ≡ n) → has mask (8 * u + i) ≡ true
    go (yes e) = absurd (true≢false (sym h ∙ ap (has word) e ∙ z))
    go (no ne) = m u i (omega arith) k h

-- ---- as the code shifts: in a word of 64 bits nothing is lost

pub byte-shift : (v x : ℕ) → v < 8 → x < 256 → x * 2 ^ (8 * v) % 2 ^ 64 ≡ x * 2 ^ (8 * v)
byte-shift v x lv lx = shl_exact {a = x} 8 (8 * v) 64 lx (omega arith)

pub put_word : (w v x cleared r : ℕ) → v < 8 → x < 256 → cleared ≡ less_of w (255 * 2 ^ (8 * v) % 2 ^ 64) → r ≡ join_of cleared (x * 2 ^ (8 * v) % 2 ^ 64)
    → choice_of r ≡ set (choice_of w) v x
put_word w v x cleared r lv lx e f =
    ap choice_of (f ∙ ap₂ join_of (e ∙ ap (less_of w) (byte-shift v 255 lv (lit< tt))) (byte-shift v x lv lx)) ∙ choice-put w v x lv lx

-- one turn of the loop that joins a mask
pub masks-next : (n word mask r : ℕ) → n < 8 → MasksTo n word mask → r ≡ join_of mask (255 * 2 ^ (8 * n) % 2 ^ 64) → MasksTo (n + 1) word r
masks-next n word mask r l m e = rw (e, byte-shift n 255 l (lit< tt)) (masks-in n word mask l m)
