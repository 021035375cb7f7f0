-- Laws of hexadecimal fields: one byte more is written, and one byte more is read.
-- Assumes nothing.
use mathlib.Core.Path.{◌≡◌, refl, sym, ap, ◌∙◌}
use mathlib.Core.Bool.{true}
use mathlib.Core.List.{List, [], ◌∷◌, ◌++◌, append_assoc, append-nil}
use mathlib.Core.Option.{Option, none, some}
use Prim.Native.Nat.{ℕ, suc, ◌+◌, ◌-◌, ◌*◌, ◌/◌, ◌%◌, ◌≤◌, ◌<◌}
use native.Mathlib.Numerals.{add-one}
use native.Mathlib.Omega.{arith}
use borrow.Author.Tests.{lt-ltb, le-ltb, le-leb, lt-leb, eq-eqb, ne_eqb}
use lib.ListN.{length, take, drop, get_or, set, drop_of_length-le}
use lib.Seq.{take-suc, take_all, drop-cons}
use Rattle.texts.specs.Code.Overwritten.{Overwritten}
use Rattle.texts.proofs.OverwrittenLaws.{none_written, written_byte, written-length}
use Rattle.std.specs.Prelude.{Option as Maybe, Some, None}
use Rattle.protocol.specs.Hex.{hex_digit, hex_value, hex_of, field_of, onto, pairs, from_hex}
use Rattle.protocol.specs.Code.Taken.{Bytes, no_bytes, some_bytes, Digit}

-- Writing

hex-snoc : (s : List ℕ) (x : ℕ) → hex_of (s ++ (x ∷ [])) ≡ (hex_of s ++ (hex_digit (x / 16) ∷ [])) ++ (hex_digit (x % 16) ∷ [])
unfolding hex_of
hex-snoc [] x = refl
hex-snoc (y ∷ s) x = ap (λ (l : List ℕ). hex_digit (y / 16) ∷ hex_digit (y % 16) ∷ l) (hex-snoc s x)

-- The digits of the first i bytes of b were written.
pub record Hexed (b old out : List ℕ) (i at : ℕ) : Type 0 where
  pub made : Overwritten (hex_of (take i b)) old out at

pub hexed-none : (b old : List ℕ) → Hexed b old old 0 0
unfolding hex_of
hexed-none b old = record { made = none_written old }

pub hexed-next : {b old out : List ℕ} {i at m : ℕ} → Hexed b old out i at → i < length b → at + 1 < length old → m ≡ at + 2
    → Hexed b old (set (set out at (hex_digit (get_or b i 0 / 16))) (at + 1) (hex_digit (get_or b i 0 % 16))) (i + 1) m
hexed-next {b} {i = i} {at = at} r h l q =
    let t : hex_of (take (i + 1) b) ≡ (hex_of (take i b) ++ (hex_digit (get_or b i 0 / 16) ∷ [])) ++ (hex_digit (get_or b i 0 % 16) ∷ []) =
    rw (add-one i, take-suc b i 0 h, hex-snoc) in
    let e : at + 2 ≡ at + 1 + 1 = omega arith in
    record { made = rw (q, t, e) (written_byte _ (written_byte _ r.made (omega arith)) l) }

pub hexed-all : {b old out : List ℕ} {i at : ℕ} → Hexed b old out i at → length b ≤ i → Overwritten (hex_of b) old out at
hexed-all {b} {i = i} r l = rw (take_all i b l) at r.made

-- Reading

-- A digit, a letter, and a byte below, between and above them.
module _ (c : ℕ) where
  pub decimal-digit : 48 ≤ c → c ≤ 57 → hex_value c ≡ c - 48
  unfolding hex_value
  decimal-digit l h = rw (le-leb 48 c l, le-leb c 57 h)

  pub letter-digit : 97 ≤ c → c ≤ 102 → hex_value c ≡ c - 87
  unfolding hex_value
  letter-digit l h =
      let a : 48 ≤ c = omega arith in
      let b : 57 < c = omega arith in
      rw (le-leb 48 c a, lt-leb c 57 b, le-leb 97 c l, le-leb c 102 h)

  pub below-digits : c < 48 → hex_value c ≡ 16
  unfolding hex_value
  below-digits h = let a : c < 97 = omega arith in rw (lt-leb 48 c h, lt-leb 97 c a)

  pub between-digits : 57 < c → c < 97 → hex_value c ≡ 16
  unfolding hex_value
  between-digits l h = let a : 48 ≤ c = omega arith in rw (le-leb 48 c a, lt-leb c 57 l, lt-leb 97 c h)

  pub above-digits : 102 < c → hex_value c ≡ 16
  unfolding hex_value
  above-digits l =
      let a : 48 ≤ c = omega arith in
      let b : 57 < c = omega arith in
      let d : 97 ≤ c = omega arith in
      rw (le-leb 48 c a, lt-leb c 57 b, le-leb 97 c d, lt-leb c 102 l)

-- w in front of the bytes that are still to be read.
abbrev front : List ℕ → Option (List ℕ) → Option (List ℕ)
front w none = none
front w (some s) = some (w ++ s)

-- The field up to `at` gave the n bytes that were written over the beginning of old.
pub record Paired (field old out : List ℕ) (n at : ℕ) : Type 0 where
  pub bytes : List ℕ
  pub made : Overwritten bytes old out n
  pub rest : pairs field ≡ front bytes (pairs (drop at field))

pub paired_none : (field old : List ℕ) → Paired field old old 0 0
paired_none field old = record { bytes = []; made = none_written old; rest = go (pairs field) }
  where
    go : (r : Option (List ℕ)) → r ≡ front [] r
    go none = refl
    go (some s) = refl

two-left : (field : List ℕ) (at : ℕ) → at + 1 < length field → drop at field ≡ get_or field at 0 ∷ get_or field (at + 1) 0 ∷ drop (at + 2) field
two-left field at h =
    let e : at + 1 ≡ suc at = add-one at in
    let e₂ : at + 2 ≡ suc (suc at) = omega arith in
    rw (e, e₂, drop-cons field at 0 (omega arith), drop-cons field (suc at) 0 (omega arith))

front-onto : (w : List ℕ) (v : ℕ) (r : Option (List ℕ)) → front w (onto true v r) ≡ front (w ++ (v ∷ [])) r
front-onto w v none = refl
front-onto w v (some s) = ap some (sym (append_assoc w (v ∷ []) s))

module _ {field old out : List ℕ} {n at : ℕ} (p : Paired field old out n at) where
  pub paired-next : {u v m : ℕ} → at + 1 < length field → Digit (hex_value (get_or field at 0)) (Some u) → Digit (hex_value (get_or field (at + 1) 0)) (Some v) → n < length old → m ≡ at + 2
      → Paired field old (set out n (16 * u + v)) (n + 1) m
  unfolding pairs
  paired-next h x y l q = rw (q, x.0, y.0) (record {
    bytes = p.bytes ++ ((16 * hex_value (get_or field at 0) + hex_value (get_or field (at + 1) 0)) ∷ []);
    made = written_byte _ p.made l;
    rest = p.rest ∙ rw (two-left field at h, lt-ltb _ 16 x.1, lt-ltb _ 16 y.1) (front-onto p.bytes _ (pairs (drop (at + 2) field)));
  })

  pub no-high : at + 1 < length field → 16 ≤ hex_value (get_or field at 0) → Bytes (pairs field) old out None
  unfolding pairs
  no-high h x = no_bytes (p.rest ∙ rw (two-left field at h, le-ltb _ 16 x))

  pub no-low : at + 1 < length field → hex_value (get_or field at 0) < 16 → 16 ≤ hex_value (get_or field (at + 1) 0) → Bytes (pairs field) old out None
  unfolding pairs
  no-low h x y = no_bytes (p.rest ∙ rw (two-left field at h, lt-ltb _ 16 x, le-ltb _ 16 y))

  pub odd-one : at < length field → length field ≤ at + 1 → Bytes (pairs field) old out None
  unfolding pairs
  odd-one h l =
      let k : length field ≤ suc at = omega arith in
      no_bytes (p.rest ∙ rw (drop-cons field at 0 h, drop_of_length-le field k))

  pub all-pairs : {m : ℕ} → length field ≤ at → m ≡ n → Bytes (pairs field) old out (Some m)
  unfolding pairs
  all-pairs l q = rw q (some_bytes {w = p.bytes} (p.rest ∙ rw (drop_of_length-le field l, append-nil)) p.made)

-- Whole fields

pub empty-field : (s old new : List ℕ) → length s ≡ 0 → Bytes (from_hex s) old new None
unfolding from_hex
empty-field [] old new h = no_bytes refl
empty-field (x ∷ s) old new h = absurd (omega arith)

pub dash-field : (s old : List ℕ) → length s ≡ 1 → get_or s 0 0 ≡ 45 → Bytes (from_hex s) old old (Some 0)
unfolding from_hex
dash-field [] old h e = absurd (omega arith)
dash-field (x ∷ []) old h e = some_bytes {w = []} (rw (eq-eqb x 45 e)) (none_written old)
dash-field (x ∷ y ∷ s) old h e = absurd (omega arith)

pub short-field : (s old new : List ℕ) → length s ≡ 1 → (get_or s 0 0 ≡ 45 → ⊥) → Bytes (from_hex s) old new None
unfolding from_hex
short-field [] old new h n = absurd (omega arith)
short-field (x ∷ []) old new h n = no_bytes (rw (ne_eqb x 45 n))
short-field (x ∷ y ∷ s) old new h n = absurd (omega arith)

pub long-field : (s : List ℕ) {old new : List ℕ} {r : Maybe ℕ} → (length s ≡ 0 → ⊥) → (length s ≡ 1 → ⊥) → Bytes (pairs s) old new r → Bytes (from_hex s) old new r
unfolding from_hex
long-field [] z o p = absurd (z refl)
long-field (x ∷ []) z o p = absurd (o refl)
long-field (x ∷ y ∷ s) z o p = p

pub dash-written : (b old : List ℕ) → length b ≡ 0 → 2 * length b < length old → Overwritten (field_of b) old (set old 0 45) 1
unfolding field_of
dash-written [] old h l = written_byte 45 (none_written old) (omega arith)
dash-written (x ∷ b) old h l = absurd (omega arith)

pub hex-written : (b : List ℕ) {old new : List ℕ} {n : ℕ} → (length b ≡ 0 → ⊥) → Overwritten (hex_of b) old new n → Overwritten (field_of b) old new n
unfolding field_of
hex-written [] h w = absurd (h refl)
hex-written (x ∷ b) h w = w

-- The bytes of a field that was read are the first n of those lent.
pub bytes-within : {b : Option (List ℕ)} {old new : List ℕ} {r : Maybe ℕ} {n : ℕ} → Bytes b old new r → r ≡ Some n → n ≤ length new
bytes-within (no_bytes e) q = let z : ◌≡◌ {A = ℕ} 0 1 = cc in absurd (omega arith)
bytes-within {n = n} (some_bytes {n = m} e w) q = let x : m ≡ n = cc in omega (arith, w.count, w.fits, written-length w)
