-- Laws of numbers at a place: what the digits there make is the largest number up to 64 whose digits stand in front.
-- Assumes nothing.
use mathlib.Core.Path.{◌≡◌, refl, ap, sym, ◌∙◌}
use mathlib.Core.List.{[], ◌∷◌, ◌++◌}
use Prim.Native.Nat.{ℕ, zero, suc, ◌+◌, ◌*◌, ◌-◌, ◌/◌, ◌%◌, ◌<◌, ◌≤◌}
use native.Mathlib.Decide.{dec_lt, ℕ_discrete}
use native.Mathlib.Numerals.{add-one}
use native.Mathlib.Omega.{arith}
use borrow.Author.Tests.{lt-ltb, le-ltb}
use lib.ListN.{length, get_or, drop, drop_of_length-le}
use lib.Seq.{drop-cons}
use Rattle.std.specs.Prelude.{Some, None}
use Rattle.syntax.specs.Bytes.{Bytes, Read, fail, got, skip, scan}
use Rattle.syntax.specs.Rule.{digits, down, read_number}
use Rattle.syntax.specs.Code.Reading.{Named, no_name, some_name, Signed, read_digit, itself}
use Rattle.syntax.proofs.BytesLaws.{never, skip-gives, either-own, either-on}
use Rattle.syntax.proofs.RuleLaws.{digits-one, digits-two}

-- Digits.

digit-gives : (s : Bytes) {d : ℕ} {r : Bytes} → read_digit s ≡ got d r → (s ≡ (48 + d) ∷ r) × (d ≤ 9)
unfolding read_digit
digit-gives [] e = never e
digit-gives (c ∷ s) {d} {r} e = go (dec_lt c 48) (dec_lt 57 c)
  where
    go : Dec (c < 48) → Dec (57 < c) → (c ∷ s ≡ (48 + d) ∷ r) × (d ≤ 9)
    go (yes p) q = never (rw (lt-ltb c 48 p, read_digit) at e)
    go (no p) (yes q) = let l : 48 ≤ c = omega arith in never (rw (le-ltb c 48 l, lt-ltb 57 c q, read_digit) at e)
    go (no p) (no q) =
        let l : 48 ≤ c = omega arith in
        let m : c ≤ 57 = omega arith in
        let g : got (c - 48) s ≡ got d r = rw (le-ltb c 48 l, le-ltb 57 c m, read_digit) at e in
        let x : c - 48 ≡ d = cc in
        let y : s ≡ r = cc in
        let z : c ≡ 48 + d = omega arith in
        (cc, omega arith)

digit-own : (d : ℕ) (r : Bytes) → d ≤ 9 → read_digit ((48 + d) ∷ r) ≡ got d r
unfolding read_digit
digit-own d r h =
    let l : 48 ≤ 48 + d = omega arith in
    let m : 48 + d ≤ 57 = omega arith in
    let z : 48 + d - 48 ≡ d = omega arith in
    rw (le-ltb (48 + d) 48 l, le-ltb 57 (48 + d) m, read_digit, z)

module _ (s : Bytes) (at : ℕ) where
  pub digit-end : length s ≤ at → Named itself s at None (read_digit (drop at s))
  unfolding read_digit
  digit-end h = no_name {r = read_digit (drop at s)} (rw (drop_of_length-le s h))

  pub digit_low : at < length s → get_or s at 0 < 48 → Named itself s at None (read_digit (drop at s))
  unfolding read_digit
  digit_low h l = no_name {r = read_digit (drop at s)} (rw (drop-cons s at 0 h, lt-ltb (get_or s at 0) 48 l, read_digit))

  pub digit-high : at < length s → 48 ≤ get_or s at 0 → 57 < get_or s at 0 → Named itself s at None (read_digit (drop at s))
  unfolding read_digit
  digit-high h l m = no_name {r = read_digit (drop at s)} (rw (drop-cons s at 0 h, le-ltb (get_or s at 0) 48 l, lt-ltb 57 (get_or s at 0) m, read_digit))

  pub digit-is : {d : ℕ} → at < length s → 48 ≤ get_or s at 0 → get_or s at 0 ≤ 57 → d ≡ get_or s at 0 - 48 → Named itself s at (Some (record { number = d; next = at + 1 })) (read_digit (drop at s))
  unfolding read_digit
  digit-is {d} h l m e =
      let q : read_digit (drop at s) ≡ got d (drop (at + 1) s) = rw (drop-cons s at 0 h, le-ltb (get_or s at 0) 48 l, le-ltb 57 (get_or s at 0) m, read_digit, ← e, add-one) in
      some_name {h = record { number = d; next = at + 1 }} (record { thing = d; is = q; number_is = refl; more = omega arith; fits = omega arith })

-- What was read where a digit was found.
digit-read : {s : Bytes} {at d e : ℕ} → Signed itself s at d e (read_digit (drop at s)) → read_digit (drop at s) ≡ got d (drop e s)
digit-read {s} {at} {d} {e} x = x.is ∙ ap (λ (n : ℕ). got n (drop e s)) x.number_is

pub digit-small : {s : Bytes} {at d e : ℕ} → Signed itself s at d e (read_digit (drop at s)) → d ≤ 9
digit-small {s} {at} x = (digit-gives (drop at s) (digit-read x)).1

-- The first number from k down whose digits stand in front.

abbrev Other : ℕ → Bytes → ℕ → Type 0
Other k s n = (m : ℕ) (w : Bytes) → n ≤ m → m ≤ k → s ≡ digits m ++ w → ⊥

not_there : (m : ℕ) (s : Bytes) → ((w : Bytes) → s ≡ digits m ++ w → ⊥) → skip (digits m) s ≡ fail
not_there m s h = go (skip (digits m) s) refl
  where
    go : (o : Read (Unit {0})) → skip (digits m) s ≡ o → skip (digits m) s ≡ fail
    go fail e = e
    go (got u w) e = absurd (h w (skip-gives (digits m) s e))

scan-none : (k : ℕ) (s : Bytes) → Other k s 0 → scan digits (down k) s ≡ fail
unfolding down scan
scan-none zero s h = either-on (digits 0) _ _ s (not_there 0 s (λ w e. h 0 w (omega arith) (omega arith) e))
scan-none (suc k) s h = either-on (digits (suc k)) _ _ s (not_there (suc k) s (λ w e. h (suc k) w (omega arith) (omega arith) e)) ∙ scan-none k s (λ m w l l' e. h m w l (omega arith) e)

scan-down : (k n : ℕ) (r : Bytes) → n ≤ k → Other k (digits n ++ r) (suc n) → scan digits (down k) (digits n ++ r) ≡ got n r
unfolding down scan
scan-down zero n r l h = let z : n ≡ 0 = omega arith in rw z (either-own (digits 0) _ _ r)
scan-down (suc k) n r l h = go (λ l'. scan-down k n r l' (λ m w a b e. h m w a (omega arith) e)) (ℕ_discrete n (suc k))
  where
    go : (n ≤ k → scan digits (down k) (digits n ++ r) ≡ got n r) → Dec (n ≡ suc k) → scan digits (down (suc k)) (digits n ++ r) ≡ got n r
    go ih (yes p) = rw p (either-own (digits (suc k)) _ _ r)
    go ih (no p) = either-on (digits (suc k)) _ _ _ (not_there (suc k) (digits n ++ r) (λ w e. h (suc k) w (omega arith) (omega arith) e)) ∙ ih (omega arith)

-- What stands in front of the digits of m: one digit or two.
data Fronted (m : ℕ) (w s : Bytes) : Type 0 where
  one : m < 10 → read_digit s ≡ got m w → Fronted m w s
  pair : {r : Bytes} → 10 ≤ m → read_digit s ≡ got (m / 10) r → read_digit r ≡ got (m % 10) w → Fronted m w s

fronted : (m : ℕ) (w s : Bytes) → m ≤ 64 → s ≡ digits m ++ w → Fronted m w s
fronted m w s l e = go (dec_lt m 10)
  where
    go : Dec (m < 10) → Fronted m w s
    go (yes p) = one p (rw (e, digits-one m p) (digit-own m w (omega arith)))
    go (no p) =
        let h : 10 ≤ m = omega arith in
        pair {r = (48 + m % 10) ∷ w} h (rw (e, digits-two m h) (digit-own (m / 10) ((48 + m % 10) ∷ w) (omega arith))) (digit-own (m % 10) w (omega arith))

pub number-fail : (s : Bytes) (at : ℕ) → read_digit (drop at s) ≡ fail → read_number (drop at s) ≡ fail
number-fail s at e = scan-none 64 (drop at s) (λ m w l k q. go (fronted m w (drop at s) k q))
  where
    go : {m : ℕ} {w : Bytes} → Fronted m w (drop at s) → ⊥
    go (one p q) = never (sym e ∙ q)
    go (pair p q q') = never (sym e ∙ q)

number-found : {s : Bytes} {at n e : ℕ} (r : Bytes) → drop at s ≡ digits n ++ r → r ≡ drop e s → at + 1 ≤ e → e ≤ length s → n ≤ 64 → Other 64 (drop at s) (suc n) → Named itself s at (Some (record { number = n; next = e })) (read_number (drop at s))
number-found {s} {at} {n} {e} r q p m f l h =
    let y : read_number (drop at s) ≡ got n (drop e s) = rw (q, ← p) (scan-down 64 n r l (rw q at h)) in
    some_name {h = record { number = n; next = e }} {r = read_number (drop at s)} (record { thing = n; is = y; number_is = refl; more = m; fits = f })

module _ {s : Bytes} {at a e : ℕ} (x : Signed itself s at a e (read_digit (drop at s))) where
  -- The digit alone is the number, where no number with another digit behind it stands there.
  alone : ((m : ℕ) (w : Bytes) → a < m → 10 ≤ m → m ≤ 64 → m / 10 ≡ a → read_digit (drop e s) ≡ got (m % 10) w → ⊥) → Named itself s at (Some (record { number = a; next = e })) (read_number (drop at s))
  alone h =
      let d = digit-gives (drop at s) (digit-read x) in
      let l : a < 10 = omega (arith, d.1) in
      number-found (drop e s) (d.0 ∙ rw (digits-one a l)) refl x.more x.fits (omega arith) (λ m w u k q. go m w u k (fronted m w (drop at s) k q))
    where
      go : (m : ℕ) (w : Bytes) → suc a ≤ m → m ≤ 64 → Fronted m w (drop at s) → ⊥
      go m w u k (one p q) = let z : m ≡ a = cc (digit-read x) in omega arith
      go m w u k (pair {r = r} p q q') =
          let z : m / 10 ≡ a = cc (digit-read x) in
          let y : r ≡ drop e s = cc (digit-read x) in
          h m w u p k z (rw (← y) q')

  pub number-zero : a ≡ 0 → Named itself s at (Some (record { number = a; next = e })) (read_number (drop at s))
  number-zero z = alone (λ m w u p k q f. omega arith)

  pub number-single : read_digit (drop e s) ≡ fail → Named itself s at (Some (record { number = a; next = e })) (read_number (drop at s))
  number-single f = alone (λ m w u p k q g. never (sym f ∙ g))

  module _ {b f : ℕ} (y : Signed itself s e b f (read_digit (drop e s))) where
    pub number-one : 65 ≤ 10 * a + b → Named itself s at (Some (record { number = a; next = e })) (read_number (drop at s))
    number-one l = alone (λ m w u p k q g. let z : m % 10 ≡ b = cc (digit-read y) in omega arith)

    pub number-two : (a ≡ 0 → ⊥) → 10 * a + b < 65 → Named itself s at (Some (record { number = 10 * a + b; next = f })) (read_number (drop at s))
    number-two z l =
        let d = digit-gives (drop at s) (digit-read x) in
        let d' = digit-gives (drop e s) (digit-read y) in
        let t : 10 ≤ 10 * a + b = omega arith in
        let q₁ : (10 * a + b) / 10 ≡ a = omega (arith, d'.1) in
        let q₂ : (10 * a + b) % 10 ≡ b = omega (arith, d'.1) in
        number-found (drop f s) (d.0 ∙ rw (d'.0, digits-two (10 * a + b) t, q₁, q₂)) refl (omega (arith, x.more, y.more)) y.fits (omega arith)
        (λ m w u k q. go m w u k (fronted m w (drop at s) k q))
      where
        go : (m : ℕ) (w : Bytes) → suc (10 * a + b) ≤ m → m ≤ 64 → Fronted m w (drop at s) → ⊥
        go m w u k (one p q) = let i : m ≡ a = cc (digit-read x) in omega arith
        go m w u k (pair {r = r} p q q') =
            let i : m / 10 ≡ a = cc (digit-read x) in
            let j : r ≡ drop e s = cc (digit-read x) in
            let g : read_digit (drop e s) ≡ got (m % 10) w = rw (← j) q' in
            let n : m % 10 ≡ b = cc (digit-read y) in
            omega arith
