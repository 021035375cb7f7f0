-- The share is the nearest whole per cent, an exact half the even neighbour, and no other number is.
-- Assumes nothing.
use mathlib.Core.Path.{◌≡◌, refl, sym, ◌∙◌}
use mathlib.Core.Bool.{Bool, true, false, cond, ◌&&◌, ◌||◌, true≢false}
use Prim.Native.Nat.{ℕ, zero, suc, ◌+◌, ◌*◌, ◌/◌, ◌%◌, ◌<◌, ◌≤◌}
use native.Mathlib.Nat.{div-eq_of_lt-le, mul-le-mul_right, le_of_mul-le-mul_right, div-add-mod', mod-lt}
use native.Mathlib.Omega.{arith}
use lib.Dec.{eqb, ltb}
use borrow.Author.Tests.{eq-eqb, ne_eqb, eqb-true, eqb-false, ltb-true, ltb-false}
use Rattle.words.proofs.WordsLaws.{and-true}
use Rattle.walks.specs.Share.{twice_apart, IsShare, is_nearest, nearest_to, share_of}

-- The products of two numbers in order: full apart or more.
step : (full s t : ℕ) → s < t → s * full + full ≤ t * full
step full s t l =
    let m : suc s * full ≤ t * full = mul-le-mul_right full l in
    omega arith

-- Two different numbers are not both the share: each could only be a half away, and one of two neighbours is odd.
apart : {full breaking s t : ℕ} → 0 < full → s < t → IsShare full breaking s → IsShare full breaking t → ⊥
apart {full} {breaking} {s} {t} pos l p q =
    let up = step full s t l in
    let least : t * full ≤ (s + 1) * full = omega (arith, p.nearest pos, q.nearest pos) in
    let next : t ≤ s + 1 = le_of_mul-le-mul_right least pos in
    let half : twice_apart full breaking s ≡ full = omega (arith, p.nearest pos, q.nearest pos) in
    let half' : twice_apart full breaking t ≡ full = omega (arith, p.nearest pos, q.nearest pos) in
    omega (arith, p.even pos half, q.even pos half')

-- ONE S ONLY is the share.
pub one-share : {full breaking s t : ℕ} → IsShare full breaking s → IsShare full breaking t → s ≡ t
one-share {full} {breaking} {s} {t} p q = go full refl (ltb s t) refl (ltb t s) refl
  where
    go : (k : ℕ) → full ≡ k → (a : Bool) → ltb s t ≡ a → (b : Bool) → ltb t s ≡ b → s ≡ t
    go zero e _ _ _ _ = p.idle e ∙ sym (q.idle e)
    go (suc k) e true l _ _ = absurd (apart (omega arith) (ltb-true s t l) p q)
    go (suc k) e false _ true l = absurd (apart (omega arith) (ltb-true t s l) q p)
    go (suc k) e false l false m = omega (arith, ltb-false s t l, ltb-false t s m)

-- What is left of 100 × breaking over full tells: below a half, above it, exactly a half.
module _ (full breaking : ℕ) (pos : 0 < full) where
  abbrev whole : ℕ
  whole = 100 * breaking / full

  abbrev rest : ℕ
  rest = 100 * breaking % full

  parts : whole * full + rest ≡ 100 * breaking
  parts = div-add-mod' (100 * breaking) full

  below : rest < full
  below = mod-lt (100 * breaking) pos

  pub share-down : 2 * rest < full → IsShare full breaking whole
  share-down h = record {
    idle = λ e. omega (arith, pos);
    nearest = λ _. omega (arith, parts);
    even = λ _ e. omega (arith, parts);
  }

  pub share_up : full < 2 * rest → IsShare full breaking (whole + 1)
  share_up h = record {
    idle = λ e. omega (arith, pos);
    nearest = λ _. omega (arith, parts, below);
    even = λ _ e. omega (arith, parts, below);
  }

  pub share-even : 2 * rest ≡ full → IsShare full breaking (whole + whole % 2)
  share-even h = go (whole % 2) refl
    where
      go : (k : ℕ) → whole % 2 ≡ k → IsShare full breaking (whole + k)
      go zero e = record { idle = λ z. omega (arith, pos); nearest = λ _. omega (arith, parts); even = λ _ q. omega arith }
      go (suc k) e =
          let one : k ≡ 0 = omega arith in
          record { idle = λ z. omega (arith, pos); nearest = λ _. rw one (omega (arith, parts)); even = λ _ q. omega arith }

  -- So there is one,
  rounded : (s : ℕ) × IsShare full breaking s
  rounded = go (ltb (2 * rest) full) refl (ltb full (2 * rest)) refl
    where
      go : (a : Bool) → ltb (2 * rest) full ≡ a → (b : Bool) → ltb full (2 * rest) ≡ b → (s : ℕ) × IsShare full breaking s
      go true l _ _ = (whole, share-down (ltb-true (2 * rest) full l))
      go false _ true l = (whole + 1, share_up (ltb-true full (2 * rest) l))
      go false l false m = (whole + whole % 2, share-even (omega (arith, ltb-false (2 * rest) full l, ltb-false full (2 * rest) m)))

  -- at most 100,
  most : (s : ℕ) → breaking ≤ full → IsShare full breaking s → s ≤ 100
  most s l p = go (ltb 100 s) refl
    where
      go : (a : Bool) → ltb 100 s ≡ a → s ≤ 100
      go true h = let up = step full 100 s (ltb-true 100 s h) in omega (arith, p.nearest pos)
      go false h = ltb-false 100 s h

  -- which passes the test, as no other does,
  share-nearest : (s : ℕ) → IsShare full breaking s → is_nearest full breaking s ≡ true
  unfolding is_nearest
  share-nearest s p = go (ltb d full) refl
    where
      d : ℕ
      d = twice_apart full breaking s

      go : (a : Bool) → ltb d full ≡ a → (a || (eqb d full && eqb (s % 2) 0)) ≡ true
      go true l = refl
      go false l =
          let half : d ≡ full = omega (arith, p.nearest pos, ltb-false d full l) in
          rw (eq-eqb d full half, eq-eqb (s % 2) 0 (p.even pos half))

  nearest-share : (s : ℕ) → is_nearest full breaking s ≡ true → IsShare full breaking s
  unfolding is_nearest
  nearest-share s = go (ltb d full) refl
    where
      d : ℕ
      d = twice_apart full breaking s

      go : (a : Bool) → ltb d full ≡ a → (a || (eqb d full && eqb (s % 2) 0)) ≡ true → IsShare full breaking s
      go true l _ =
          let less = ltb-true d full l in
          record { idle = λ e. omega (arith, pos); nearest = λ _. omega arith; even = λ _ e. omega arith }
      go false l h =
          let (half, two) = and-true (eqb d full) (eqb (s % 2) 0) h in
          let is : d ≡ full = eqb-true d full half in
          record { idle = λ e. omega (arith, pos); nearest = λ _. omega arith; even = λ _ _. eqb-true (s % 2) 0 two }

  -- and which the search finds.
  found : (k s : ℕ) → s ≤ k → IsShare full breaking s → s ≡ nearest_to k full breaking
  unfolding nearest_to
  found zero s l p = omega arith
  found (suc k) s l p = go (is_nearest full breaking (suc k)) refl (λ m. found k s m p)
    where
      less : is_nearest full breaking (suc k) ≡ false → (b : Bool) → eqb s (suc k) ≡ b → s ≤ k
      less h true e = absurd (true≢false (sym (share-nearest (suc k) (rw (eqb-true s (suc k) e) at p)) ∙ h))
      less h false e = omega (arith, eqb-false s (suc k) e)

      go : (a : Bool) → is_nearest full breaking (suc k) ≡ a → (s ≤ k → s ≡ nearest_to k full breaking)
          → s ≡ cond a (suc k) (nearest_to k full breaking)
      go true h before = one-share p (nearest-share (suc k) h)
      go false h before = before (less h (eqb s (suc k)) refl)

-- THE SHARE that verdicts carry is it.
pub is_share : (full breaking : ℕ) → breaking ≤ full → IsShare full breaking (share_of full breaking)
unfolding share_of
is_share full breaking l = go full refl
  where
    go : (k : ℕ) → full ≡ k → IsShare full breaking (share_of full breaking)
    go zero e = record { idle = λ _. rw e; nearest = λ h. omega arith; even = λ h _. omega arith }
    go (suc k) e =
        let pos : 0 < full = omega arith in
        let (s, p) = rounded full breaking pos in
        rw (ne_eqb full 0 (λ z. omega arith), ← found full breaking pos 100 s (most full breaking pos s l p) p) p

-- ONLY TIES MOVED: where no half is exact, it is the share of document 01, the whole part of 100 × breaking / full + 1 / 2.
pub no_tie : {full breaking s : ℕ} → 0 < full → IsShare full breaking s → (twice_apart full breaking s ≡ full → ⊥) → s ≡ (200 * breaking + full) / (2 * full)
no_tie {full} {breaking} {s} pos p h =
    let less : twice_apart full breaking s < full = omega (arith, p.nearest pos, h) in
    let lo : s * (2 * full) ≤ 200 * breaking + full = omega arith in
    let hi : 200 * breaking + full < (s + 1) * (2 * full) = omega arith in
    sym (div-eq_of_lt-le (2 * full) lo hi)

-- "1 of 8 prints 12; 3 of 8 prints 38; 1 of 2 stays 50."
pub examples : (share_of 8 1 ≡ 12) × (share_of 8 3 ≡ 38) × (share_of 2 1 ≡ 50)
unfolding is_nearest nearest_to share_of
examples = (refl, refl, refl)
