-- 1, 2, .. is an order wherever each set names only earlier variables.
-- Assumes nothing.
use mathlib.Core.Path.{◌≡◌, refl, ap}
use mathlib.Core.Bool.{Bool, true, false}
use mathlib.Core.List.{List, ◌∷◌}
use Prim.Native.Nat.{ℕ, zero, suc, ◌+◌, ◌<◌, ◌≤◌}
use native.Mathlib.Decide.{ℕ_discrete}
use native.Mathlib.Omega.{arith}
use Rattle.walks.specs.Order.{variables_of, count, is_order, up_from}
use Rattle.walks.specs.Meaning.{Every, Once, After}
use Rattle.walks.proofs.OnceLaws.{hit_same, hit_other}
use Rattle.walks.proofs.OrderLaws.{order-exact}

-- u stands once among k, k + 1, .. if it is one of them
count-up : (n k u : ℕ) → (k ≤ u → u < k + n → count u (up_from k n) ≡ 1) × (u < k → count u (up_from k n) ≡ 0) × (k + n ≤ u → count u (up_from k n) ≡ 0)
unfolding count up_from
count-up zero k u = (λ h l. absurd (omega arith), λ h. refl, λ h. refl)
count-up (suc n) k u =
    let ih = count-up n (suc k) u in (
      go (ℕ_discrete u k) ih,
      λ h. omega (arith, hit_other u k (omega arith), ih.1 (omega arith)),
      λ h. omega (arith, hit_other u k (omega arith), ih.2 (omega arith)),
    )
  where
    go : Dec (u ≡ k) → (suc k ≤ u → u < suc k + n → count u (up_from (suc k) n) ≡ 1) × (u < suc k → count u (up_from (suc k) n) ≡ 0) × (suc k + n ≤ u → count u (up_from (suc k) n) ≡ 0)
        → k ≤ u → u < k + suc n → count u (up_from k (suc n)) ≡ 1
    go (yes e) ih h l = omega (arith, hit_same u k e, ih.1 (omega arith))
    go (no ne) ih h l = omega (arith, hit_other u k ne, ih.0 (omega arith) (omega arith))

up-once : (n : ℕ) → Once n (up_from 0 n)
up-once n u = (λ h. (count-up n 0 u).0 (omega arith) (omega arith), λ h. (count-up n 0 u).2 (omega arith))

module _ (names : ℕ → ℕ → Bool) (m : ℕ) (earlier : (v u : ℕ) → v < m → names v u ≡ true → u < v) where
  not_named : (v u : ℕ) → v < m → v ≤ u → names v u ≡ false
  not_named v u l h = go (names v u) refl
    where
      go : (b : Bool) → names v u ≡ b → b ≡ false
      go true e = absurd (omega (arith, earlier v u l e))
      go false e = refl

  free_up : (n k v : ℕ) → v < m → v ≤ k → Every (λ w. names v w ≡ false) (up_from k n)
  unfolding up_from
  free_up zero k v l h = tt
  free_up (suc n) k v l h = (not_named v k l h, free_up n (suc k) v l (omega arith))

  after-up : (n k : ℕ) → k + n ≤ m → After names (up_from k n)
  unfolding up_from
  after-up zero k h = tt
  after-up (suc n) k h = ((not_named k k (omega arith) (omega arith), free_up n (suc k) k (omega arith) (omega arith)), after-up n (suc k) (omega arith))

  pub in-turn : is_order names m (up_from 0 m) ≡ true
  in-turn = order-exact names m (up_from 0 m) (up-once m) (after-up m 0 (omega arith))

-- the bytes of that order
pub turn-variables : (n k : ℕ) → variables_of (up_from (suc k) n) ≡ up_from k n
unfolding up_from variables_of
turn-variables zero k = refl
turn-variables (suc n) k = ap (λ (l : List ℕ). k ∷ l) (turn-variables n (suc k))
