-- There are at most as many full choices as the product of how many items the variables have.
-- Assumes nothing.
use mathlib.Core.Bool.{Bool, true, false}
use mathlib.Core.List.{List}
use Prim.Native.Nat.{ℕ, zero, suc, ◌+◌, ◌*◌, ◌^◌, ◌≤◌}
use native.Mathlib.Nat.{le_trans, mul_comm, add-mul, mul-le-mul, pow-succ'}
use native.Mathlib.Omega.{arith}
use lib.ListN.{set}
use Rattle.words.specs.Words.{gate, has, count_to, size_of}
use Rattle.walks.specs.Choices.{Items, Sets, sum_to, product_to, sum_over, total, variables, full_on, count_full}
use Rattle.walks.proofs.SumLaws.{gate-le}

sum-gated : (m : ℕ) (b : ℕ → Bool) (f : ℕ → ℕ) (k : ℕ) → ((x : ℕ) → f x ≤ k) → sum_to m (λ x. gate (b x) (f x)) ≤ count_to m b * k
unfolding sum_to count_to
sum-gated zero b f k h = omega arith
sum-gated (suc m) b f k h = go (b m) (sum-gated m b f k h)
  where
    go : (t : Bool) → sum_to m (λ x. gate (b x) (f x)) ≤ count_to m b * k → sum_to m (λ x. gate (b x) (f x)) + gate t (f m) ≤ (count_to m b + gate t 1) * k
    go true l = rw (add-mul (count_to m b) 1 k) (omega (arith, h m))
    go false l = rw (add-mul (count_to m b) 0 k) (omega arith)

module _ (items : Items) (g : List ℕ → ℕ) (one : (c : List ℕ) → g c ≤ 1) where
  total-ceiling : (n : ℕ) (c : List ℕ) → total items (variables n) g c ≤ product_to n (λ v. size_of (items v))
  unfolding total variables product_to sum_over size_of
  total-ceiling zero c = one c
  total-ceiling (suc n) c =
      rw (mul_comm (product_to n (λ v. size_of (items v))) (size_of (items n)))
      (sum-gated 64 (has (items n)) (λ x. total items (variables n) g (set c n x)) (product_to n (λ v. size_of (items v))) (λ x. total-ceiling n (set c n x)))

pub full-ceiling : (items : Items) (s : Sets) (g : List ℕ → ℕ) → ((c : List ℕ) → g c ≤ 1) → (n : ℕ) (base : List ℕ) → count_full items s g n base ≤ product_to n (λ v. size_of (items v))
unfolding count_full
full-ceiling items s g one n base =
    total-ceiling items (λ c. gate (full_on s (variables n) c) (g c)) (λ c. le_trans (gate-le (full_on s (variables n) c) (g c)) (one c)) n base

-- None has more than 64.
pub ceiling-within : (f : ℕ → ℕ) → ((v : ℕ) → f v ≤ 64) → (n : ℕ) → product_to n f ≤ 64 ^ n
unfolding product_to
ceiling-within f h zero = omega arith
ceiling-within f h (suc n) = rw (pow-succ' 64 n, mul_comm 64 (64 ^ n)) (mul-le-mul (ceiling-within f h n) (h n))
