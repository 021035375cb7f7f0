-- Finite sums and what `total` does with them: the exchange of two sums, and a condition that the summed variables do not change.
-- Assumes nothing.
use mathlib.Core.Path.{◌≡◌, refl, sym, ap, fun_ext}
use mathlib.Core.Bool.{Bool, true, false, ◌&&◌}
use Prim.Native.Nat.{ℕ, zero, suc, ◌+◌, ◌≤◌, ◌*◌}
use native.Mathlib.Nat.{suc-mul}
use native.Mathlib.Omega.{arith}
use Rattle.words.specs.Words.{gate}
use Rattle.walks.specs.Choices.{sum_to}

pub sum-ext : (m : ℕ) (f g : ℕ → ℕ) → ((x : ℕ) → f x ≡ g x) → sum_to m f ≡ sum_to m g
sum-ext m f g h = ap (sum_to m) (fun_ext h)

pub sum-none : (m : ℕ) → sum_to m (λ x. 0) ≡ 0
unfolding sum_to
sum-none zero = refl
sum-none (suc m) = omega (arith, sum-none m)

pub sum-add : (m : ℕ) (f g : ℕ → ℕ) → sum_to m (λ x. f x + g x) ≡ sum_to m f + sum_to m g
unfolding sum_to
sum-add zero f g = refl
sum-add (suc m) f g = omega (arith, sum-add m f g)

pub sum-swap : (m k : ℕ) (f : ℕ → ℕ → ℕ) → sum_to m (λ x. sum_to k (f x)) ≡ sum_to k (λ y. sum_to m (λ x. f x y))
unfolding sum_to
sum-swap zero k f = sym (sum-none k)
sum-swap (suc m) k f = omega (arith, sum-swap m k f, sum-add k (λ y. sum_to m (λ x. f x y)) (f m))

pub sum-gate : (m : ℕ) (b : Bool) (f : ℕ → ℕ) → sum_to m (λ x. gate b (f x)) ≡ gate b (sum_to m f)
sum-gate m true f = refl
sum-gate m false f = sum-none m

pub gate-and : (a b : Bool) (n : ℕ) → gate (a && b) n ≡ gate a (gate b n)
gate-and true b n = refl
gate-and false b n = refl

pub gate-le : (b : Bool) (n : ℕ) → gate b n ≤ n
gate-le true n = omega arith
gate-le false n = omega arith

pub sum-le : (m : ℕ) (f : ℕ → ℕ) (k : ℕ) → ((x : ℕ) → f x ≤ k) → sum_to m f ≤ m * k
unfolding sum_to
sum-le zero f k h = omega arith
sum-le (suc m) f k h = omega (arith, sum-le m f k h, h m, suc-mul m k)

pub gate-both : (b : Bool) {n k : ℕ} → n ≤ k → gate b n ≤ gate b k
gate-both true h = h
gate-both false h = omega arith

pub sum_both : (m : ℕ) (f g : ℕ → ℕ) → ((x : ℕ) → f x ≤ g x) → sum_to m f ≤ sum_to m g
unfolding sum_to
sum_both zero f g h = omega arith
sum_both (suc m) f g h = omega (arith, sum_both m f g h, h m)
