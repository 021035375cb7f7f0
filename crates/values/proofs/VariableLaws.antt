-- The variable of an argument is the argument's place among the arguments.
-- Assumes nothing.
use mathlib.Core.Path.{◌≡◌, refl, ap}
use mathlib.Core.List.{[], ◌∷◌, ◌++◌}
use mathlib.Core.Option.{Option, some}
use Prim.Native.Nat.{ℕ, zero, suc, ◌<◌, ◌≤◌}
use native.Mathlib.Omega.{arith}
use lib.ListN.{length, get_or}
use Rattle.syntax.specs.Term.{Term, Term≟, Choices, digit_from}
use Rattle.values.specs.Values.{variable_of}

-- An argument that has a digit in formulas has its variable among those of σ.
pub variable-digit : (d : ℕ) (σ : Choices) (a : Term) (e : ℕ) → digit_from d σ a ≡ some e → variable_of σ a < length σ
unfolding digit_from variable_of
variable-digit d [] a e q = let z : ◌≡◌ {A = ℕ} 0 1 = cc in absurd (omega arith)
variable-digit d (x ∷ σ) a e q = go (λ h. variable-digit (suc d) σ a e h) (Term≟ x a) q
  where
    go : (digit_from (suc d) σ a ≡ some e → variable_of σ a < length σ) → (p : Dec (x ≡ a))
        → ◌≡◌ {A = Option ℕ} (elim p [ yes y ↦ some d | no n ↦ digit_from (suc d) σ a ]) (some e)
        → ◌<◌ (elim p [ yes y ↦ 0 | no n ↦ suc (variable_of σ a) ]) (suc (length σ))
    go ih (yes p) q = omega arith
    go ih (no n) q = omega (arith, ih q)

-- The argument stands at its variable.
pub variable-at : (σ : Choices) (a b : Term) → variable_of σ a < length σ → get_or σ (variable_of σ a) b ≡ a
unfolding variable_of
variable-at [] a b h = absurd (omega arith)
variable-at (x ∷ σ) a b h = go (λ l. variable-at σ a b l) (Term≟ x a) h
  where
    go : (variable_of σ a < length σ → get_or σ (variable_of σ a) b ≡ a) → (p : Dec (x ≡ a))
        → ◌<◌ (elim p [ yes y ↦ 0 | no n ↦ suc (variable_of σ a) ]) (suc (length σ))
        → get_or (x ∷ σ) (elim p [ yes y ↦ 0 | no n ↦ suc (variable_of σ a) ]) b ≡ a
    go ih (yes p) q = p
    go ih (no n) q = ih (omega arith)

-- It is the first place with that argument.
pub variable-first : (σ : Choices) (a b : Term) (i : ℕ) → i < length σ → get_or σ i b ≡ a → variable_of σ a ≤ i
unfolding variable_of
variable-first [] a b i h e = absurd (omega arith)
variable-first (x ∷ σ) a b zero h e = go (Term≟ x a)
  where
    go : (p : Dec (x ≡ a)) → ◌≤◌ (elim p [ yes y ↦ 0 | no n ↦ suc (variable_of σ a) ]) 0
    go (yes p) = omega arith
    go (no n) = absurd (n e)
variable-first (x ∷ σ) a b (suc i) h e = go (variable-first σ a b i (omega arith) e) (Term≟ x a)
  where
    go : variable_of σ a ≤ i → (p : Dec (x ≡ a)) → ◌≤◌ (elim p [ yes y ↦ 0 | no n ↦ suc (variable_of σ a) ]) (suc i)
    go ih (yes p) = omega arith
    go ih (no n) = omega arith

-- More arguments behind do not move it.
pub variable-more : (σ ys : Choices) (a : Term) → variable_of σ a < length σ → variable_of (σ ++ ys) a ≡ variable_of σ a
unfolding variable_of
variable-more [] ys a h = absurd (omega arith)
variable-more (x ∷ σ) ys a h = go (λ l. variable-more σ ys a l) (Term≟ x a) h
  where
    go : (variable_of σ a < length σ → variable_of (σ ++ ys) a ≡ variable_of σ a) → (p : Dec (x ≡ a))
        → ◌<◌ (elim p [ yes y ↦ 0 | no n ↦ suc (variable_of σ a) ]) (suc (length σ))
        → ◌≡◌ {A = ℕ} (elim p [ yes y ↦ 0 | no n ↦ suc (variable_of (σ ++ ys) a) ]) (elim p [ yes y ↦ 0 | no n ↦ suc (variable_of σ a) ])
    go ih (yes p) q = refl
    go ih (no n) q = ap suc (ih (omega arith))
