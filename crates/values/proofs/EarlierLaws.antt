-- The set of a rule's variable names only earlier variables of the rule.
-- Assumes nothing.
use mathlib.Core.Path.{◌≡◌, ap, sym, ◌∙◌}
use mathlib.Core.Bool.{true, true≢false}
use mathlib.Core.List.{[], ◌∷◌, ◌++◌, append_assoc}
use mathlib.Core.Option.{some}
use Prim.Native.Nat.{ℕ, zero, suc, ◌+◌, ◌<◌}
use native.Mathlib.Omega.{arith}
use lib.Dec.{eqb}
use lib.ListN.{length, get_or, length-append}
use borrow.Author.Tests.{eqb-true}
use Rattle.syntax.specs.Term.{digit, Term, base, call, oe, ao, two, Choices}
use Rattle.syntax.specs.Rule.{Rule, rule_vars}
use Rattle.syntax.proofs.Closed.{Known, Ordered, rule-ordered}
use Rattle.values.specs.Values.{variable_of}
use Rattle.values.specs.Sets.{names_in, names}
use Rattle.values.proofs.ReadsLaws.{or_case}
use Rattle.values.proofs.VariableLaws.{variable-digit, variable-more}

-- A term whose choices are all among σ names only variables of σ.
module _ (σ ys : Choices) (u : ℕ) where
  its_own : (a : Term) (e : ℕ) → digit σ a ≡ some e → eqb (variable_of (σ ++ ys) a) u ≡ true → u < length σ
  its_own a e q h =
      let l = variable-digit 49 σ a e q in
      omega (arith, variable-more σ ys a l, eqb-true (variable_of (σ ++ ys) a) u h)

  named-below : (t : Term) → Known σ t → names_in (σ ++ ys) t u ≡ true → u < length σ
  unfolding names_in
  named-below (base b) k h = absurd (true≢false (sym h))
  named-below (call f a) k h = named-below a k h
  named-below (oe a) k h = its_own a k.0.0 k.0.1 h
  named-below (ao a) k h =
      or_case (eqb (variable_of (σ ++ ys) a) u) (names_in (σ ++ ys) a u) h (λ e. its_own a k.0.0 k.0.1 e) (λ e. named-below a k.1 e)
  named-below (two o a b) k h =
      or_case (names_in (σ ++ ys) a u) (names_in (σ ++ ys) b u) h (λ e. named-below a k.0 e) (λ e. named-below b k.1 e)

named-earlier : (σ xs : Choices) → Ordered σ xs → (i : ℕ) → i < length xs → (d : Term) (u : ℕ)
    → names_in (σ ++ xs) (get_or xs i d) u ≡ true → u < length σ + i
named-earlier σ [] o i l d u h = absurd (omega arith)
named-earlier σ (x ∷ xs) o zero l d u h = omega (arith, named-below σ (x ∷ xs) u x o.0 h)
named-earlier σ (x ∷ xs) o (suc i) l d u h =
    let same : (σ ++ (x ∷ [])) ++ xs ≡ σ ++ (x ∷ xs) = append_assoc σ (x ∷ []) xs in
    let ih = named-earlier (σ ++ (x ∷ [])) xs o.1 i (omega arith) d u (ap (λ (τ : Choices). names_in τ (get_or xs i d) u) same ∙ h) in
    omega (arith, length-append σ (x ∷ []), ih)

-- The set of v names only variables before v.
pub rule-earlier : (ρ : Rule) (v u : ℕ) → v < length (rule_vars [] ρ) → names (rule_vars [] ρ) v u ≡ true → u < v
rule-earlier ρ v u l h = omega (arith, named-earlier [] (rule_vars [] ρ) (rule-ordered [] ρ tt) v l _ u h)
