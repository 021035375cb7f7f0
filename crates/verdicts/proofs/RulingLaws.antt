-- From the walk along an order to the verdict of the definition.
-- Assumes nothing.
use mathlib.Core.Path.{◌≡◌, refl, sym, ap, ◌∙◌}
use mathlib.Core.Bool.{Bool, true, false}
use mathlib.Core.List.{List, []}
use Prim.Native.Nat.{ℕ, ◌≤◌, ◌^◌}
use native.Mathlib.Omega.{arith}
use lib.ListN.{length}
use Rattle.answers.specs.declared.Refusal.TheVariants.{NotAnOrder}
use Rattle.tables.specs.Tables.{Tables}
use Rattle.syntax.specs.Rule.{Rule, rule_vars}
use Rattle.walks.specs.Choices.{nothing_chosen}
use Rattle.walks.specs.Order.{variables_of, is_order, named_by}
use Rattle.walks.specs.Meaning.{Admissible}
use Rattle.walks.specs.declared.Tally.{Tally}
use Rattle.walks.specs.Code.Tally.{Walked}
use Rattle.walks.proofs.OrderLaws.{order-admissible, order-length, length-variables-of}
use Rattle.values.specs.Sets.{in_set, names, breaks}
use Rattle.values.specs.Code.Nodes.{Named}
use Rattle.judging.proofs.WalkingLaws.{named-order, as_many}
use Rattle.verdicts.specs.declared.Verdict.{Verdict}
use Rattle.verdicts.specs.Verdict.{full_count, breaking_count, first_breaking, verdict_along, refused_by, order_verdict}
use Rattle.judging.specs.Code.Lent.{InSorts, Case}
use Rattle.verdicts.specs.Code.Judging.{ruled_by}
use Rattle.verdicts.proofs.VerdictLaws.{walk-full, walk-breaking, breaking-le-full, full-fits}

module _ (T : Tables) (ρ : Rule) where
  not-ordered : (order : List ℕ) → is_order (names (rule_vars [] ρ)) (length (rule_vars [] ρ)) (variables_of order) ≡ false → refused_by NotAnOrder ≡ order_verdict T ρ order
  unfolding order_verdict
  not-ordered order e = rw e

  -- A list of another length is no order;
  pub wrong-length : (order : List ℕ) → (length order ≡ length (rule_vars [] ρ) → ⊥) → refused_by NotAnOrder ≡ order_verdict T ρ order
  wrong-length order ne = not-ordered order (go (is_order (names (rule_vars [] ρ)) (length (rule_vars [] ρ)) (variables_of order)) refl)
    where
      go : (b : Bool) → is_order (names (rule_vars [] ρ)) (length (rule_vars [] ρ)) (variables_of order) ≡ b → b ≡ false
      go true e = absurd (ne (sym (length-variables-of order) ∙ order-length (names (rule_vars [] ρ)) (length (rule_vars [] ρ)) (variables_of order) e))
      go false e = refl

  -- nor is one that the test refuses.
  pub wrong-order : (order : List ℕ) {f : Bool} → f ≡ is_order (names (rule_vars [] ρ)) (length (rule_vars [] ρ)) (variables_of order) → f ≡ false
      → refused_by NotAnOrder ≡ order_verdict T ρ order
  wrong-order order e h = not-ordered order (sym e ∙ h)

  -- Along an order the walk's tally has the verdict's numbers.
  module _ (few : length (rule_vars [] ρ) ≤ 8) (sorts : InSorts T ρ) (order : List ℕ) (tally : Tally)
      (ok : is_order (names (rule_vars [] ρ)) (length (rule_vars [] ρ)) order ≡ true)
      (w : Walked (in_set T (rule_vars [] ρ)) (breaks T (rule_vars [] ρ) ρ) order nothing_chosen tally) where
    admissible : Admissible (names (rule_vars [] ρ)) (length (rule_vars [] ρ)) order
    admissible = (order-admissible (names (rule_vars [] ρ)) (length (rule_vars [] ρ)) order).0 ok

    tally-full : tally.full ≡ full_count T ρ
    tally-full = w.fulls ∙ walk-full T ρ few sorts order admissible

    tally-breaking : tally.breaking ≡ breaking_count T ρ
    tally-breaking = w.breakings ∙ walk-breaking T ρ few sorts order admissible

    pub tally-fits : (tally.breaking ≤ tally.full) × (tally.full ≤ 64 ^ 8)
    tally-fits = (
      omega (arith, tally-full, tally-breaking, breaking-le-full T ρ few sorts),
      omega (arith, tally-full, full-fits T ρ few sorts),
    )

    pub tally-verdict : ruled_by tally ≡ verdict_along T ρ order
    unfolding verdict_along first_breaking
    tally-verdict = rw (tally-full, tally-breaking, w.firsts)

  pub right-order : (order : List ℕ) (v : Verdict) {f : Bool} → f ≡ is_order (names (rule_vars [] ρ)) (length (rule_vars [] ρ)) (variables_of order) → f ≡ true
      → v ≡ verdict_along T ρ (variables_of order) → v ≡ order_verdict T ρ order
  unfolding order_verdict
  right-order order v e h q = rw (← e, h) q

-- What the code's test of the order says, where the slices hold the case.
module _ {ts ns : List ℕ} {n : ℕ} {ks vs : List ℕ} {root : ℕ} {T : Tables} {ρ : Rule} (C : Case ts ns n ks vs root T ρ) (few : length vs ≤ 8) where
  pub few-variables : length (rule_vars [] ρ) ≤ 8
  few-variables = omega (arith, as_many C few)

  pub other_length : (order : List ℕ) → (length order ≡ length vs → ⊥) → refused_by NotAnOrder ≡ order_verdict T ρ order
  other_length order ne = wrong-length T ρ order (λ e. ne (e ∙ sym (as_many C few)))

  module _ (words order listed : List ℕ) (f : Bool) (named : Named (length vs) words (rule_vars [] ρ)) (same : listed ≡ variables_of order)
      (test : f ≡ is_order (named_by words) (length vs) listed) where
    told : f ≡ is_order (names (rule_vars [] ρ)) (length (rule_vars [] ρ)) listed
    told = test ∙ named-order (length vs) words listed (rule_vars [] ρ) few named ∙ ap (λ (k : ℕ). is_order (names (rule_vars [] ρ)) k listed) (as_many C few)

    pub no-order : f ≡ false → refused_by NotAnOrder ≡ order_verdict T ρ order
    no-order h = wrong-order T ρ order (told ∙ ap (is_order (names (rule_vars [] ρ)) (length (rule_vars [] ρ))) same) h

    module _ (h : f ≡ true) (tally : Tally) (w : Walked (in_set T (rule_vars [] ρ)) (breaks T (rule_vars [] ρ) ρ) listed nothing_chosen tally) where
      pub counts-fit : (tally.breaking ≤ tally.full) × (tally.full ≤ 64 ^ 8)
      counts-fit = tally-fits T ρ few-variables C.sorts listed tally (sym told ∙ h) w

      pub order-ruled : ruled_by tally ≡ order_verdict T ρ order
      order-ruled =
          right-order T ρ order (ruled_by tally) (told ∙ ap (is_order (names (rule_vars [] ρ)) (length (rule_vars [] ρ))) same) h
          (tally-verdict T ρ few-variables C.sorts listed tally (sym told ∙ h) w ∙ ap (verdict_along T ρ) same)
