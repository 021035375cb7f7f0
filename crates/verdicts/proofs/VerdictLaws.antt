-- What a verdict's numbers mean: the walk's counts are the order-free counts along every order; the first breaking choice is the
-- least one; breaking is at most full, and both fit their words. Assumes nothing.
use mathlib.Core.Path.{◌≡◌, ap, subst, ◌∙◌}
use mathlib.Core.Bool.{true}
use mathlib.Core.List.{List, []}
use mathlib.Core.Option.{some}
use Prim.Native.Nat.{ℕ, ◌≤◌, ◌^◌}
use native.Mathlib.Omega.{arith}
use native.Mathlib.Nat.{le_trans, pow-le-pow_right}
use lib.Dec.{ltb, lit<, lit≤}
use lib.ListN.{length}
use Rattle.tables.specs.Tables.{Tables}
use Rattle.syntax.specs.Rule.{Rule, rule_vars}
use Rattle.walks.specs.Choices.{nothing_chosen, count_full, each, if_breaks}
use Rattle.walks.specs.Walk.{walk}
use Rattle.walks.specs.Order.{variables_of, is_order, up_from}
use Rattle.walks.specs.Meaning.{there, Admissible, FirstBreaking}
use Rattle.walks.proofs.SumLaws.{gate-le}
use Rattle.walks.proofs.PruneLaws.{walk-bound, walk-le}
use Rattle.walks.proofs.AmongLaws.{walk-counts}
use Rattle.walks.proofs.OnceLaws.{once-length}
use Rattle.walks.proofs.FirstLaws.{first-there, first-breaking}
use Rattle.walks.proofs.OrderLaws.{order-admissible}
use Rattle.walks.proofs.TurnLaws.{in-turn, turn-variables}
use Rattle.values.specs.Sets.{items_of, in_set, names, breaks}
use Rattle.values.proofs.ReadsLaws.{sets-read}
use Rattle.values.proofs.EarlierLaws.{rule-earlier}
use Rattle.verdicts.specs.Verdict.{full_count, breaking_count, first_breaking}
use Rattle.judging.specs.Code.Lent.{InSorts}

-- "1, 2, .." is always an order of a rule's variables.
pub turn-order : (ρ : Rule) → is_order (names (rule_vars [] ρ)) (length (rule_vars [] ρ)) (variables_of (up_from 1 (length (rule_vars [] ρ)))) ≡ true
turn-order ρ =
    ap (is_order (names (rule_vars [] ρ)) (length (rule_vars [] ρ))) (turn-variables (length (rule_vars [] ρ)) 0)
    ∙ in-turn (names (rule_vars [] ρ)) (length (rule_vars [] ρ)) (rule-earlier ρ)

module _ (T : Tables) (ρ : Rule) (few : length (rule_vars [] ρ) ≤ 8) (sorts : InSorts T ρ) where
  -- An order of the rule's variables.
  abbrev Order : List ℕ → Type 0
  Order order = Admissible (names (rule_vars [] ρ)) (length (rule_vars [] ρ)) order

  counts : (g : List ℕ → ℕ) (order : List ℕ) → Order order → walk 64 (in_set T (rule_vars [] ρ)) g order nothing_chosen
      ≡ count_full (items_of T (rule_vars [] ρ)) (in_set T (rule_vars [] ρ)) g (length (rule_vars [] ρ)) nothing_chosen
  counts g order ok =
      walk-counts (items_of T (rule_vars [] ρ)) (in_set T (rule_vars [] ρ)) (length (rule_vars [] ρ)) sorts g nothing_chosen few (names (rule_vars [] ρ))
      (sets-read T (rule_vars [] ρ)) order ok

  -- THE THEOREM: along every order the walk counts the full choices, and the breaking ones, which know no order.
  pub walk-full : (order : List ℕ) → Order order → walk 64 (in_set T (rule_vars [] ρ)) each order nothing_chosen ≡ full_count T ρ
  unfolding full_count
  walk-full order ok = counts each order ok

  pub walk-breaking : (order : List ℕ) → Order order
      → walk 64 (in_set T (rule_vars [] ρ)) (if_breaks (breaks T (rule_vars [] ρ) ρ)) order nothing_chosen ≡ breaking_count T ρ
  unfolding breaking_count
  walk-breaking order ok = counts (if_breaks (breaks T (rule_vars [] ρ) ρ)) order ok

  -- A first breaking choice is there exactly where breaking is above 0;
  pub first_above : (order : List ℕ) → Order order → there (first_breaking T ρ order) ≡ ltb 0 (breaking_count T ρ)
  unfolding first_breaking breaking_count
  first_above order ok =
      first-there (items_of T (rule_vars [] ρ)) (length (rule_vars [] ρ)) (in_set T (rule_vars [] ρ)) sorts (names (rule_vars [] ρ)) (sets-read T (rule_vars [] ρ))
      (breaks T (rule_vars [] ρ) ρ) order nothing_chosen ok few

  -- it is a choice of items of the sorts, full and breaking, and no such choice comes earlier in the walk's order.
  pub first-least : (order d : List ℕ) → Order order → first_breaking T ρ order ≡ some d
      → FirstBreaking (items_of T (rule_vars [] ρ)) (length (rule_vars [] ρ)) (in_set T (rule_vars [] ρ)) (breaks T (rule_vars [] ρ) ρ) order nothing_chosen d
  unfolding first_breaking
  first-least order d ok e =
      first-breaking (items_of T (rule_vars [] ρ)) (length (rule_vars [] ρ)) (in_set T (rule_vars [] ρ)) sorts (names (rule_vars [] ρ)) (sets-read T (rule_vars [] ρ))
      (breaks T (rule_vars [] ρ) ρ) order nothing_chosen ok few d e

  turn : List ℕ
  turn = variables_of (up_from 1 (length (rule_vars [] ρ)))

  in_order : Order turn
  unfolding turn
  in_order = (order-admissible (names (rule_vars [] ρ)) (length (rule_vars [] ρ)) turn).0 (turn-order ρ)

  -- Breaking choices are among the full ones;
  pub breaking-le-full : breaking_count T ρ ≤ full_count T ρ
  breaking-le-full =
      let le = walk-le 64 (in_set T (rule_vars [] ρ)) (if_breaks (breaks T (rule_vars [] ρ) ρ)) each (λ c. gate-le (breaks T (rule_vars [] ρ) ρ c) 1) turn nothing_chosen in
      omega (arith, le, walk-full turn in_order, walk-breaking turn in_order)

  -- and there are at most 64 ^ 8 of them, so that both counts fit a word and 200 times each does too.
  pub full-fits : full_count T ρ ≤ 64 ^ 8
  full-fits =
      let bound = walk-bound 64 (in_set T (rule_vars [] ρ)) each (λ c. lit≤ tt) turn nothing_chosen in
      let long : length turn ≤ 8 = omega (arith, once-length (length (rule_vars [] ρ)) turn in_order.once) in
      subst (λ (k : ℕ). k ≤ 64 ^ 8) (walk-full turn in_order) (le_trans bound (pow-le-pow_right (lit< tt) long))
