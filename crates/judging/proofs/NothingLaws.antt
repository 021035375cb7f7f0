-- Where the ceiling is 0, nothing is full and nothing breaks: a variable has no item.
-- Assumes nothing.
use mathlib.Core.Path.{◌≡◌, sym, ◌∙◌}
use mathlib.Core.List.{List, []}
use Prim.Native.Nat.{ℕ, ◌≤◌}
use native.Mathlib.Omega.{arith}
use lib.Dec.{lit≤}
use lib.ListN.{length}
use Rattle.tables.specs.Tables.{Tables}
use Rattle.syntax.specs.Rule.{Rule, rule_vars}
use Rattle.rules.specs.declared.Parsed.{Parsed}
use Rattle.walks.specs.Choices.{each, if_breaks, nothing_chosen}
use Rattle.walks.specs.Meaning.{Admissible}
use Rattle.walks.specs.Walk.{walk}
use Rattle.walks.proofs.AmongLaws.{walk-counts}
use Rattle.walks.proofs.CeilingLaws.{full-ceiling}
use Rattle.walks.proofs.SumLaws.{gate-le}
use Rattle.values.specs.Sets.{items_of, in_set, names, breaks}
use Rattle.values.specs.Ceiling.{ceiling_of}
use Rattle.values.specs.Code.Multiplied.{CeilingBy}
use Rattle.values.proofs.CeilingLaws.{ceiling-items}
use Rattle.values.proofs.ReadsLaws.{sets-read}
use Rattle.judging.specs.Code.Lent.{vars_of, CaseBy, LentBy}
use Rattle.judging.specs.Code.Walking.{Ordered, CountsBy}
use Rattle.judging.proofs.WalkingLaws.{as_many, once-for, after-for}

module _ {ts : List ℕ} {p : Parsed} (L : LentBy ts p) {order : List ℕ} (O : Ordered p order) {r : ℕ} (most : CeilingBy ts p.kinds (vars_of p) r) (none : r ≡ 0) where
  none-counts : {T : Tables} {ρ : Rule} → CaseBy ts p T ρ → (g : List ℕ → ℕ) → ((c : List ℕ) → g c ≤ 1) → 0 ≡ walk 64 (in_set T (rule_vars [] ρ)) g order nothing_chosen
  none-counts {T} {ρ} C g one =
      let few : length (rule_vars [] ρ) ≤ 8 = omega (arith, as_many C L.lent.few, L.lent.few) in
      let zero : ceiling_of T (rule_vars [] ρ) ≡ 0 = sym (most T p.nodes p.n (rule_vars [] ρ) C.world) ∙ none in
      let ok : Admissible (names (rule_vars [] ρ)) (length (rule_vars [] ρ)) order = record { once = once-for L O C; after = after-for L O C } in
      let counts = walk-counts (items_of T (rule_vars [] ρ)) (in_set T (rule_vars [] ρ)) (length (rule_vars [] ρ)) C.sorts g nothing_chosen few (names (rule_vars [] ρ)) (sets-read T (rule_vars [] ρ)) order ok in
      let below = full-ceiling (items_of T (rule_vars [] ρ)) (in_set T (rule_vars [] ρ)) g one (length (rule_vars [] ρ)) nothing_chosen in
      omega (arith, counts, below, ceiling-items T C.world.fits (rule_vars [] ρ), zero)

  pub none-counted : CountsBy ts p order 0 0
  none-counted T ρ C =
      (none-counts C each (λ c. lit≤ tt), none-counts C (if_breaks (breaks T (rule_vars [] ρ) ρ)) (λ c. gate-le (breaks T (rule_vars [] ρ) ρ c) 1))
