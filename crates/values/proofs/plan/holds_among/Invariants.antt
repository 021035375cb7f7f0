-- `values::plan::holds_among` meets its contract. The invariant: those of the level from `from` on, among the first i, hold.
-- Assumes nothing.
use mathlib.Core.Path.{◌≡◌}
use mathlib.Core.Bool.{true, not}
use mathlib.Core.List.{List, []}
use Prim.Native.Nat.{ℕ, ◌<◌}
use lib.ListN.{get_or, drop}
use Rattle.tables.specs.Tables.{Tables}
use Rattle.syntax.specs.Rule.{Rule, rule_vars}
use Rattle.values.specs.Code.Cache.{ValuedIn}
use Rattle.values.specs.Code.Clauses.{clause_count, clause_at, clause_names}
use Rattle.values.specs.Code.Plan.{ClausesIn, levels_from}
use Rattle.values.proofs.PlanLaws.{false_among}
use Rattle.values.proofs.plan.holds_among.Given as goal

abbrev pub invariant-loop-i : goal.invariant-loop-i
invariant-loop-i l = (ns : List ℕ) (n : ℕ) (ρ : Rule) → ClausesIn l.plan ns n ρ → (T : Tables) (c : List ℕ)
    → ((j : ℕ) → j < clause_count ρ → get_or (drop levels_from l.plan) j 0 ≡ l.level → ValuedIn ns n l.cache T (rule_vars [] ρ) c (clause_names (rule_vars [] ρ) (clause_at ρ j)))
    → false_among T ρ (drop levels_from l.plan) l.level l.from c l.i ≡ not true
