-- A line's rule as a part of the rule that all lines of a walk make together: its clauses are those from `from` up to `to`, and its variables the same.
-- Internal: contracts of entry points do not speak of it. Assumes nothing.
use Rattle.std.specs.Prelude.{◌≡◌, [], ℕ, ◌+◌, ◌<◌, ◌≤◌}
use Rattle.syntax.specs.Rule.{Rule, rule_vars}
use Rattle.values.specs.Code.Clauses.{clause_count, clause_at}

pub record Part (ρ κ : Rule) (from to : ℕ) : Type 0 where
  pub vars : rule_vars [] κ ≡ rule_vars [] ρ
  pub many : from + clause_count κ ≡ to
  pub fits : to ≤ clause_count ρ
  pub each : (i : ℕ) → i < clause_count κ → clause_at ρ (from + i) ≡ clause_at κ i
