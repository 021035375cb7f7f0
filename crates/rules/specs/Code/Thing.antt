-- What a node may hold, a term, a test, a clause or a rule, so that a walk over nodes speaks of all four at once.
-- Internal: contracts of entry points do not speak of it. Assumes nothing.
use Rattle.std.specs.Prelude.{List, ℕ}
use Rattle.syntax.specs.Bytes.{Bytes}
use Rattle.syntax.specs.Term.{Term, Choices, text}
use Rattle.syntax.specs.Rule.{Test, Clause, Rule, test_text, clause_text, rule_text, vars, test_vars, clause_vars, rule_vars}
use Rattle.syntax.specs.Code.Arena.{Holds, HoldsTest, HoldsClause, HoldsRule}

pub data Thing : Type 0 where
  term : Term → Thing
  test : Test → Thing
  clause : Clause → Thing
  rule : Rule → Thing

abbrev pub HoldsThing : List ℕ → ℕ → Thing → Type 0
HoldsThing ns k (term t) = Holds ns k t
HoldsThing ns k (test p) = HoldsTest ns k p
HoldsThing ns k (clause c) = HoldsClause ns k c
HoldsThing ns k (rule ρ) = HoldsRule ns k ρ

-- Its choices after those of σ, and how it is written.
abbrev pub thing_vars : Choices → Thing → Choices
thing_vars σ (term t) = vars σ t
thing_vars σ (test p) = test_vars σ p
thing_vars σ (clause c) = clause_vars σ c
thing_vars σ (rule ρ) = rule_vars σ ρ

abbrev pub thing_text : Choices → Thing → Bytes
thing_text σ (term t) = text σ t
thing_text σ (test p) = test_text σ p
thing_text σ (clause c) = clause_text σ c
thing_text σ (rule ρ) = rule_text σ ρ
