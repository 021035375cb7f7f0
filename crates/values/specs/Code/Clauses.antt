-- A rule's clauses by number: the nodes of their tests, and the variables that each names.
-- Internal: contracts of entry points do not speak of it. Assumes nothing.
use Rattle.std.specs.Prelude.{◌≡◌, Bool, ◌||◌, List, Option, None, Some, ℕ, zero, suc, ◌<◌, get_or}
use Rattle.words.specs.Words.{has}
use Rattle.syntax.specs.Term.{Choices}
use Rattle.syntax.specs.Rule.{number, count, Test, member, alike, empty, sized, Clause, plain, when, Rule, last, also}
use Rattle.syntax.specs.Code.Arena.{HoldsTest, HoldsClause, Low}
use Rattle.values.specs.Sets.{names_in}
use Rattle.values.specs.Code.Nodes.{Variables}

-- How many clauses a rule has, and the clause at a place, the last one from there on.
unfoldable pub clause_count : Rule → ℕ
clause_count (last k) = 1
clause_count (also k ρ) = suc (clause_count ρ)

unfoldable pub clause_at : Rule → ℕ → Clause
clause_at (last k) i = k
clause_at (also k ρ) zero = k
clause_at (also k ρ) (suc i) = clause_at ρ i

-- A test, and a clause, names what its terms name.
unfoldable pub test_names : Choices → Test → ℕ → Bool
test_names σ (member a b) u = names_in σ a u || names_in σ b u
test_names σ (alike g a b) u = names_in σ a u || names_in σ b u
test_names σ (empty g a) u = names_in σ a u
test_names σ (sized d a (number m)) u = names_in σ a u
test_names σ (sized d a (count b)) u = names_in σ a u || names_in σ b u

unfoldable pub clause_names : Choices → Clause → ℕ → Bool
clause_names σ (plain p) u = test_names σ p u
clause_names σ (when p q) u = test_names σ p u || test_names σ q u

-- v is the number of a node of the test, whose terms are among the first n nodes.
pub record TestNode (ns : List ℕ) (n v : ℕ) (p : Test) : Type 0 where
  pub at : ℕ
  pub node : get_or ns at 0 ≡ v
  pub low : Low v n
  pub holds : HoldsTest ns at p

-- first and second are those of the clause's tests; 0, which is no test, where there is no second.
unfoldable pub ClauseNodes : List ℕ → ℕ → ℕ → ℕ → Clause → Type 0
ClauseNodes ns n first second (plain p) = TestNode ns n first p × (second ≡ 0)
ClauseNodes ns n first second (when p q) = TestNode ns n first p × TestNode ns n second q

-- The number of a second test; 0 of none.
abbrev pub number_of_second : Option ℕ → ℕ
number_of_second None = 0
number_of_second (Some v) = v

-- They are those of the clause that node k holds.
pub record TestsAt (ns : List ℕ) (n k first second : ℕ) : Type 0 where
  pub low : Low first n
  pub low₂ : Low second n
  pub tests : (q : Clause) → HoldsClause ns k q → ClauseNodes ns n first second q

-- The word r has the variables that the test, the clause names.
abbrev pub TestNamesOf : List ℕ → ℕ → List ℕ → ℕ → ℕ → Type 0
TestNamesOf ns n vs v r = (σ : Choices) → Variables ns n vs σ → (p : Test) → TestNode ns n v p → (u : ℕ) → u < 64 → has r u ≡ test_names σ p u

abbrev pub ClauseNamesOf : List ℕ → ℕ → List ℕ → ℕ → ℕ → ℕ → Type 0
ClauseNamesOf ns n vs first second r =
    (σ : Choices) → Variables ns n vs σ → (q : Clause) → ClauseNodes ns n first second q → (u : ℕ) → u < 64 → has r u ≡ clause_names σ q u
