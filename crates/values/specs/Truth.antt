-- Whether a rule is true under a choice (document 01, "Rule text" and "Verdict").
-- Assumes nothing.
use Rattle.std.specs.Prelude.{Bool, not, ◌&&◌, List, ℕ, eqb, ltb, leb}
use Rattle.words.specs.Words.{meet_of, size_of}
use Rattle.tables.specs.Tables.{Tables}
use Rattle.syntax.specs.Term.{Choices}
use Rattle.syntax.specs.Rule.{Cmp, lt, le, gt, ge, eq, ne, Sign, is, isnt, Count, number, count, Test, member, alike, empty, sized}
use Rattle.syntax.specs.Rule.{Clause, plain, when, Rule, last, also}
use Rattle.values.specs.Values.{value}

-- "`<` `<=` `>` `>=` `=` `!=`"
unfoldable pub compared : Cmp → ℕ → ℕ → Bool
compared lt a b = ltb a b
compared le a b = leb a b
compared gt a b = ltb b a
compared ge a b = leb b a
compared eq a b = eqb a b
compared ne a b = not (eqb a b)

-- "`=` or `!=`"
unfoldable pub signed : Sign → Bool → Bool
signed is b = b
signed isnt b = not b

module _ (T : Tables) (σ : Choices) (c : List ℕ) where
  -- "a number 0 to 64 .. or a count"; a count "is the number of items in the set".
  unfoldable pub count_value : Count → ℕ
  count_value (number n) = n
  count_value (count a) = size_of (value T σ c a)

  -- Membership: the element, a word of one item, has that item in common with the set.
  unfoldable pub test_true : Test → Bool
  test_true (member a b) = not (eqb (meet_of (value T σ c a) (value T σ c b)) 0)
  test_true (alike g a b) = signed g (eqb (value T σ c a) (value T σ c b))
  test_true (empty g a) = signed g (eqb (value T σ c a) 0)
  test_true (sized d a k) = compared d (size_of (value T σ c a)) (count_value k)

  -- "`=>` is false only where its first test is true and its second false"
  unfoldable pub clause_true : Clause → Bool
  clause_true (plain p) = test_true p
  clause_true (when p q) = not (test_true p && not (test_true q))

  -- "`^` means and"
  unfoldable pub rule_true : Rule → Bool
  rule_true (last k) = clause_true k
  rule_true (also k ρ) = clause_true k && rule_true ρ
