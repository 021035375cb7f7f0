-- A rule's clauses as judging settles them: what they read, how far their variables go, and that the rule breaks where one is false.
-- Assumes nothing.
use mathlib.Core.Path.{◌≡◌, refl, sym, ap, ap₂, fun_ext, ◌∙◌}
use mathlib.Core.Bool.{Bool, true, false, not, ◌&&◌, ◌||◌, true≢false}
use mathlib.Core.List.{List, [], ◌∷◌}
use Prim.Native.Nat.{ℕ, suc, ◌≤◌}
use native.Mathlib.Omega.{arith}
use lib.Dec.{eqb}
use lib.ListN.{length, get_or}
use borrow.Author.Tests.{eqb-true}
use Rattle.words.specs.Words.{any_to, meet_of, size_of}
use Rattle.tables.specs.Tables.{Tables}
use Rattle.syntax.specs.Term.{Term, base, call, oe, ao, two, Term≟, Choices}
use Rattle.syntax.specs.Rule.{number, count, Test, member, alike, empty, sized, Clause, plain, when, Rule, last, also, rule_vars}
use Rattle.walks.specs.Code.Clauses.{Clauses, false_to, false_in, breaks_any}
use Rattle.walks.proofs.ClauseLaws.{any-front}
use Rattle.values.specs.Values.{value, variable_of}
use Rattle.values.specs.Truth.{compared, signed, count_value, test_true, clause_true, rule_true}
use Rattle.values.specs.Sets.{names_in, breaks}
use Rattle.values.specs.Code.Clauses.{clause_count, clause_at, test_names, clause_names}
use Rattle.values.proofs.ReadsLaws.{value-reads, or_left, or_case}
use Rattle.words.proofs.LoopLaws.{or_right}

-- ---- what a clause reads

module _ (T : Tables) (σ : Choices) (c d : List ℕ) where
  abbrev Agree : (ℕ → Bool) → Type 0
  Agree named = (u : ℕ) → named u ≡ true → get_or c u 0 ≡ get_or d u 0

  two-read : {A : Type 0} (f : ℕ → ℕ → A) (a b : Term) → Agree (λ u. names_in σ a u || names_in σ b u)
      → f (value T σ c a) (value T σ c b) ≡ f (value T σ d a) (value T σ d b)
  two-read f a b h =
      ap₂ f (value-reads T σ c d a (λ u e. h u (or_left (names_in σ a u) (names_in σ b u) e))) (value-reads T σ c d b (λ u e. h u (or_right (names_in σ a u) (names_in σ b u) e)))

  test-reads : (p : Test) → Agree (test_names σ p) → test_true T σ c p ≡ test_true T σ d p
  unfolding test_true test_names count_value
  test-reads (member a b) h = two-read (λ v w. not (eqb (meet_of v w) 0)) a b h
  test-reads (alike g a b) h = two-read (λ v w. signed g (eqb v w)) a b h
  test-reads (empty g a) h = ap (λ (v : ℕ). signed g (eqb v 0)) (value-reads T σ c d a h)
  test-reads (sized k a (number m)) h = ap (λ (v : ℕ). compared k (size_of v) m) (value-reads T σ c d a h)
  test-reads (sized k a (count b)) h = two-read (λ v w. compared k (size_of v) (size_of w)) a b h

  pub clause-reads : (q : Clause) → Agree (clause_names σ q) → clause_true T σ c q ≡ clause_true T σ d q
  unfolding clause_true clause_names
  clause-reads (plain p) h = test-reads p h
  clause-reads (when p q) h =
      ap₂ (λ (x y : Bool). not (x && not y)) (test-reads p (λ u e. h u (or_left (test_names σ p u) (test_names σ q u) e))) (test-reads q (λ u e. h u (or_right (test_names σ p u) (test_names σ q u) e)))

-- The clauses of a rule under tables.
abbrev pub clauses_of : Tables → Rule → Clauses
clauses_of T ρ = record {
  many = clause_count ρ;
  holds = λ i c. clause_true T (rule_vars [] ρ) c (clause_at ρ i);
  named = λ i. clause_names (rule_vars [] ρ) (clause_at ρ i);
  reads = λ i l c d h. clause-reads T (rule_vars [] ρ) c d (clause_at ρ i) h;
}

-- ---- the rule breaks where a clause is false

not-and : (a b : Bool) → (not a || not b) ≡ not (a && b)
not-and true b = refl
not-and false b = refl

any-clause : (T : Tables) (σ : Choices) (c : List ℕ) (ρ : Rule) → any_to (clause_count ρ) (λ i. not (clause_true T σ c (clause_at ρ i))) ≡ not (rule_true T σ c ρ)
unfolding clause_count clause_at rule_true any_to
any-clause T σ c (last k) = refl
any-clause T σ c (also k ρ) =
    any-front (clause_count ρ) (λ i. not (clause_true T σ c (clause_at (also k ρ) i)))
    ∙ ap (λ (t : Bool). not (clause_true T σ c k) || t) (any-clause T σ c ρ) ∙ not-and (clause_true T σ c k) (rule_true T σ c ρ)

pub rule-breaks : (T : Tables) (ρ : Rule) → breaks_any (clauses_of T ρ) ≡ breaks T (rule_vars [] ρ) ρ
unfolding false_in false_to
rule-breaks T ρ = fun_ext (λ c. any-clause T (rule_vars [] ρ) c ρ)

-- ---- how far the variables go that are named

variable-small : (σ : Choices) (a : Term) → variable_of σ a ≤ length σ
unfolding variable_of
variable-small [] a = omega arith
variable-small (x ∷ σ) a = go (variable-small σ a) (Term≟ x a)
  where
    go : variable_of σ a ≤ length σ → (p : Dec (x ≡ a)) → ◌≤◌ (elim p [ yes y ↦ 0 | no n ↦ suc (variable_of σ a) ]) (suc (length σ))
    go ih (yes p) = omega arith
    go ih (no n) = omega arith

pub names-small : (σ : Choices) (t : Term) (u : ℕ) → names_in σ t u ≡ true → u ≤ length σ
unfolding names_in
names-small σ (base b) u e = absurd (true≢false (sym e))
names-small σ (call f a) u e = names-small σ a u e
names-small σ (oe a) u e = omega (arith, variable-small σ a, eqb-true (variable_of σ a) u e)
names-small σ (ao a) u e = or_case (eqb (variable_of σ a) u) (names_in σ a u) e (λ q. omega (arith, variable-small σ a, eqb-true (variable_of σ a) u q)) (λ q. names-small σ a u q)
names-small σ (two o a b) u e = or_case (names_in σ a u) (names_in σ b u) e (λ q. names-small σ a u q) (λ q. names-small σ b u q)

test-small : (σ : Choices) (p : Test) (u : ℕ) → test_names σ p u ≡ true → u ≤ length σ
unfolding test_names
test-small σ (member a b) u e = or_case (names_in σ a u) (names_in σ b u) e (λ q. names-small σ a u q) (λ q. names-small σ b u q)
test-small σ (alike g a b) u e = or_case (names_in σ a u) (names_in σ b u) e (λ q. names-small σ a u q) (λ q. names-small σ b u q)
test-small σ (empty g a) u e = names-small σ a u e
test-small σ (sized k a (number m)) u e = names-small σ a u e
test-small σ (sized k a (count b)) u e = or_case (names_in σ a u) (names_in σ b u) e (λ q. names-small σ a u q) (λ q. names-small σ b u q)

pub clause-small : (σ : Choices) (q : Clause) (u : ℕ) → clause_names σ q u ≡ true → u ≤ length σ
unfolding clause_names
clause-small σ (plain p) u e = test-small σ p u e
clause-small σ (when p q) u e = or_case (test_names σ p u) (test_names σ q u) e (λ h. test-small σ p u h) (λ h. test-small σ q u h)
