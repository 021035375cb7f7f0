-- What holds of every term of a rule, and so of the terms inside them, holds of every choice of the rule.
-- Assumes nothing.
use mathlib.Core.List.{[], ◌∷◌, ◌++◌}
use mathlib.Core.Option.{Option, none, some}
use Prim.Native.Nat.{ℕ}
use Rattle.syntax.specs.Term.{Fn, Pair, Term, base, call, oe, ao, two, Choices, digit}
use Rattle.syntax.specs.Rule.{Count, number, count, Test, member, alike, empty, sized, Clause, plain, when, Rule, last, also}
use Rattle.syntax.specs.Rule.{add, vars, count_vars, test_vars, clause_vars, rule_vars}

abbrev pub All : (Term → Type 0) → Choices → Type 0
All P [] = Unit {0}
All P (x ∷ xs) = P x × All P xs

-- Q holds of the terms that stand in a count, a test, a clause, a rule.

abbrev pub CountHas : (Term → Type 0) → Count → Type 0
CountHas Q (number n) = Unit {0}
CountHas Q (count a) = Q a

abbrev pub TestHas : (Term → Type 0) → Test → Type 0
TestHas Q (member a b) = Q a × Q b
TestHas Q (alike g a b) = Q a × Q b
TestHas Q (empty g a) = Q a
TestHas Q (sized c a k) = Q a × CountHas Q k

abbrev pub ClauseHas : (Term → Type 0) → Clause → Type 0
ClauseHas Q (plain p) = TestHas Q p
ClauseHas Q (when p q) = TestHas Q p × TestHas Q q

abbrev pub RuleHas : (Term → Type 0) → Rule → Type 0
RuleHas Q (last c) = ClauseHas Q c
RuleHas Q (also c ρ) = ClauseHas Q c × RuleHas Q ρ

-- What two properties of a term give, they give of the terms that stand there.
module _ {P Q R : Term → Type 0} (f : (t : Term) → P t → Q t → R t) where
  count-both : (k : Count) → CountHas P k → CountHas Q k → CountHas R k
  count-both (number n) p q = tt
  count-both (count a) p q = f a p q

  test-both : (t : Test) → TestHas P t → TestHas Q t → TestHas R t
  test-both (member a b) p q = (f a p.0 q.0, f b p.1 q.1)
  test-both (alike g a b) p q = (f a p.0 q.0, f b p.1 q.1)
  test-both (empty g a) p q = f a p q
  test-both (sized c a k) p q = (f a p.0 q.0, count-both k p.1 q.1)

  clause-both : (c : Clause) → ClauseHas P c → ClauseHas Q c → ClauseHas R c
  clause-both (plain t) p q = test-both t p q
  clause-both (when t u) p q = (test-both t p.0 q.0, test-both u p.1 q.1)

  pub rule-both : (ρ : Rule) → RuleHas P ρ → RuleHas Q ρ → RuleHas R ρ
  rule-both (last c) p q = clause-both c p q
  rule-both (also c ρ) p q = (clause-both c p.0 q.0, rule-both ρ p.1 q.1)

-- And what one gives.
module _ {P R : Term → Type 0} (f : (t : Term) → P t → R t) where
  pub test_has : (t : Test) → TestHas P t → TestHas R t
  test_has t p = test-both (λ t p _. f t p) t p p

  pub clause-has : (c : Clause) → ClauseHas P c → ClauseHas R c
  clause-has c p = clause-both (λ t p _. f t p) c p p

-- Q goes on to the terms inside, and gives P of the argument of a choice.
pub record Passes (Q P : Term → Type 0) : Type 0 where
  pub in_call : (f : Fn) (a : Term) → Q (call f a) → Q a
  pub in_oe : (a : Term) → Q (oe a) → Q a × P a
  pub in_ao : (a : Term) → Q (ao a) → Q a × P a
  pub in_two : (o : Pair) (a b : Term) → Q (two o a b) → Q a × Q b

snoc-all : (P : Term → Type 0) (σ : Choices) (a : Term) → All P σ → P a → All P (σ ++ (a ∷ []))
snoc-all P [] a h k = (k, tt)
snoc-all P (x ∷ σ) a h k = (h.0, snoc-all P σ a h.1 k)

add-all : (P : Term → Type 0) (σ : Choices) (a : Term) → All P σ → P a → All P (add σ a)
unfolding add
add-all P σ a h k = go (digit σ a)
  where
    go : (o : Option ℕ) → All P (elim o [ none ↦ σ ++ (a ∷ []) | some _ ↦ σ ])
    go none = snoc-all P σ a h k
    go (some d) = h

module _ (Q P : Term → Type 0) (w : Passes Q P) where
  vars-all : (σ : Choices) (t : Term) → All P σ → Q t → All P (vars σ t)
  unfolding vars
  vars-all σ (base b) h q = h
  vars-all σ (call f a) h q = vars-all σ a h (w.in_call f a q)
  vars-all σ (oe a) h q = let p = w.in_oe a q in add-all P (vars σ a) a (vars-all σ a h p.0) p.1
  vars-all σ (ao a) h q = let p = w.in_ao a q in add-all P (vars σ a) a (vars-all σ a h p.0) p.1
  vars-all σ (two o a b) h q = let p = w.in_two o a b q in vars-all (vars σ a) b (vars-all σ a h p.0) p.1

  count-all : (σ : Choices) (k : Count) → All P σ → CountHas Q k → All P (count_vars σ k)
  unfolding count_vars
  count-all σ (number m) h q = h
  count-all σ (count a) h q = vars-all σ a h q

  test-all : (σ : Choices) (t : Test) → All P σ → TestHas Q t → All P (test_vars σ t)
  unfolding test_vars
  test-all σ (member a b) h q = vars-all (vars σ a) b (vars-all σ a h q.0) q.1
  test-all σ (alike g a b) h q = vars-all (vars σ a) b (vars-all σ a h q.0) q.1
  test-all σ (empty g a) h q = vars-all σ a h q
  test-all σ (sized c a k) h q = count-all (vars σ a) k (vars-all σ a h q.0) q.1

  clause-all : (σ : Choices) (c : Clause) → All P σ → ClauseHas Q c → All P (clause_vars σ c)
  unfolding clause_vars
  clause-all σ (plain p) h q = test-all σ p h q
  clause-all σ (when p r) h q = test-all (test_vars σ p) r (test-all σ p h q.0) q.1

  pub rule-all : (σ : Choices) (ρ : Rule) → All P σ → RuleHas Q ρ → All P (rule_vars σ ρ)
  unfolding rule_vars
  rule-all σ (last c) h q = clause-all σ c h q
  rule-all σ (also c ρ) h q = rule-all (clause_vars σ c) ρ (clause-all σ c h q.0) q.1
