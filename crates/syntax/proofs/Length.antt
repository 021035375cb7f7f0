-- No formula of an accepted rule passes 4,096 bytes: 7 bytes of it for each 4 of the rule, in the rule and in each of 8 quantifiers. Assumes nothing.
use mathlib.Core.List.{[], ◌∷◌}
use mathlib.Core.Option.{Option, none, some}
use Prim.Native.Nat.{ℕ, suc, ◌*◌, ◌≤◌}
use native.Mathlib.Omega.{arith}
use lib.ListN.{length, length-append}
use Rattle.syntax.specs.Bytes.{Bytes}
use Rattle.syntax.specs.Term.{Term, base, call, oe, ao, two, Choices, digit_from, digit, text, oe_text, ao_text, spell, spell_middle}
use Rattle.syntax.specs.Rule.{Count, number, count, Test, member, alike, empty, sized, Clause, plain, when, Rule, last, also}
use Rattle.syntax.specs.Rule.{count_text, test_text, clause_text, rule_text, rule_vars, quantifiers, formula_with, formula}
use Rattle.syntax.proofs.PartLaws.{All, CountHas, TestHas, ClauseHas, RuleHas, Passes, rule-all}

abbrev Grows : Bytes → Bytes → Type 0
Grows w v = 4 * length w ≤ 7 * length v

text-grows : (σ : Choices) (t : Term) → Grows (text σ t) (text [] t)
unfolding text oe_text ao_text digit_from spell spell_middle
text-grows σ (base b) = omega arith
text-grows σ (call f a) = simp length-append (omega (arith, text-grows σ a))
text-grows σ (oe a) = go (digit σ a) (text-grows σ a)
  where
    go : (o : Option ℕ) → Grows (text σ a) (text [] a) → Grows (oe_text o (text σ a)) (text [] (oe a))
    go none h = simp length-append (omega arith)
    go (some d) h = simp length-append (omega arith)
text-grows σ (ao a) = go (digit σ a) (text-grows σ a)
  where
    go : (o : Option ℕ) → Grows (text σ a) (text [] a) → Grows (ao_text o (text σ a)) (text [] (ao a))
    go none h = simp length-append (omega arith)
    go (some d) h = simp length-append (omega arith)
text-grows σ (two o a b) = simp length-append (omega (arith, text-grows σ a, text-grows σ b))

count-grows : (σ : Choices) (k : Count) → Grows (count_text σ k) (count_text [] k)
unfolding count_text
count-grows σ (number n) = omega arith
count-grows σ (count a) = simp length-append (omega (arith, text-grows σ a))

test-grows : (σ : Choices) (t : Test) → Grows (test_text σ t) (test_text [] t)
unfolding test_text
test-grows σ (member a b) = simp length-append (omega (arith, text-grows σ a, text-grows σ b))
test-grows σ (alike g a b) = simp length-append (omega (arith, text-grows σ a, text-grows σ b))
test-grows σ (empty g a) = simp length-append (omega (arith, text-grows σ a))
test-grows σ (sized c a k) = simp length-append (omega (arith, text-grows σ a, count-grows σ k))

clause-grows : (σ : Choices) (c : Clause) → Grows (clause_text σ c) (clause_text [] c)
unfolding clause_text
clause-grows σ (plain p) = test-grows σ p
clause-grows σ (when p q) = simp length-append (omega (arith, test-grows σ p, test-grows σ q))

rule-grows : (σ : Choices) (ρ : Rule) → Grows (rule_text σ ρ) (rule_text [] ρ)
unfolding rule_text
rule-grows σ (last c) = clause-grows σ c
rule-grows σ (also c ρ) = simp length-append (omega (arith, clause-grows σ c, rule-grows σ ρ))

-- No term of a rule is written with more bytes than the rule.
abbrev Small : ℕ → Term → Type 0
Small n t = length (text [] t) ≤ n

small-passes : (n : ℕ) → Passes (Small n) (Small n)
unfolding text oe_text ao_text digit_from
small-passes n =
    record {
      in_call = λ f a h. omega (arith, simp length-append at h);
      in_oe = λ a h. let w : Small n a = omega (arith, simp length-append at h) in (w, w);
      in_ao = λ a h. let w : Small n a = omega (arith, simp length-append at h) in (w, w);
      in_two = λ o a b h. omega (arith, simp length-append at h);
    }

module _ (n : ℕ) where
  count_small : (k : Count) → length (count_text [] k) ≤ n → CountHas (Small n) k
  unfolding count_text
  count_small (number m) h = tt
  count_small (count a) h = omega (arith, simp length-append at h)

  test-small : (t : Test) → length (test_text [] t) ≤ n → TestHas (Small n) t
  unfolding test_text
  test-small (member a b) h = omega (arith, simp length-append at h)
  test-small (alike g a b) h = omega (arith, simp length-append at h)
  test-small (empty g a) h = omega (arith, simp length-append at h)
  test-small (sized c a k) h =
      let w : Small n a × (length (count_text [] k) ≤ n) = omega (arith, simp length-append at h) in
      (w.0, count_small k w.1)

  clause-small : (c : Clause) → length (clause_text [] c) ≤ n → ClauseHas (Small n) c
  unfolding clause_text
  clause-small (plain p) h = test-small p h
  clause-small (when p q) h =
      let w : (length (test_text [] p) ≤ n) × (length (test_text [] q) ≤ n) = omega (arith, simp length-append at h) in
      (test-small p w.0, test-small q w.1)

  rule-small : (ρ : Rule) → length (rule_text [] ρ) ≤ n → RuleHas (Small n) ρ
  unfolding rule_text
  rule-small (last c) h = clause-small c h
  rule-small (also c ρ) h =
      let w : (length (clause_text [] c) ≤ n) × (length (rule_text [] ρ) ≤ n) = omega (arith, simp length-append at h) in
      (clause-small c w.0, rule-small ρ w.1)

quantifiers-short : (τ : Choices) (d : ℕ) (xs : Choices) → All (Small 256) xs → length (quantifiers τ d xs) ≤ 453 * length xs
unfolding quantifiers
quantifiers-short τ d [] h = omega arith
quantifiers-short τ d (x ∷ xs) h = simp length-append (omega (arith, text-grows τ x, quantifiers-short τ (suc d) xs h.1))

pub formula-short : (ρ : Rule) → length (rule_text [] ρ) ≤ 256 → length (rule_vars [] ρ) ≤ 8 → length (formula ρ) ≤ 4096
unfolding formula formula_with
formula-short ρ h k =
    simp length-append
    (omega (arith, rule-grows (rule_vars [] ρ) ρ, quantifiers-short (rule_vars [] ρ) 49 (rule_vars [] ρ) (rule-all (Small 256) (Small 256) (small-passes 256) [] ρ tt (rule-small 256 ρ h))))
