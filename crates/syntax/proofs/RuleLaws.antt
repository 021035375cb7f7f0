-- What is written is read back, and what is read was so written: the laws of rules and formulas. Assumes nothing.
use mathlib.Core.Path.{◌≡◌, refl, ap, sym, subst, ◌∙◌}
use mathlib.Core.List.{[], ◌∷◌, ◌++◌, append_assoc, append-nil}
use mathlib.Core.Option.{Option, none, some}
use mathlib.Core.Logic.{◌⊎◌, inl, inr}
use Prim.Native.Nat.{ℕ, suc, zero, ◌+◌, ◌≤◌, ◌<◌, ◌/◌, ◌%◌}
use native.Mathlib.Omega.{arith}
use native.Mathlib.Decide.{dec_lt, ℕ_discrete}
use lib.ListN.{length, length-append}
use borrow.Author.Tests.{ne_eqb, lt-ltb, le-ltb}
use Rattle.syntax.specs.Bytes.{Bytes, ascii, Read, fail, got, next, skip, scan, either}
use Rattle.syntax.proofs.BytesLaws.{never, next-case, skip-gives, skip-own}
use Rattle.syntax.proofs.BytesLaws.{scan-gives, either-case, either-own, either-on}
use Rattle.syntax.specs.Term.{Term, Choices, text, read_term}
use Rattle.syntax.proofs.TermLaws.{read-text, text-read, text-long, bar-free, brace-free}
use Rattle.syntax.specs.Rule.{Cmp, lt, le, gt, ge, eq, ne, is, isnt, Count, number, count, Test, member, alike, empty, sized, Clause}
use Rattle.syntax.specs.Rule.{plain, when, Rule, last, also, spell_cmp, digits, count_text, test_text, clause_text, rule_text, rule_vars}
use Rattle.syntax.specs.Rule.{formula, Between, is_in, is_sign, cmps, spell_between, betweens, down, read_count, read_second}
use Rattle.syntax.specs.Rule.{CountFits, TestFits, ClauseFits, RuleFits}
use Rattle.syntax.specs.Rule.{read_test, read_clause, read_rule, read_formula, whole, rule_of, rule_of_formula}
use Rattle.syntax.specs.Code.Printing.{quantifiers_after, printed}
use Rattle.syntax.proofs.Closed.{formula-in}

-- Numbers.

-- No digit stands in front.
abbrev pub Stop : Bytes → Type 0
Stop [] = Unit {0}
Stop (c ∷ r) = (c < 48) ⊎ (57 < c)

pub digits-one : (n : ℕ) → n < 10 → digits n ≡ (48 + n) ∷ []
unfolding digits
digits-one n h = rw (lt-ltb n 10 h, digits)

pub digits-two : (n : ℕ) → 10 ≤ n → digits n ≡ (48 + n / 10) ∷ (48 + n % 10) ∷ []
unfolding digits
digits-two n h = rw (le-ltb n 10 h, digits)

-- The digits of another number do not stand in front of what follows those of n.
clash : (m n : ℕ) (r w : Bytes) → n < m → m ≤ 64 → Stop r → digits n ++ r ≡ digits m ++ w → ⊥
clash m n r w h k st e = go (dec_lt n 10) (dec_lt m 10)
  where
    late : (r : Bytes) → Stop r → r ≡ (48 + m % 10) ∷ w → ⊥
    late [] st e = let z : ◌≡◌ {A = ℕ} 0 1 = cc in omega arith
    late (c ∷ r) (inl p) e = let q : c ≡ 48 + m % 10 = cc in omega arith
    late (c ∷ r) (inr p) e = let q : c ≡ 48 + m % 10 = cc in omega arith

    go : Dec (n < 10) → Dec (m < 10) → ⊥
    go (yes p) (yes q) = let z : 48 + n ≡ 48 + m = cc (digits-one n p, digits-one m q) in omega arith
    go (yes p) (no q) = late r st (cc (digits-one n p, digits-two m (omega arith)))
    go (no p) (yes q) = omega arith
    go (no p) (no q) =
        let z : 48 + n / 10 ≡ 48 + m / 10 = cc (digits-two n (omega arith), digits-two m (omega arith)) in
        let z' : 48 + n % 10 ≡ 48 + m % 10 = cc (digits-two n (omega arith), digits-two m (omega arith)) in
        omega arith

other : (m n : ℕ) (r : Bytes) → n < m → m ≤ 64 → Stop r → skip (digits m) (digits n ++ r) ≡ fail
other m n r h k st = go (skip (digits m) (digits n ++ r)) refl
  where
    go : (o : Read (Unit {0})) → skip (digits m) (digits n ++ r) ≡ o → skip (digits m) (digits n ++ r) ≡ fail
    go fail e = e
    go (got u w) e = absurd (clash m n r w h k st (skip-gives (digits m) (digits n ++ r) e))

-- A number that was written is read, where no digit follows.
scan-number : (k n : ℕ) (r : Bytes) → n ≤ k → k ≤ 64 → Stop r → scan digits (down k) (digits n ++ r) ≡ got n r
unfolding down scan
scan-number zero n r h l st = let z : n ≡ 0 = omega arith in rw z (either-own (digits 0) _ _ r)
scan-number (suc k) n r h l st = go (λ h l. scan-number k n r h l st) (ℕ_discrete n (suc k))
  where
    go : (n ≤ k → k ≤ 64 → scan digits (down k) (digits n ++ r) ≡ got n r) → Dec (n ≡ suc k) → scan digits (down (suc k)) (digits n ++ r) ≡ got n r
    go ih (yes p) = rw p (either-own (digits (suc k)) _ _ r)
    go ih (no p) = either-on (digits (suc k)) _ _ _ (other (suc k) n r (omega arith) l st) ∙ ih (omega arith) (omega arith)

pub number_small : (k n : ℕ) (s r : Bytes) → scan digits (down k) s ≡ got n r → n ≤ k
unfolding down scan
number_small zero n s r e = either-case (digits 0) _ _ s e (λ w p q. let z : n ≡ 0 = cc in omega arith) (λ q. never q)
number_small (suc k) n s r e =
    either-case (digits (suc k)) _ _ s e (λ w p q. let z : n ≡ suc k = cc in omega arith) (λ q. omega (arith, number_small k n s r q))

-- Counts.

digits-start : (c : ℕ) (p : Bytes) (n : ℕ) (r : Bytes) → 57 < c → n ≤ 64 → skip (c ∷ p) (digits n ++ r) ≡ fail
unfolding skip
digits-start c p n r h k = go (dec_lt n 10)
  where
    go : Dec (n < 10) → skip (c ∷ p) (digits n ++ r) ≡ fail
    go (yes q) = rw (digits-one n q, ne_eqb c (48 + n) (omega arith), skip)
    go (no q) = rw (digits-two n (omega arith), ne_eqb c (48 + n / 10) (omega arith), skip)

digits-bar : (n : ℕ) (r : Bytes) → n ≤ 64 → skip (ascii "|") (digits n ++ r) ≡ fail
digits-bar n r h = digits-start 124 [] n r (omega arith) h

digits-equals : (n : ℕ) (r : Bytes) → n ≤ 64 → skip (ascii "=") (digits n ++ r) ≡ fail
digits-equals n r h = digits-start 61 [] n r (omega arith) h

-- A comparison that was written is read, where no = follows.
scan-cmp : (c : Cmp) (s : Bytes) → skip (ascii "=") s ≡ fail → scan spell_cmp cmps (spell_cmp c ++ s) ≡ got c s
unfolding spell_cmp cmps scan either skip
scan-cmp lt s e = rw e
scan-cmp le s e = refl
scan-cmp gt s e = rw e
scan-cmp ge s e = refl
scan-cmp eq s e = refl
scan-cmp ne s e = refl

scan-between : (m : Between) (s : Bytes) → scan spell_between betweens (spell_between m ++ s) ≡ got m s
unfolding spell_between betweens scan either skip
scan-between is_in s = refl
scan-between (is_sign is) s = refl
scan-between (is_sign isnt) s = refl

module _ (σ : Choices) where
  read_count_lem : (k : Count) (r : Bytes) → CountFits k → Stop r → read_count σ (count_text σ k ++ r) ≡ got k r
  unfolding read_count count_text CountFits next skip
  read_count_lem (number m) r f st = either-on (ascii "|") _ _ _ (digits-bar m r f) ∙ rw (scan-number 64 m r f (omega arith) st)
  read_count_lem (count a) r f st =
      either-own (ascii "|") _ _ _ ∙ rw (append_assoc, read-text σ a _)

  count-equals : (k : Count) (r : Bytes) → CountFits k → skip (ascii "=") (count_text σ k ++ r) ≡ fail
  unfolding count_text CountFits skip
  count-equals (number m) r f = digits-equals m r f
  count-equals (count a) r f = refl

  read-test : (t : Test) (r : Bytes) → TestFits t → Stop r → read_test σ (test_text σ t ++ r) ≡ got t r
  unfolding read_test test_text TestFits next skip read_second
  read-test (member a b) r f st =
      rw (append_assoc, append_assoc) (either-on (ascii "|") _ _ _ (bar-free σ a _) ∙ rw (read-text σ a _, scan-between is_in, read-text σ b r))
  read-test (alike g a b) r f st =
      rw (append_assoc, append_assoc)
      (either-on (ascii "|") _ _ _ (bar-free σ a _)
      ∙ rw (read-text σ a _, scan-between (is_sign g)) (either-on (ascii "{}") _ _ _ (brace-free σ b r) ∙ rw (read-text σ b r)))
  read-test (empty g a) r f st =
      rw (append_assoc, append_assoc)
      (either-on (ascii "|") _ _ _ (bar-free σ a _)
      ∙ rw (read-text σ a _, scan-between (is_sign g)) (either-own (ascii "{}") _ _ r))
  read-test (sized c a k) r f st =
      either-own (ascii "|") _ _ _
      ∙ rw (append_assoc, read-text σ a _, append_assoc, scan-cmp c _ (count-equals k r f), read_count_lem k r f st)

  read-clause : (c : Clause) (r : Bytes) → ClauseFits c → Stop r → skip (ascii "=>") r ≡ fail → read_clause σ (clause_text σ c ++ r) ≡ got c r
  unfolding read_clause clause_text ClauseFits next
  read-clause (plain p) r f st e = rw (read-test p r f st) (either-on (ascii "=>") _ _ r e)
  read-clause (when p q) r f st e =
      rw (append_assoc, read-test p (ascii "=>" ++ test_text σ q ++ r) f.0 (inr (omega arith)))
      (either-own (ascii "=>") _ _ (test_text σ q ++ r) ∙ rw (read-test q r f.1 st))

test-long : (σ : Choices) (t : Test) → 1 ≤ length (test_text σ t)
unfolding test_text
test-long σ (member a b) = simp length-append (omega (arith, text-long σ a))
test-long σ (alike g a b) = simp length-append (omega (arith, text-long σ a))
test-long σ (empty g a) = simp length-append (omega (arith, text-long σ a))
test-long σ (sized c a k) = simp length-append (omega arith)

clause-long : (σ : Choices) (c : Clause) → 1 ≤ length (clause_text σ c)
unfolding clause_text
clause-long σ (plain p) = test-long σ p
clause-long σ (when p q) = simp length-append (omega arith)

-- How many clauses a rule has.
abbrev pub clause_count : Rule → ℕ
clause_count (last c) = 1
clause_count (also c ρ) = suc (clause_count ρ)

pub clauses-few : (σ : Choices) (ρ : Rule) → clause_count ρ ≤ length (rule_text σ ρ)
unfolding rule_text
clauses-few σ (last c) = clause-long σ c
clauses-few σ (also c ρ) = simp length-append (omega (arith, clauses-few σ ρ))

read-rule : (σ : Choices) (k : ℕ) (ρ : Rule) → RuleFits ρ → clause_count ρ ≤ k → read_rule σ k (rule_text σ ρ) ≡ got ρ []
unfolding read_rule rule_text RuleFits next either skip
read-rule σ zero (last c) f h = absurd (omega arith)
read-rule σ zero (also c ρ) f h = absurd (omega arith)
read-rule σ (suc k) (last c) f h = let e : read_clause σ (clause_text σ c) ≡ got c [] = rw append-nil at (read-clause σ c [] f tt refl) in rw e
read-rule σ (suc k) (also c ρ) f h =
    rw (read-clause σ c (ascii "^" ++ rule_text σ ρ) f.0 (inr (omega arith)) refl, read-rule σ k ρ f.1 (omega arith))

-- A rule that was written is read.
pub rule-back : (ρ : Rule) → RuleFits ρ → rule_of (rule_text [] ρ) ≡ some ρ
unfolding rule_of whole
rule-back ρ f = rw (read-rule [] (length (rule_text [] ρ)) ρ f (clauses-few [] ρ))

-- A formula that was written is read.

quantifiers-long : (σ xs : Choices) → length xs ≤ length (quantifiers_after σ xs)
unfolding quantifiers_after
quantifiers-long σ [] = omega arith
quantifiers-long σ (x ∷ xs) = simp length-append (omega (arith, quantifiers-long (σ ++ (x ∷ [])) xs))

-- The number of clauses is enough, and one more than the quantifiers.
read-quantified : (n k : ℕ) (σ xs τ : Choices) → σ ++ xs ≡ τ → (ρ : Rule) → RuleFits ρ → clause_count ρ ≤ n → length xs < k
    → read_formula n k σ (quantifiers_after σ xs ++ (ascii ":" ++ rule_text τ ρ)) ≡ got ρ []
unfolding read_formula quantifiers_after next either skip
read-quantified n zero σ xs τ e ρ f h l = let z : ◌≡◌ {A = ℕ} 0 1 = omega arith in cc
read-quantified n (suc k) σ [] τ e ρ f h l =
    let q : σ ≡ τ = sym (append-nil σ) ∙ e in
    rw (q, read-rule τ n ρ f h)
read-quantified n (suc k) σ (x ∷ xs) τ e ρ f h l =
    rw (skip-own ((49 + length σ) ∷ []) _, append_assoc, read-text σ x _)
    (read-quantified n k (σ ++ (x ∷ [])) xs τ (append_assoc σ (x ∷ []) xs ∙ e) ρ f h (omega arith))

pub read-formula : (n k : ℕ) (ρ : Rule) → RuleFits ρ → clause_count ρ ≤ n → length (rule_vars [] ρ) < k → whole (read_formula n k [] (formula ρ)) ≡ some ρ
unfolding whole printed
read-formula n k ρ f h l = rw (formula-in ρ, read-quantified n k [] (rule_vars [] ρ) (rule_vars [] ρ) refl ρ f h l)

pub formula-back : (ρ : Rule) → RuleFits ρ → rule_of_formula (formula ρ) ≡ some ρ
unfolding rule_of_formula printed
formula-back ρ f =
    let τ : Choices = rule_vars [] ρ in
    let l : length (quantifiers_after [] τ) + (1 + length (rule_text τ ρ)) ≡ length (formula ρ) = rw (formula-in ρ) (simp length-append (omega arith)) in
    read-formula (length (formula ρ)) (length (formula ρ)) ρ f (omega (arith, clauses-few τ ρ)) (omega (arith, quantifiers-long [] τ))

-- So two rules that are written alike are one, and two that have one formula are one.

pub rule-one : (ρ₁ ρ₂ : Rule) → RuleFits ρ₁ → RuleFits ρ₂ → rule_text [] ρ₁ ≡ rule_text [] ρ₂ → ρ₁ ≡ ρ₂
rule-one ρ₁ ρ₂ f g e = cc (rule-back ρ₁ f, rule-back ρ₂ g)

pub formula-one : (ρ₁ ρ₂ : Rule) → RuleFits ρ₁ → RuleFits ρ₂ → formula ρ₁ ≡ formula ρ₂ → ρ₁ ≡ ρ₂
formula-one ρ₁ ρ₂ f g e = cc (formula-back ρ₁ f, formula-back ρ₂ g)

-- The other way: what is read, with no choices known, was so written, and its numbers are at most 64.

abbrev CountWas : Bytes → Count → Bytes → Type 0
CountWas s k r = (s ≡ count_text [] k ++ r) × CountFits k

abbrev TestWas : Bytes → Test → Bytes → Type 0
TestWas s t r = (s ≡ test_text [] t ++ r) × TestFits t

abbrev ClauseWas : Bytes → Clause → Bytes → Type 0
ClauseWas s c r = (s ≡ clause_text [] c ++ r) × ClauseFits c

abbrev RuleWas : Bytes → Rule → Bytes → Type 0
RuleWas s ρ r = (s ≡ rule_text [] ρ ++ r) × RuleFits ρ

given : {A : Type 0} (P : A → Bytes → Type 0) {a b : A} {s r : Bytes} → got a s ≡ got b r → P a s → P b r
given P {a} {b} {s} {r} e p = let q : a ≡ b = cc in let q' : s ≡ r = cc in subst (λ x. P x r) q (subst (λ x. P a x) q' p)

count-was : (s : Bytes) (k : Count) (r : Bytes) → read_count [] s ≡ got k r → CountWas s k r
unfolding read_count count_text CountFits
count-was s k r e = either-case (ascii "|") _ _ s e
    (λ s₁ e₁ e₂. next-case (read_term [] s₁) _ e₂ λ a s₂ e₃ e₄. next-case (skip (ascii "|") s₂) _ e₄ λ _ s₃ e₅ e₆.
    given (CountWas s) e₆ (simp append_assoc (cc (text-read s₁ a s₂ e₃, skip-gives (ascii "|") s₂ e₅)), tt))
    (λ e₂. next-case (scan digits (down 64) s) _ e₂ λ m s₁ e₃ e₄.
    given (CountWas s) e₄ (scan-gives digits (down 64) s e₃, number_small 64 m s s₁ e₃))

second-was : (s : Bytes) (a : Term) (m : Between) (s₂ : Bytes) (t : Test) (r : Bytes) → s ≡ text [] a ++ (spell_between m ++ s₂) → read_second [] a m s₂ ≡ got t r → TestWas s t r
unfolding read_second test_text TestFits
second-was s a is_in s₂ t r q e =
    next-case (read_term [] s₂) _ e λ b s₃ e₁ e₂. given (TestWas s) e₂ (simp append_assoc (cc (text-read s₂ b s₃ e₁)), tt)
second-was s a (is_sign g) s₂ t r q e = either-case (ascii "{}") _ _ s₂ e
    (λ s₃ e₁ e₂. given (TestWas s) e₂ (simp append_assoc (cc), tt))
    (λ e₂. next-case (read_term [] s₂) _ e₂ λ b s₃ e₃ e₄. given (TestWas s) e₄ (simp append_assoc (cc (text-read s₂ b s₃ e₃)), tt))

test-was : (s : Bytes) (t : Test) (r : Bytes) → read_test [] s ≡ got t r → TestWas s t r
unfolding read_test test_text TestFits
test-was s t r e = either-case (ascii "|") _ _ s e
    (λ s₁ e₁ e₂. next-case (read_term [] s₁) _ e₂ λ a s₂ e₃ e₄. next-case (skip (ascii "|") s₂) _ e₄ λ _ s₃ e₅ e₆.
    next-case (scan spell_cmp cmps s₃) _ e₆ λ c s₄ e₇ e₈. next-case (read_count [] s₄) _ e₈ λ k s₅ e₉ e₁₀.
    let w : CountWas s₄ k s₅ = count-was s₄ k s₅ e₉ in
    given (TestWas s) e₁₀ (simp append_assoc (cc (text-read s₁ a s₂ e₃, skip-gives (ascii "|") s₂ e₅, scan-gives spell_cmp cmps s₃ e₇)), w.1))
    (λ e₂. next-case (read_term [] s) _ e₂ λ a s₁ e₃ e₄. next-case (scan spell_between betweens s₁) _ e₄ λ m s₂ e₅ e₆.
    second-was s a m s₂ t r (cc (text-read s a s₁ e₃, scan-gives spell_between betweens s₁ e₅)) e₆)

clause-was : (s : Bytes) (c : Clause) (r : Bytes) → read_clause [] s ≡ got c r → ClauseWas s c r
unfolding read_clause clause_text ClauseFits
clause-was s c r e =
    next-case (read_test [] s) _ e λ p s₁ e₁ e₂.
    let w : TestWas s p s₁ = test-was s p s₁ e₁ in
    either-case (ascii "=>") _ _ s₁ e₂
    (λ s₂ e₃ e₄. next-case (read_test [] s₂) _ e₄ λ q s₃ e₅ e₆.
    let v : TestWas s₂ q s₃ = test-was s₂ q s₃ e₅ in
    given (ClauseWas s) e₆ (simp append_assoc (cc), (w.1, v.1)))
    (λ e₄. given (ClauseWas s) e₄ w)

rule-was : (k : ℕ) (s : Bytes) (ρ : Rule) (r : Bytes) → read_rule [] k s ≡ got ρ r → RuleWas s ρ r
unfolding read_rule rule_text RuleFits
rule-was zero s ρ r e = never e
rule-was (suc k) s ρ r e =
    next-case (read_clause [] s) _ e λ c s₁ e₁ e₂.
    let w : ClauseWas s c s₁ = clause-was s c s₁ e₁ in
    either-case (ascii "^") _ _ s₁ e₂
    (λ s₂ e₃ e₄. next-case (read_rule [] k s₂) _ e₄ λ ρ₂ s₃ e₅ e₆.
    let v : RuleWas s₂ ρ₂ s₃ = rule-was k s₂ ρ₂ s₃ e₅ in
    given (RuleWas s) e₆ (simp append_assoc (cc), (w.1, v.1)))
    (λ e₄. given (RuleWas s) e₄ w)

pub whole-gives : {A : Type 0} (o : Read A) {a : A} → whole o ≡ some a → o ≡ got a []
unfolding whole
whole-gives fail e = cc
whole-gives (got b []) e = cc
whole-gives (got b (c ∷ s)) e = cc

-- A text that is read as a rule is that rule's text, and the rule's numbers are at most 64.
pub rule-text : (s : Bytes) (ρ : Rule) → rule_of s ≡ some ρ → (s ≡ rule_text [] ρ) × RuleFits ρ
unfolding rule_of
rule-text s ρ e =
    let w : RuleWas s ρ [] = rule-was (length s) s ρ [] (whole-gives (read_rule [] (length s) s) e) in
    (w.0 ∙ append-nil (rule_text [] ρ), w.1)

-- The bound on the clauses does not matter once it is the number of bytes.
pub rule-room : (k : ℕ) (s : Bytes) → length s ≤ k → whole (read_rule [] k s) ≡ rule_of s
unfolding rule_of whole
rule-room k s l = go (whole (read_rule [] k s)) (rule_of s) refl refl
  where
    go : (o p : Option Rule) → whole (read_rule [] k s) ≡ o → rule_of s ≡ p → whole (read_rule [] k s) ≡ rule_of s
    go none none e f = e ∙ sym f
    go (some ρ) p e f =
        let w : RuleWas s ρ [] = rule-was k s ρ [] (whole-gives (read_rule [] k s) e) in
        let q : s ≡ rule_text [] ρ = w.0 ∙ append-nil (rule_text [] ρ) in
        e ∙ sym (rw q (rule-back ρ w.1))
    go none (some ρ) e f =
        let w = rule-text s ρ f in
        let few : clause_count ρ ≤ k = omega (arith, clauses-few [] ρ, ap length w.0) in
        let g : read_rule [] k s ≡ got ρ [] = rw w.0 (read-rule [] k ρ w.1 few) in
        rw g (sym f)
