-- Document 01, "Rule text" and "Formula", above terms: tests, clauses, rules and formulas, how they are written and how they are read.
-- Assumes nothing.
use Rattle.std.specs.Prelude.{List, [], ◌∷◌, ◌++◌, true, false, ℕ, suc, zero, ◌+◌, ◌≤◌, ◌/◌, ◌%◌, ltb, length}
use Rattle.std.proofs.Math.Option.{Option, none, some}
use Rattle.syntax.specs.Bytes.{Bytes, ascii, Read, fail, got, Reader, ◌>>=◌, ◌>>◌, give, skip, scan, either}
use Rattle.syntax.specs.Term.{Term, base, call, oe, ao, two, Choices, digit, text, read_term}

-- What a rule is.

-- "a count compared by < <= > >= = !="
pub data Cmp : Type 0 where
  lt le gt ge eq ne : Cmp

pub data Sign : Type 0 where
  is isnt : Sign

-- "with a number 0 to 64 (no leading zero) or a count"; "A count is a term between two |".
pub data Count : Type 0 where
  number : ℕ → Count
  count : Term → Count

-- "term @ term (membership); term = or != term; term = or != {}; a count compared .."
pub data Test : Type 0 where
  member : Term → Term → Test
  alike : Sign → Term → Term → Test
  empty : Sign → Term → Test
  sized : Cmp → Term → Count → Test

-- "Clause: a test, or test => test."
pub data Clause : Type 0 where
  plain : Test → Clause
  when : Test → Test → Clause

-- "Rule: clauses joined by ^."
pub data Rule : Type 0 where
  last : Clause → Rule
  also : Clause → Rule → Rule

-- "a number 0 to 64": the numbers of a rule are at most 64.
unfoldable pub CountFits : Count → Type 0
CountFits (number n) = n ≤ 64
CountFits (count a) = Unit {0}

unfoldable pub TestFits : Test → Type 0
TestFits (member a b) = Unit {0}
TestFits (alike g a b) = Unit {0}
TestFits (empty g a) = Unit {0}
TestFits (sized c a k) = CountFits k

unfoldable pub ClauseFits : Clause → Type 0
ClauseFits (plain p) = TestFits p
ClauseFits (when p q) = TestFits p × TestFits q

unfoldable pub RuleFits : Rule → Type 0
RuleFits (last c) = ClauseFits c
RuleFits (also c ρ) = ClauseFits c × RuleFits ρ

-- How a rule is written.

unfoldable pub spell_cmp : Cmp → Bytes
spell_cmp lt = ascii "<"
spell_cmp le = ascii "<="
spell_cmp gt = ascii ">"
spell_cmp ge = ascii ">="
spell_cmp eq = ascii "="
spell_cmp ne = ascii "!="

-- What stands between the two terms of a test.
pub data Between : Type 0 where
  is_in : Between
  is_sign : Sign → Between

unfoldable pub spell_between : Between → Bytes
spell_between is_in = ascii "@"
spell_between (is_sign is) = ascii "="
spell_between (is_sign isnt) = ascii "!="

-- A number below 100, with no leading zero.
unfoldable pub digits : ℕ → Bytes
digits n = elim (ltb n 10) [ true ↦ (48 + n) ∷ [] | false ↦ (48 + n / 10) ∷ (48 + n % 10) ∷ [] ]

unfoldable pub count_text : Choices → Count → Bytes
count_text σ (number n) = digits n
count_text σ (count a) = ascii "|" ++ (text σ a ++ ascii "|")

unfoldable pub test_text : Choices → Test → Bytes
test_text σ (member a b) = text σ a ++ (spell_between is_in ++ text σ b)
test_text σ (alike g a b) = text σ a ++ (spell_between (is_sign g) ++ text σ b)
test_text σ (empty g a) = text σ a ++ (spell_between (is_sign g) ++ ascii "{}")
test_text σ (sized c a k) = ascii "|" ++ (text σ a ++ (ascii "|" ++ (spell_cmp c ++ count_text σ k)))

unfoldable pub clause_text : Choices → Clause → Bytes
clause_text σ (plain p) = test_text σ p
clause_text σ (when p q) = test_text σ p ++ (ascii "=>" ++ test_text σ q)

unfoldable pub rule_text : Choices → Rule → Bytes
rule_text σ (last c) = clause_text σ c
rule_text σ (also c ρ) = clause_text σ c ++ (ascii "^" ++ rule_text σ ρ)

-- "Choices are numbered v1, v2, .. in the order in which the closing bracket of their first OE or AO is read":
-- σ with the choices of a term, test, .. behind it.

unfoldable pub add : Choices → Term → Choices
add σ a = elim (digit σ a) [ none ↦ σ ++ (a ∷ []) | some _ ↦ σ ]

unfoldable pub vars : Choices → Term → Choices
vars σ (base b) = σ
vars σ (call f a) = vars σ a
vars σ (oe a) = add (vars σ a) a
vars σ (ao a) = add (vars σ a) a
vars σ (two o a b) = vars (vars σ a) b

unfoldable pub count_vars : Choices → Count → Choices
count_vars σ (number n) = σ
count_vars σ (count a) = vars σ a

unfoldable pub test_vars : Choices → Test → Choices
test_vars σ (member a b) = vars (vars σ a) b
test_vars σ (alike g a b) = vars (vars σ a) b
test_vars σ (empty g a) = vars σ a
test_vars σ (sized c a k) = count_vars (vars σ a) k

unfoldable pub clause_vars : Choices → Clause → Choices
clause_vars σ (plain p) = test_vars σ p
clause_vars σ (when p q) = test_vars (test_vars σ p) q

unfoldable pub rule_vars : Choices → Rule → Choices
rule_vars σ (last c) = clause_vars σ c
rule_vars σ (also c ρ) = rule_vars (clause_vars σ c) ρ

-- "The formula is [v1@X1][v2@X2]..: and the rule, with OE(X) as its variable and AO(X) as (X-{v}), X itself so rewritten; each quantifier
-- is written straight after the one before it." Here τ are all of the rule's choices, and d is the digit of the first of xs.
unfoldable pub quantifiers : Choices → ℕ → Choices → Bytes
quantifiers τ d [] = []
quantifiers τ d (x ∷ xs) = ascii "[v" ++ (d ∷ (ascii "@" ++ (text τ x ++ (ascii "]" ++ quantifiers τ (suc d) xs))))

-- "Without choices it begins `:`."
unfoldable pub formula_with : Choices → Rule → Bytes
formula_with τ ρ = quantifiers τ 49 τ ++ (ascii ":" ++ rule_text τ ρ)

unfoldable pub formula : Rule → Bytes
formula ρ = formula_with (rule_vars [] ρ) ρ

-- How a rule is read. The numbers n and k bound how many clauses and quantifiers there are; the number of bytes is enough for both.

unfoldable pub cmps : List Cmp
cmps = le ∷ lt ∷ ge ∷ gt ∷ eq ∷ ne ∷ []

unfoldable pub betweens : List Between
betweens = is_in ∷ is_sign is ∷ is_sign isnt ∷ []

unfoldable pub down : ℕ → List ℕ
down zero = zero ∷ []
down (suc n) = suc n ∷ down n

-- The largest number up to 64 whose digits stand in front.
abbrev pub read_number : Reader ℕ
read_number = scan digits (down 64)

module _ (σ : Choices) where
  unfoldable pub read_count : Reader Count
  read_count =
      either (ascii "|")
      (do b ← read_term σ; skip (ascii "|"); give (count b))
      (do k ← read_number; give (number k))

  unfoldable pub read_second : Term → Between → Reader Test
  read_second a is_in = do b ← read_term σ; give (member a b)
  read_second a (is_sign g) = either (ascii "{}") (give (empty g a)) (do b ← read_term σ; give (alike g a b))

  unfoldable pub read_test : Reader Test
  read_test =
      either (ascii "|")
      (do a ← read_term σ; skip (ascii "|"); c ← scan spell_cmp cmps; k ← read_count; give (sized c a k))
      (do a ← read_term σ; m ← scan spell_between betweens; read_second a m)

  unfoldable pub read_clause : Reader Clause
  read_clause = do p ← read_test; either (ascii "=>") (do q ← read_test; give (when p q)) (give (plain p))

  unfoldable pub read_rule : ℕ → Reader Rule
  read_rule zero = λ _. fail
  read_rule (suc k) = do c ← read_clause; either (ascii "^") (do ρ ← read_rule k; give (also c ρ)) (give (last c))

-- A formula, after the quantifiers of σ.
unfoldable pub read_formula : ℕ → ℕ → Choices → Reader Rule
read_formula n zero σ = λ _. fail
read_formula n (suc k) σ =
    either (ascii "[v")
    (do skip ((49 + length σ) ∷ []); skip (ascii "@"); x ← read_term σ; skip (ascii "]"); read_formula n k (σ ++ (x ∷ [])))
    (do skip (ascii ":"); read_rule σ n)

-- A whole text: nothing is left.
unfoldable pub whole : {A : Type 0} → Read A → Option A
whole fail = none
whole (got a []) = some a
whole (got a (c ∷ s)) = none

unfoldable pub rule_of : Bytes → Option Rule
rule_of s = whole (read_rule [] (length s) s)

unfoldable pub rule_of_formula : Bytes → Option Rule
rule_of_formula s = whole (read_formula (length s) (length s) [] s)
