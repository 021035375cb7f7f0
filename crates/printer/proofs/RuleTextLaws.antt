-- What is written for the test, the clause and the rule that a node holds, and for a quantifier.
-- Assumes nothing.
use mathlib.Core.Path.{◌≡◌, refl, ap, sym, ◌∙◌}
use mathlib.Core.List.{List, [], ◌∷◌, ◌++◌, append_assoc, append-nil}
use Prim.Native.Nat.{ℕ, suc, zero, ◌+◌, ◌%◌, ◌≤◌, ◌<◌}
use native.Mathlib.Omega.{arith}
use lib.ListN.{length, get_or, take, drop}
use Rattle.syntax.specs.Bytes.{Bytes, ascii}
use Rattle.syntax.specs.Term.{Term, Choices, text}
use Rattle.syntax.specs.Rule.{Cmp, lt, le, gt, ge, eq, ne, Sign, is, isnt, number, count, Test, member, alike, empty, sized}
use Rattle.syntax.specs.Rule.{Clause, plain, when, Rule, last, also, spell_cmp, spell_between, is_sign, digits, count_text, test_text, clause_text, rule_text}
use Rattle.syntax.specs.Code.Printing.{quantifiers_after}
use Rattle.syntax.specs.Code.Arena.{alike_op, empty_op, cmp_number, Holds, HoldsTest, HoldsClause}
use Rattle.syntax.specs.Code.Arena.{HoldsRule, HoldsAll}
use Rattle.syntax.specs.Code.Nodes.{member_op, first_empty, first_numbered, first_counted, when_op, also_op, op_at, left_at, right_at}
use Rattle.printer.specs.Code.Signs.{signs, sign_of, cmp_signs}
use Rattle.printer.specs.Code.Printed.{left_text, right_text, quantifier}
use Rattle.syntax.proofs.ArenaLaws.{one-parts, both-parts, numbered-parts}
use Rattle.printer.proofs.TextLaws.{Shown, AtBoth}
use Rattle.syntax.proofs.TestLaws.{cmp-small, alike-range, empty-range}

-- The operation of the node that holds a test.

unfoldable test_op : Test → ℕ
test_op (member a b) = member_op
test_op (alike g a b) = alike_op g
test_op (empty g a) = empty_op g
test_op (sized c a (number m)) = first_numbered + cmp_number c
test_op (sized c a (count b)) = first_counted + cmp_number c

test-op : (ns : List ℕ) (k : ℕ) (p : Test) → HoldsTest ns k p → op_at ns k ≡ test_op p
unfolding HoldsTest test_op
test-op ns k (member a b) x = (both-parts x.2 (omega arith)).op
test-op ns k (alike g a b) x = (both-parts x.2 (omega (arith, (alike-range g).1))).op
test-op ns k (empty g a) x = (one-parts x.1 (omega (arith, (empty-range g).1))).op
test-op ns k (sized c a (number m)) x = (numbered-parts x.1 (omega (arith, cmp-small c))).op
test-op ns k (sized c a (count b)) x = (both-parts x.2 (omega (arith, cmp-small c))).op

pub test-range : (ns : List ℕ) (k : ℕ) (p : Test) → HoldsTest ns k p → (member_op ≤ op_at ns k) × (op_at ns k < when_op)
unfolding test_op
test-range ns k (member a b) x = let e = test-op ns k (member a b) x in (omega arith, omega arith)
test-range ns k (alike g a b) x = let e = test-op ns k (alike g a b) x in let r = alike-range g in (omega arith, omega arith)
test-range ns k (empty g a) x = let e = test-op ns k (empty g a) x in let r = empty-range g in (omega arith, omega arith)
test-range ns k (sized c a (number m)) x = let e = test-op ns k (sized c a (number m)) x in let r = cmp-small c in (omega arith, omega arith)
test-range ns k (sized c a (count b)) x = let e = test-op ns k (sized c a (count b)) x in let r = cmp-small c in (omega arith, omega arith)

cmp-sign : (c : Cmp) → (sign_of (first_numbered + cmp_number c) ≡ spell_cmp c) × (sign_of (first_counted + cmp_number c) ≡ spell_cmp c)
unfolding signs cmp_signs cmp_number
cmp-sign lt = (refl, refl)
cmp-sign le = (refl, refl)
cmp-sign gt = (refl, refl)
cmp-sign ge = (refl, refl)
cmp-sign eq = (refl, refl)
cmp-sign ne = (refl, refl)

alike-sign : (g : Sign) → sign_of (alike_op g) ≡ spell_between (is_sign g)
unfolding signs alike_op
alike-sign is = refl
alike-sign isnt = refl

empty-sign : (g : Sign) → sign_of (empty_op g) ≡ spell_between (is_sign g)
unfolding signs empty_op
empty-sign is = refl
empty-sign isnt = refl

-- Node k, its operation and its indexes: how the test that it holds is written.
module _ (ns : List ℕ) (k : ℕ) (σ : Choices) where
  abbrev o : ℕ
  o = op_at ns k

  abbrev i : ℕ
  i = left_at ns k

  abbrev j : ℕ
  j = right_at ns k

  abbrev counted : Term → Bytes
  counted a = ascii "|" ++ (text σ a ++ ascii "|")

  sized-text : (a : Term) (u v : Bytes) → (counted a ++ u) ++ v ≡ ascii "|" ++ (text σ a ++ (ascii "|" ++ (u ++ v)))
  sized-text a u v = append_assoc (counted a) u v ∙ ap (λ (l : Bytes). ascii "|" ++ l) (append_assoc (text σ a) (ascii "|") (u ++ v))

  pub test-text : (p : Test) → HoldsTest ns k p → (left_text σ p ++ sign_of o) ++ right_text σ p ≡ test_text σ p
  unfolding test_text left_text right_text count_text test_op signs
  test-text (member a b) x = rw (test-op ns k (member a b) x) (append_assoc (text σ a) _ _)
  test-text (alike g a b) x = rw (test-op ns k (alike g a b) x, alike-sign g) (append_assoc (text σ a) _ _)
  test-text (empty g a) x = rw (test-op ns k (empty g a) x, empty-sign g) (append_assoc (text σ a) _ _)
  test-text (sized c a (number m)) x = rw (test-op ns k (sized c a (number m)) x, (cmp-sign c).0) (sized-text a (spell_cmp c) (digits m))
  test-text (sized c a (count b)) x = rw (test-op ns k (sized c a (count b)) x, (cmp-sign c).1) (sized-text a (spell_cmp c) (counted b))

  -- What the test has on either side, by the operation.

  pub left-term : (p : Test) → o < first_numbered → HoldsTest ns k p → Shown (Holds ns i) (text σ) (left_text σ p)
  unfolding left_text test_op HoldsTest
  left-term (member a b) h x = record { thing = a; held = rw (both-parts x.2 (omega arith)).left x.3; written = refl }
  left-term (alike g a b) h x = record { thing = a; held = rw (both-parts x.2 (omega (arith, (alike-range g).1))).left x.3; written = refl }
  left-term (empty g a) h x = record { thing = a; held = rw (one-parts x.1 (omega (arith, (empty-range g).1))).left x.2; written = refl }
  left-term (sized c a (number m)) h x = absurd (omega (arith, test-op ns k (sized c a (number m)) x))
  left-term (sized c a (count b)) h x = absurd (omega (arith, test-op ns k (sized c a (count b)) x))

  pub left-count : (p : Test) → first_numbered ≤ o → HoldsTest ns k p → Shown (Holds ns i) counted (left_text σ p)
  unfolding left_text count_text test_op HoldsTest
  left-count (member a b) h x = absurd (omega (arith, test-op ns k (member a b) x))
  left-count (alike g a b) h x = absurd (omega (arith, test-op ns k (alike g a b) x, (alike-range g).1))
  left-count (empty g a) h x = absurd (omega (arith, test-op ns k (empty g a) x, (empty-range g).1))
  left-count (sized c a (number m)) h x = record { thing = a; held = rw (numbered-parts x.1 (omega (arith, cmp-small c))).left x.2; written = refl }
  left-count (sized c a (count b)) h x = record { thing = a; held = rw (both-parts x.2 (omega (arith, cmp-small c))).left x.3; written = refl }

  pub right-term : (p : Test) → o < first_empty → HoldsTest ns k p → Shown (Holds ns j) (text σ) (right_text σ p)
  unfolding right_text test_op HoldsTest
  right-term (member a b) h x = record { thing = b; held = rw (both-parts x.2 (omega arith)).right x.4; written = refl }
  right-term (alike g a b) h x = record { thing = b; held = rw (both-parts x.2 (omega (arith, (alike-range g).1))).right x.4; written = refl }
  right-term (empty g a) h x = absurd (omega (arith, test-op ns k (empty g a) x, (empty-range g).0))
  right-term (sized c a (number m)) h x = absurd (omega (arith, test-op ns k (sized c a (number m)) x))
  right-term (sized c a (count b)) h x = absurd (omega (arith, test-op ns k (sized c a (count b)) x))

  pub right-empty : (p : Test) → first_empty ≤ o → o < first_numbered → HoldsTest ns k p → ascii "{}" ≡ right_text σ p
  unfolding right_text test_op
  right-empty (member a b) h l x = absurd (omega (arith, test-op ns k (member a b) x))
  right-empty (alike g a b) h l x = absurd (omega (arith, test-op ns k (alike g a b) x, (alike-range g).1))
  right-empty (empty g a) h l x = refl
  right-empty (sized c a (number m)) h l x = absurd (omega (arith, test-op ns k (sized c a (number m)) x))
  right-empty (sized c a (count b)) h l x = absurd (omega (arith, test-op ns k (sized c a (count b)) x))

  pub right-number : (p : Test) → first_numbered ≤ o → o < first_counted → HoldsTest ns k p → digits (j % 100) ≡ right_text σ p
  unfolding right_text count_text test_op HoldsTest
  right-number (member a b) h l x = absurd (omega (arith, test-op ns k (member a b) x))
  right-number (alike g a b) h l x = absurd (omega (arith, test-op ns k (alike g a b) x, (alike-range g).1))
  right-number (empty g a) h l x = absurd (omega (arith, test-op ns k (empty g a) x, (empty-range g).1))
  right-number (sized c a (number m)) h l x = ap digits (rw (numbered-parts x.1 (omega (arith, cmp-small c))).right (omega (arith, x.1.few)))
  right-number (sized c a (count b)) h l x = absurd (omega (arith, test-op ns k (sized c a (count b)) x))

  pub right-count : (p : Test) → first_counted ≤ o → HoldsTest ns k p → Shown (Holds ns j) counted (right_text σ p)
  unfolding right_text count_text test_op HoldsTest
  right-count (member a b) h x = absurd (omega (arith, test-op ns k (member a b) x))
  right-count (alike g a b) h x = absurd (omega (arith, test-op ns k (alike g a b) x, (alike-range g).1))
  right-count (empty g a) h x = absurd (omega (arith, test-op ns k (empty g a) x, (empty-range g).1))
  right-count (sized c a (number m)) h x = absurd (omega (arith, test-op ns k (sized c a (number m)) x, cmp-small c))
  right-count (sized c a (count b)) h x = record { thing = b; held = rw (both-parts x.2 (omega (arith, cmp-small c))).right x.4; written = refl }

  -- Clauses and rules.

  pub clause-plain : (c : Clause) → (o ≡ when_op → ⊥) → HoldsClause ns k c → Shown (HoldsTest ns k) (test_text σ) (clause_text σ c)
  unfolding HoldsClause clause_text
  clause-plain (plain p) h x = record { thing = p; held = x; written = refl }
  clause-plain (when p q) h x = absurd (h (both-parts x.2 (omega arith)).op)

  pub clause-when : (c : Clause) → o ≡ when_op → HoldsClause ns k c
      → Shown (AtBoth ns k σ (HoldsTest ns) (HoldsTest ns)) (λ (t : Test × Test). (test_text σ t.0 ++ ascii "=>") ++ test_text σ t.1) (clause_text σ c)
  unfolding HoldsClause clause_text
  clause-when (plain p) h x = absurd (omega (arith, (test-range ns k p x).1))
  clause-when (when p q) h x =
      let y = both-parts x.2 (omega arith) in
      record { thing = (p, q); held = (rw y.left x.3, rw y.right x.4); written = append_assoc (test_text σ p) _ _ }

  clause-range : (c : Clause) → HoldsClause ns k c → o < also_op
  unfolding HoldsClause
  clause-range (plain p) x = omega (arith, (test-range ns k p x).1)
  clause-range (when p q) x = omega (arith, (both-parts x.2 (omega arith)).op)

  pub rule-last : (ρ : Rule) → (o ≡ also_op → ⊥) → HoldsRule ns k ρ → Shown (HoldsClause ns k) (clause_text σ) (rule_text σ ρ)
  unfolding HoldsRule rule_text
  rule-last (last c) h x = record { thing = c; held = x; written = refl }
  rule-last (also c ρ) h x = absurd (h (both-parts x.2 (omega arith)).op)

  pub rule-also : (ρ : Rule) → o ≡ also_op → HoldsRule ns k ρ
      → Shown (AtBoth ns k σ (HoldsClause ns) (HoldsRule ns)) (λ (t : Clause × Rule). (clause_text σ t.0 ++ ascii "^") ++ rule_text σ t.1) (rule_text σ ρ)
  unfolding HoldsRule rule_text
  rule-also (last c) h x = absurd (omega (arith, clause-range c x))
  rule-also (also c ρ) h x =
      let y = both-parts x.2 (omega arith) in
      record { thing = (c, ρ); held = (rw y.left x.3, rw y.right x.4); written = append_assoc (clause_text σ c) _ _ }

-- Choices by their nodes: the one of index d, and those before it.

pub record Split (ns vs : List ℕ) (σ : Choices) (d : ℕ) : Type 0 where
  pub term : Term
  pub holds : Holds ns (get_or vs d 0) term
  pub before : HoldsAll ns (take d vs) (take d σ)
  pub rest : drop d σ ≡ term ∷ drop (suc d) σ
  pub upto : take (suc d) σ ≡ take d σ ++ (term ∷ [])

pub split : (ns vs : List ℕ) (σ : Choices) (d : ℕ) → d < length vs → HoldsAll ns vs σ → Split ns vs σ d
split ns [] σ d h y = absurd (omega arith)
split ns (v ∷ vs) [] d h y = absurd y
split ns (v ∷ vs) (a ∷ σ) zero h y = record { term = a; holds = y.0; before = tt; rest = refl; upto = refl }
split ns (v ∷ vs) (a ∷ σ) (suc d) h y =
    let s = split ns vs σ d (omega arith) y.1 in
    record { term = s.term; holds = s.holds; before = (y.0, s.before); rest = s.rest; upto = ap (λ (l : Choices). a ∷ l) s.upto }

-- The quantifiers of some choices, and then one more.
pub quantifiers-more : (σ τ : Choices) (x : Term) → quantifiers_after σ τ ++ quantifier (σ ++ τ) x ≡ quantifiers_after σ (τ ++ (x ∷ []))
unfolding quantifier quantifiers_after
quantifiers-more σ [] x = ap (λ (l : Choices). quantifier l x) (append-nil σ)
quantifiers-more σ (y ∷ τ) x =
    let rest = quantifiers_after (σ ++ (y ∷ [])) τ in
    let more : rest ++ quantifier (σ ++ (y ∷ τ)) x ≡ quantifiers_after (σ ++ (y ∷ [])) (τ ++ (x ∷ [])) =
    ap (λ (l : Choices). rest ++ quantifier l x) (sym (append_assoc σ (y ∷ []) τ)) ∙ quantifiers-more (σ ++ (y ∷ [])) τ x in
    ap (λ (l : Bytes). ascii "[v" ++ ((49 + length σ) ∷ (ascii "@" ++ l)))
    (append_assoc (text σ y) (ascii "]" ++ rest) _ ∙ ap (λ (l : Bytes). text σ y ++ (ascii "]" ++ l)) more)
