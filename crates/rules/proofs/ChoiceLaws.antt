-- Every variable of an accepted rule has a kind, and one that can be chosen from: a set or a collection.
-- Assumes nothing.
use mathlib.Core.Path.{◌≡◌, refl}
use mathlib.Core.List.{[], ◌∷◌}
use mathlib.Core.Option.{Option, none, some}
use mathlib.Core.Bool.{Bool, true, and-eq-true_iff}
use Prim.Native.Nat.{ℕ, zero, suc, ◌<◌}
use native.Mathlib.Omega.{arith}
use lib.ListN.{length, get_or}
use Rattle.syntax.specs.Bytes.{Bytes}
use Rattle.syntax.specs.Term.{b_u, Term, base, Choices}
use Rattle.syntax.specs.Rule.{Count, number, count, Test, member, alike, empty, sized, Clause, plain, when, Rule, last, also}
use Rattle.syntax.specs.Rule.{rule_vars, rule_of}
use Rattle.syntax.proofs.PartLaws.{All, CountHas, TestHas, ClauseHas, RuleHas, Passes, rule-all}
use Rattle.rules.specs.Accept.{refusal}
use Rattle.rules.specs.Kind.{Kind, Kind≟, element, set, collection, holds, call_kind, one_kind, others_kind, two_kind, with, kind, check, countable, is_member}
use Rattle.rules.specs.Kind.{count_kinds, test_kinds, clause_kinds, rule_kinds}
use Rattle.rules.proofs.AcceptLaws.{tree-kinds, accepted-tree}

-- A term that an item can be chosen from: "OE or AO of an element is kind 14".
pub record Choosable (t : Term) : Type 0 where
  pub is : Kind
  pub has : kind t ≡ some is
  pub many : countable is ≡ true

-- The kinds of the parts of a term that has one.
pub some_with : (o : Option Kind) (f : Kind → Option Kind) (l : Kind) → with o f ≡ some l → (k : Kind) × (o ≡ some k) × (f k ≡ some l)
some_with none f l e = let z : ◌≡◌ {A = ℕ} 0 1 = cc in absurd (omega arith)
some_with (some k) f l e = (k, refl, e)

true-check : (o : Option Kind) (f : Kind → Bool) → check o f ≡ true → (k : Kind) × (o ≡ some k) × (f k ≡ true)
true-check none f e = let z : ◌≡◌ {A = ℕ} 0 1 = cc in absurd (omega arith)
true-check (some k) f e = (k, refl, e)

one-many : (k l : Kind) → one_kind k ≡ some l → countable k ≡ true
unfolding one_kind countable
one-many (element s) l e = cc
one-many (set s) l e = refl
one-many (collection c) l e = refl

others-many : (k l : Kind) → others_kind k ≡ some l → countable k ≡ true
unfolding others_kind countable
others-many (element s) l e = cc
others-many (set s) l e = refl
others-many (collection c) l e = refl

-- A term has a kind where those inside it have one, and where its choices can be chosen from.
abbrev pub HasKind : Term → Type 0
HasKind t = (k : Kind) × (kind t ≡ some k)

passes : Passes HasKind Choosable
unfolding kind
passes =
    record {
      in_call = λ f a h. let q = some_with (kind a) (call_kind f) h.0 h.1 in (q.0, q.1);
      in_oe = λ a h. let q = some_with (kind a) one_kind h.0 h.1 in ((q.0, q.1), record { is = q.0; has = q.1; many = one-many q.0 h.0 q.2 });
      in_ao = λ a h. let q = some_with (kind a) others_kind h.0 h.1 in ((q.0, q.1), record { is = q.0; has = q.1; many = others-many q.0 h.0 q.2 });
      in_two = λ o a b h.
          let q = some_with (kind a) (λ k. with (kind b) (λ m. two_kind o k m)) h.0 h.1 in
          let p = some_with (kind b) (λ m. two_kind o q.0 m) h.0 q.2 in
          ((q.0, q.1), (p.0, p.1));
    }

-- The terms of tests, clauses and rules whose kinds fit have kinds.

has_one : (a : Term) (f : Kind → Bool) → check (kind a) f ≡ true → HasKind a
has_one a f e = let q = true-check (kind a) f e in (q.0, q.1)

has-two : (a b : Term) (f : Kind → Kind → Bool) → check (kind a) (λ k. check (kind b) (λ l. f k l)) ≡ true → HasKind a × HasKind b
has-two a b f e =
    let q = true-check (kind a) (λ k. check (kind b) (λ l. f k l)) e in
    ((q.0, q.1), has_one b (λ l. f q.0 l) q.2)

count-has : (k : Count) → count_kinds k ≡ true → CountHas HasKind k
unfolding count_kinds
count-has (number n) e = tt
count-has (count a) e = has_one a countable e

test_has : (p : Test) → test_kinds p ≡ true → TestHas HasKind p
unfolding test_kinds
test_has (member a b) e = has-two a b is_member e
test_has (alike s a b) e = has-two a b (λ k l. holds (Kind≟ k l)) e
test_has (empty s a) e = has_one a countable e
test_has (sized c a k) e =
    let q = (and-eq-true_iff (check (kind a) countable) (count_kinds k)).0 e in
    (has_one a countable q.0, count-has k q.1)

clause-has : (c : Clause) → clause_kinds c ≡ true → ClauseHas HasKind c
unfolding clause_kinds
clause-has (plain p) e = test_has p e
clause-has (when p q) e =
    let w = (and-eq-true_iff (test_kinds p) (test_kinds q)).0 e in
    (test_has p w.0, test_has q w.1)

rule-has : (ρ : Rule) → rule_kinds ρ ≡ true → RuleHas HasKind ρ
unfolding rule_kinds
rule-has (last c) e = clause-has c e
rule-has (also c ρ) e =
    let w = (and-eq-true_iff (clause_kinds c) (rule_kinds ρ)).0 e in
    (clause-has c w.0, rule-has ρ w.1)

-- So have those of an accepted rule.
pub accepted-kinds : (s : Bytes) (ρ : Rule) → refusal s ≡ none → rule_of s ≡ some ρ → RuleHas HasKind ρ
accepted-kinds s ρ e h = rule-has ρ (tree-kinds ρ (accepted-tree s ρ e h))

all-at : (σ : Choices) → All Choosable σ → (v : ℕ) → v < length σ → Choosable (get_or σ v (base b_u))
all-at [] g v l = absurd (omega arith)
all-at (x ∷ σ) g zero l = g.0
all-at (x ∷ σ) g (suc v) l = all-at σ g.1 v (omega arith)

-- THE THEOREM: the set of every variable of an accepted rule can be chosen from.
pub accepted-choosable : (s : Bytes) (ρ : Rule) → refusal s ≡ none → rule_of s ≡ some ρ
    → (v : ℕ) → v < length (rule_vars [] ρ) → Choosable (get_or (rule_vars [] ρ) v (base b_u))
accepted-choosable s ρ e h = all-at (rule_vars [] ρ) (rule-all HasKind Choosable passes [] ρ tt (accepted-kinds s ρ e h))
