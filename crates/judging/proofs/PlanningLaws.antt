-- Filling in a plan: one number more, the words of nodes and clauses, and the words that contexts are joined from.
-- Assumes nothing.
use mathlib.Core.Path.{◌≡◌, refl, sym, ap, ◌∙◌}
use mathlib.Core.Bool.{Bool}
use mathlib.Core.List.{List}
use Prim.Native.Nat.{ℕ, suc, ◌+◌, ◌*◌, ◌/◌, ◌%◌, ◌<◌, ◌≤◌, ◌^◌}
use native.Mathlib.Decide.{ℕ_discrete}
use native.Mathlib.Omega.{arith}
use lib.ListN.{length, get_or, set, drop, length-set}
use lib.Seq.{get_or-set_same, get_or-set_other, get_or-drop}
use Rattle.words.specs.Words.{has, join_of}
use Rattle.words.proofs.WordsLaws.{join-lt}
use Rattle.syntax.specs.Rule.{Clause, plain, when, Rule, last, also}
use Rattle.syntax.specs.Code.Arena.{HoldsClause, HoldsRule}
use Rattle.syntax.specs.Code.Nodes.{first_call, also_op, op_at, left_at, right_at}
use Rattle.syntax.proofs.ArenaLaws.{both-parts}
use Rattle.walks.specs.Code.Context.{Covers}
use Rattle.walks.proofs.ContextLaws.{covers-left, covers-right}
use Rattle.rules.specs.Code.Variables.{place_in}
use Rattle.values.specs.Code.Clauses.{clause_count, clause_at, TestsAt}
use Rattle.values.specs.Code.Plan.{plan_room, levels_from, step_of, node_in, kind_in, variable_in, next_in, first_in, second_in, Step}
use Rattle.values.proofs.TruthLaws.{test-range}
use Rattle.judging.specs.Code.Planning.{contexts_from, Filled, Noted, ClauseWord, SetsNamedFrom, ClausesNamed, ContextWord}

-- ---- one number more

pub filled_none : (old : List ℕ) (at : ℕ) {P : ℕ → ℕ → Type 0} → Filled old old at 0 P
filled_none old at = record { long = refl; inside = λ i l. absurd (omega arith); outside = λ j h. refl }

pub filled_more : {old new : List ℕ} {at i : ℕ} {P : ℕ → ℕ → Type 0} → Filled old new at i P → at + i < length old → (v : ℕ) → P i v
    → Filled old (set new (at + i) v) at (i + 1) P
filled_more {old} {new} {at} {i} {P} F l v p = record {
  long = length-set new (at + i) v ∙ F.long;
  inside = λ j k. go j k (ℕ_discrete j i);
  outside = λ j h. get_or-set_other new (at + i) j v 0 (λ q. omega (arith, h (omega arith))) ∙ F.outside j (λ k. omega (arith, h k));
}
  where
    go : (j : ℕ) → j < i + 1 → Dec (j ≡ i) → P j (get_or (set new (at + i) v) (at + j) 0)
    go j k (yes e) = rw (e, get_or-set_same new (at + i) v 0 (omega (arith, F.long))) p
    go j k (no ne) = rw (get_or-set_other new (at + i) (at + j) v 0 (λ q. ne (omega arith))) (F.inside j (omega arith))

-- what holds of each word of a part
pub filled-as : {old new : List ℕ} {at n : ℕ} {P Q : ℕ → ℕ → Type 0} → Filled old new at n P → ((i w : ℕ) → i < n → P i w → Q i w) → Filled old new at n Q
filled-as F f = record { long = F.long; inside = λ i l. f i _ l (F.inside i l); outside = F.outside }

-- ---- the words

module _ (v kind variable next : ℕ) (lv : v < 4294967296) (lk : kind < 256) (lu : variable < 16) where
  node-part : node_in (step_of v kind variable next) ≡ v
  node-part = omega arith

  above : step_of v kind variable next / 4294967296 ≡ kind + 256 * (variable + 16 * next)
  above = omega arith

  above-kind : step_of v kind variable next / 1099511627776 ≡ variable + 16 * next
  above-kind = omega arith

  kind-part : kind_in (step_of v kind variable next) ≡ kind
  kind-part = rw above (omega arith)

  variable-part : variable_in (step_of v kind variable next) ≡ variable
  variable-part = rw above-kind (omega arith)

  next-part : next_in (step_of v kind variable next) ≡ next
  next-part = omega arith

  pub step-made : {ns ks vs nexts : List ℕ} {k : ℕ} (w : ℕ) → w ≡ step_of v kind variable next → v ≡ get_or ns k 0 → next ≡ get_or nexts k 0
      → (first_call ≤ op_at ns k → kind ≡ get_or ks (left_at ns k) 0) → (first_call ≤ op_at ns k → variable ≡ place_in (left_at ns k) vs) → Step ns ks vs nexts k w
  step-made w e a b f g = record {
    node = ap node_in e ∙ node-part ∙ a;
    kind = λ l. ap kind_in e ∙ kind-part ∙ f l;
    variable = λ l. ap variable_in e ∙ variable-part ∙ g l;
    goes = ap next_in e ∙ next-part ∙ b;
  }

-- ---- clauses along a rule

-- From node `at` on stand the rule's clauses from the i-th on.
pub record Rest (ns : List ℕ) (ρ : Rule) (i at : ℕ) : Type 0 where
  pub rule : Rule
  pub holds : HoldsRule ns at rule
  pub many : clause_count ρ ≡ i + clause_count rule
  pub same : (j : ℕ) → clause_at ρ (i + j) ≡ clause_at rule j

clause-op : (ns : List ℕ) (k : ℕ) (q : Clause) → HoldsClause ns k q → op_at ns k < also_op
unfolding HoldsClause
clause-op ns k (plain p) x = omega (arith, (test-range ns k p x).most)
clause-op ns k (when p q) x = omega (arith, (both-parts x.2 (omega arith)).op)

module _ (ns : List ℕ) (ρ : Rule) (i at : ℕ) where
  here : (π : Rule) → clause_at ρ (i + 0) ≡ clause_at π 0 → clause_at ρ i ≡ clause_at π 0
  here π e = let z : i ≡ i + 0 = omega arith in ap (clause_at ρ) z ∙ e

  -- a clause, and more behind it
  also-parts : (π : Rule) → HoldsRule ns at π → clause_count ρ ≡ i + clause_count π → ((j : ℕ) → clause_at ρ (i + j) ≡ clause_at π j) → op_at ns at ≡ also_op
      → HoldsClause ns (left_at ns at) (clause_at ρ i) × Rest ns ρ (i + 1) (right_at ns at)
  unfolding HoldsRule clause_count clause_at
  also-parts (last q) x m s o = absurd (omega (arith, clause-op ns at q x))
  also-parts (also q π) x m s o =
      let y = both-parts x.2 (omega arith) in
      let front : HoldsClause ns (left_at ns at) q = rw y.left x.3 in
      let back : HoldsRule ns (right_at ns at) π = rw y.right x.4 in (
        rw (here (also q π) (s 0)) front,
        record {
          rule = π;
          holds = back;
          many = omega arith;
          same = λ j. let z : i + 1 + j ≡ i + suc j = omega arith in ap (clause_at ρ) z ∙ s (suc j);
        },
      )

  last-parts : (π : Rule) → HoldsRule ns at π → clause_count ρ ≡ i + clause_count π → ((j : ℕ) → clause_at ρ (i + j) ≡ clause_at π j) → (op_at ns at ≡ also_op → ⊥)
      → HoldsClause ns at (clause_at ρ i) × (clause_count ρ ≡ i + 1)
  unfolding HoldsRule clause_count clause_at
  last-parts (last q) x m s o = (rw (here (last q) (s 0)) x, omega arith)
  last-parts (also q π) x m s o = absurd (o (both-parts x.2 (omega arith)).op)

  pub rest-also : Rest ns ρ i at → op_at ns at ≡ also_op → HoldsClause ns (left_at ns at) (clause_at ρ i) × Rest ns ρ (i + 1) (right_at ns at)
  rest-also R o = also-parts R.rule R.holds R.many R.same o

  pub rest-last : Rest ns ρ i at → (op_at ns at ≡ also_op → ⊥) → HoldsClause ns at (clause_at ρ i) × (clause_count ρ ≡ i + 1)
  rest-last R o = last-parts R.rule R.holds R.many R.same o

pub clause-made : {ns : List ℕ} {n root i k w : ℕ} → TestsAt ns n k (first_in w) (second_in w)
    → ((ρ : Rule) → HoldsRule ns root ρ → HoldsClause ns k (clause_at ρ i)) → ClauseWord ns n root i w
clause-made {i = i} t h = record { low = t.low; low₂ = t.low₂; clause = λ ρ x m. t.tests (clause_at ρ i) (h ρ x) }

-- ---- words joined

pub joined-left : (a b r : ℕ) (f : ℕ → Bool) → r ≡ join_of a b → a < 2 ^ 64 → Covers a f → Covers r f
joined-left a b r f e l h = rw e (covers-left a b f l h)

pub joined-right : (a b r : ℕ) → r ≡ join_of a b → b < 2 ^ 64 → Covers r (has b)
joined-right a b r e l = rw e (covers-right a b (has b) l (λ u h. h))

pub joined_small : (a b r : ℕ) → r ≡ join_of a b → r < 2 ^ 64
joined_small a b r e = rw e (join-lt a b)

-- ---- what a context has

pub context-both : (names levels scopes order : List ℕ) (many at a b r : ℕ) → a < 2 ^ 64 → b < 2 ^ 64 → r ≡ join_of a b → SetsNamedFrom names order (at % 8) a
    → ClausesNamed levels scopes 0 many (at % 8) b → ContextWord names levels scopes order many at r
context-both names levels scopes order many at a b r la lb e h k = record {
  sets = λ j l m. rw e (covers-left a b (has (get_or names (get_or order j 0) 0)) la (h j l m));
  clauses = λ o i n l m. rw e (covers-right a b (has (get_or scopes i 0)) lb (k i n l m));
}

-- It does not matter what else of the plan is filled in.
pub context-same : (names scopes order old new : List ℕ) (many at r : ℕ) → ((i : ℕ) → i < many → get_or (drop levels_from new) i 0 ≡ get_or (drop levels_from old) i 0)
    → ContextWord names (drop levels_from new) scopes order many at r → ContextWord names (drop levels_from old) scopes order many at r
context-same names scopes order old new many at r e c = record { sets = c.sets; clauses = λ o i n l m. c.clauses o i n l (rw (e i l) m) }

pub levels-same : (old new : List ℕ) (many k : ℕ) (P : ℕ → ℕ → Type 0) → many ≤ plan_room → Filled old new contexts_from k P
    → (i : ℕ) → i < many → get_or (drop levels_from new) i 0 ≡ get_or (drop levels_from old) i 0
levels-same old new many k P l F i m =
    get_or-drop levels_from new i 0 ∙ F.outside (levels_from + i) (λ h. absurd (omega arith)) ∙ sym (get_or-drop levels_from old i 0)

-- ---- what is noted for the search

pub noted-then : {a b c : List ℕ} → Noted a b → Noted b c → Noted a c
noted-then N M = record { long = M.long ∙ N.long; below = λ j l. M.below j l ∙ N.below j l }
