-- Evaluating by a plan: the value of a node by its word, the test of a level's clauses, and that nothing outside the slices is read.
-- Assumes nothing.
use mathlib.Core.Path.{◌≡◌, refl, sym, ap, ◌∙◌}
use mathlib.Core.Bool.{Bool, true, false, not, ◌&&◌, and-false}
use mathlib.Core.List.{List, []}
use Prim.Native.Nat.{ℕ, ◌+◌, ◌<◌, ◌≤◌}
use native.Mathlib.Omega.{arith}
use borrow.Author.Tests.{eq-eqb, ne_eqb, le-leb, lt-leb}
use lib.Dec.{leb}
use lib.ListN.{length, get_or}
use Rattle.words.specs.Words.{item_of, less_of}
use Rattle.words.specs.Words.{any_to}
use Rattle.words.proofs.WordsLaws.{and_both, any_here, any_none, any-ext}
use Rattle.tables.specs.Tables.{Tables}
use Rattle.syntax.specs.Term.{Term, Choices}
use Rattle.syntax.specs.Rule.{Clause, plain, when, Rule, rule_vars}
use Rattle.syntax.specs.Code.Arena.{Holds, Low, Down, Tidy}
use Rattle.syntax.specs.Code.Nodes.{first_call, oe_op, ao_op, first_pair, member_op, op_at, left_at, right_at, operation_of, left_of, right_of}
use Rattle.rules.specs.Kind.{base_kind}
use Rattle.rules.specs.Code.Numbers.{kinds_fit, kind_of}
use Rattle.walks.specs.Code.Clauses.{level_is, false_to}
use Rattle.walks.proofs.ClauseLaws.{test_in, test-out}
use Rattle.values.specs.Items.{kind_items}
use Rattle.values.specs.Values.{value, call_value, one_value, two_value}
use Rattle.values.specs.Truth.{clause_true}
use Rattle.values.specs.Code.Nodes.{base_at, fn_at, pair_at, World}
use Rattle.values.specs.Code.Cache.{Fed}
use Rattle.values.specs.Code.Clauses.{clause_at, ClauseNodes}
use Rattle.values.specs.Code.Plan.{node_in, kind_in, variable_in, plan_length, plan_room, Step, Runs, NodesIn, ClausesIn, level_from_on, false_at}
use Rattle.values.proofs.NodeLaws.{term-small}
use Rattle.values.proofs.ValueLaws.{fed-left, fed-right, value-base, value-one, value-call, value-others, value-two}
use Rattle.values.proofs.TruthLaws.{low-more, low-none}
use Rattle.values.proofs.ClausesLaws.{clauses_of}

-- ---- the value of a node by its word

module _ {ts ns : List ℕ} {n : ℕ} {ks vs next : List ℕ} {k w : ℕ} {T : Tables} {σ : Choices} (d : Tidy ns n) (long : n ≤ length ks) (h : k < n)
    (S : Step ns ks vs next k w) (W : World ts ns n ks vs T σ) (c : List ℕ) (t : Term) (x : Holds ns k t) (op : ℕ) (eo : op ≡ operation_of (node_in w)) where
  op-is : op ≡ op_at ns k
  op-is = eo ∙ ap operation_of S.node

  pub step_small : op < member_op
  step_small = omega (arith, op-is, term-small ns k t x)

  pub step-base : (r : ℕ) → op < first_call → r ≡ kind_items T (base_kind (base_at op)) → r ≡ value T σ c t
  step-base r m e = value-base d long W c k h t x op-is m e

  pub step-one : (i r : ℕ) → op ≡ oe_op → i ≡ get_or c (variable_in w) 0 → (kind_in w < kinds_fit → r ≡ one_value T (kind_of (kind_in w)) i) → r ≡ value T σ c t
  step-one i r m f g =
      let o : first_call ≤ op_at ns k = omega (arith, op-is) in
      value-one d long W c k h t x op-is refl i r m (rw (S.variable o) at f) (rw (S.kind o) at g)

  module _ (cache : List ℕ) (F : Fed T σ c ns cache k) (left : ℕ) (el : left ≡ left_of (node_in w)) where
    left_is : left ≡ left_at ns k
    left_is = el ∙ ap left_of S.node

    pub step_call : (r : ℕ) → first_call ≤ op → op < oe_op → (kind_in w < kinds_fit → r ≡ call_value T (fn_at op) (kind_of (kind_in w)) (get_or cache left 0)) → r ≡ value T σ c t
    step_call r m m' g =
        let o : first_call ≤ op_at ns k = omega (arith, op-is) in
        value-call d long W c k h t x op-is left_is (get_or cache left 0) r m m' (fed-left F op-is left_is m (λ e. omega arith)) (rw (S.kind o, ← left_is) at g)

    pub step-others : (i j r : ℕ) → op ≡ ao_op → i ≡ get_or c (variable_in w) 0 → j ≡ item_of i → r ≡ less_of (get_or cache left 0) j → r ≡ value T σ c t
    step-others i j r m f g s =
        let o : first_call ≤ op_at ns k = omega (arith, op-is) in
        value-others d long W c k h t x op-is left_is (get_or cache left 0) i j r m (fed-left F op-is left_is (omega arith) (λ e. omega arith))
        (rw (S.variable o, ← left_is) at f) g s

    pub step-two : (right r : ℕ) → right ≡ right_of (node_in w) → first_pair ≤ op → r ≡ two_value T (pair_at op) (get_or cache left 0) (get_or cache right 0) → r ≡ value T σ c t
    step-two right r er m g =
        let right_is : right ≡ right_at ns k = er ∙ ap right_of S.node in
        value-two d long W c k h t x op-is left_is right_is (get_or cache left 0) (get_or cache right 0) r m
        (fed-left F op-is left_is (omega arith) (λ e. omega arith)) (fed-right F op-is right_is m) g

-- ---- the test of a level's clauses, one by one

module _ (T : Tables) (ρ : Rule) (levels : List ℕ) (d from : ℕ) (c : List ℕ) where
  -- among the first m, from `from` on
  abbrev pub false_among : ℕ → Bool
  false_among m = any_to m (λ i. level_from_on levels d from i && not (clause_true T (rule_vars [] ρ) c (clause_at ρ i)))

  pub holds-start : false_among from ≡ not true
  holds-start =
      any_none from (λ i. level_from_on levels d from i && not (clause_true T (rule_vars [] ρ) c (clause_at ρ i)))
      (λ i l. ap (λ (b : Bool). (b && level_is levels d i) && not (clause_true T (rule_vars [] ρ) c (clause_at ρ i))) (lt-leb from i l))

  -- a clause of the level, which holds; and one of another level
  module _ (i : ℕ) (q : false_among i ≡ not true) where
    pub holds-true : (t : Bool) → from ≤ i → get_or levels i 0 ≡ d → t ≡ clause_true T (rule_vars [] ρ) c (clause_at ρ i) → t ≡ true → false_among (i + 1) ≡ not true
    unfolding false_to
    holds-true t l e f s = test_in (clauses_of T ρ) (level_from_on levels d from) c i true t (and_both (le-leb from i l) (eq-eqb (get_or levels i 0) d e)) f q ∙ ap not s

    pub holds-out : (get_or levels i 0 ≡ d → ⊥) → false_among (i + 1) ≡ not true
    unfolding false_to
    holds-out e = test-out (clauses_of T ρ) (level_from_on levels d from) c i true (ap (λ (b : Bool). leb from i && b) (ne_eqb (get_or levels i 0) d e) ∙ and-false (leb from i)) q

  -- one that does not
  pub holds-false : (m i : ℕ) → i < m → (t : Bool) → from ≤ i → get_or levels i 0 ≡ d → t ≡ clause_true T (rule_vars [] ρ) c (clause_at ρ i) → t ≡ false → false_among m ≡ not false
  holds-false m i l t h e f s =
      any_here m (λ j. level_from_on levels d from j && not (clause_true T (rule_vars [] ρ) c (clause_at ρ j))) i l
      (and_both (and_both (le-leb from i h) (eq-eqb (get_or levels i 0) d e)) (ap not (sym f ∙ s)))

-- from the first on they are all
pub holds-all : (T : Tables) (ρ : Rule) (levels : List ℕ) (d : ℕ) (c : List ℕ) (m : ℕ) → false_among T ρ levels d 0 c m ≡ false_at T ρ levels d c m
holds-all T ρ levels d c m =
    any-ext m (λ i. level_from_on levels d 0 i && not (clause_true T (rule_vars [] ρ) c (clause_at ρ i))) (λ i. level_is levels d i && not (clause_true T (rule_vars [] ρ) c (clause_at ρ i)))
    (λ i l. ap (λ (b : Bool). (b && level_is levels d i) && not (clause_true T (rule_vars [] ρ) c (clause_at ρ i))) (le-leb 0 i (omega arith)))

-- ---- what is in a plan keeps evaluating within its slices

pub clause-low : (ns : List ℕ) (n first second : ℕ) (q : Clause) → ClauseNodes ns n first second q → Low first n × Low second n
unfolding ClauseNodes
clause-low ns n first second (plain p) x = (x.0.low, rw x.1 (low-none n))
clause-low ns n first second (when p q) x = (x.0.low, x.1.low)

pub runs : {plan ns : List ℕ} {n : ℕ} {ks vs levels : List ℕ} {ρ : Rule} → length plan ≡ plan_length → n ≤ plan_room → NodesIn plan ns n ks vs levels → ClausesIn plan ns n ρ → Runs plan
unfolding Down
runs {plan} {ns} {n} {ρ = ρ} long small N C = record {
  long = long;
  few_nodes = omega (arith, N.many);
  nodes = λ k l. let m : k < n = omega (arith, N.many) in rw (N.each k m).node (low-more (N.tidy.down k m) (omega arith));
  up = λ k l. let m : k < n = omega (arith, N.many) in omega (arith, (N.each k m).goes, (N.linked.each k m).start);
  few_clauses = omega (arith, C.many, C.few);
  firsts = λ i l. low-more (clause-low ns n _ _ (clause_at ρ i) (C.each i (omega (arith, C.many)))).0 small;
  seconds = λ i l. low-more (clause-low ns n _ _ (clause_at ρ i) (C.each i (omega (arith, C.many)))).1 small;
}
