-- A plan filled in part by part holds all that it should.
-- Assumes nothing.
use mathlib.Core.Path.{◌≡◌, sym, ◌∙◌}
use mathlib.Core.Bool.{true, true≢false}
use mathlib.Core.List.{List, []}
use Prim.Native.Nat.{ℕ, zero, suc, ◌+◌, ◌*◌, ◌%◌, ◌<◌, ◌≤◌}
use native.Mathlib.Omega.{arith}
use borrow.Author.Tests.{leb-true}
use lib.ListN.{length, get_or, set, drop, length-set}
use lib.Seq.{get_or-set_same, get_or-set_other, get_or-drop}
use Rattle.words.specs.Words.{has}
use Rattle.tables.specs.Tables.{Tables}
use Rattle.tables.specs.Code.Layout.{Whole}
use Rattle.syntax.specs.Term.{Choices}
use Rattle.syntax.specs.Rule.{Rule, rule_vars}
use Rattle.syntax.specs.Code.Arena.{HoldsRule}
use Rattle.syntax.proofs.NameLaws.{all-length}
use Rattle.walks.specs.Meaning.{After}
use Rattle.walks.specs.Code.Context.{Covers, open_in, Context}
use Rattle.walks.specs.Code.Kept.{Masks}
use Rattle.walks.proofs.ContextLaws.{context-from}
use Rattle.values.specs.Sets.{set_of, names}
use Rattle.values.specs.Code.Clauses.{clause_at, clause_names}
use Rattle.values.specs.Code.Nodes.{World, Named, Variables}
use Rattle.values.specs.Code.Levels.{Level, Levels, Chained}
use Rattle.values.specs.Code.Plan.{plan_length, plan_room, clauses_from, levels_from, starts_from, nodes_at, clauses_at, Step}
use Rattle.values.proofs.ClausesLaws.{clauses_of, names-small, clause-small}
use Rattle.judging.specs.Code.Planning.{order_from, sets_from, contexts_from, masks_from, variables_at, Planned, Filled, Noted, ClauseWords, Scopes, ContextWord, Laid}

module _ {ns : List ℕ} {n : ℕ} {ks vs : List ℕ} {root : ℕ} {order : List ℕ} (L : Laid ns n ks vs root order) {heights first next words scopes : List ℕ}
    (levels : Levels ns n vs order heights) (chained : Chained n heights first next) (named : (σ : Choices) → Variables ns n vs σ → Named (length vs) words σ)
    {p0 p1 p2 p3 p4 p5 p6 p7 p8 p9 : List ℕ} {many : ℕ} (long : length p0 ≡ plan_length) (f1 : Filled p0 p1 0 n (Step ns ks vs next))
    (f2 : Filled p1 p2 starts_from 9 (λ d w. w ≡ get_or first d 0)) (f3 : ClauseWords ns n root p2 p3 many) (scoped : Scopes ns n vs p3 many scopes)
    (f4 : Filled p3 p4 levels_from many (λ i w. Level order (has (get_or scopes i 0)) w)) (f5 : Filled p4 p5 order_from (length order) (λ d w. w ≡ get_or order d 0))
    (f6 : Filled p5 p6 sets_from (length order) (λ d w. w ≡ get_or vs (get_or order d 0) 0))
    (f7 : Filled p6 p7 contexts_from 16 (λ at w. ContextWord words (drop levels_from p6) scopes order many at w))
    (f8 : Filled p7 p8 masks_from 16 (λ j w. Masks (get_or p7 (contexts_from + j) 0) w)) (f9 : Noted p8 p9) where
  -- The plan with its three counts.
  abbrev pub whole : List ℕ
  whole = set (set (set p9 nodes_at n) clauses_at many) variables_at (length order)

  long9 : length p9 ≡ plan_length
  long9 = f9.long ∙ f8.long ∙ f7.long ∙ f6.long ∙ f5.long ∙ f4.long ∙ f3.filled.long ∙ f2.long ∙ f1.long ∙ long

  whole_long : length whole ≡ plan_length
  whole_long = simp length-set long9

  -- What was filled in is there still.
  b8 : (j : ℕ) → j < nodes_at → get_or whole j 0 ≡ get_or p8 j 0
  b8 j l =
      get_or-set_other (set (set p9 nodes_at n) clauses_at many) variables_at j (length order) 0 (λ e. omega arith)
      ∙ get_or-set_other (set p9 nodes_at n) clauses_at j many 0 (λ e. omega arith) ∙ get_or-set_other p9 nodes_at j n 0 (λ e. omega arith) ∙ f9.below j (omega arith)

  b7 : (j : ℕ) → j < masks_from → get_or whole j 0 ≡ get_or p7 j 0
  b7 j l = b8 j (omega arith) ∙ f8.outside j (λ h. absurd (omega arith))

  b6 : (j : ℕ) → j < contexts_from → get_or whole j 0 ≡ get_or p6 j 0
  b6 j l = b7 j (omega arith) ∙ f7.outside j (λ h. absurd (omega arith))

  b5 : (j : ℕ) → j < sets_from → get_or whole j 0 ≡ get_or p5 j 0
  b5 j l = b6 j (omega arith) ∙ f6.outside j (λ h. absurd (omega arith))

  b4 : (j : ℕ) → j < order_from → get_or whole j 0 ≡ get_or p4 j 0
  b4 j l = b5 j (omega arith) ∙ f5.outside j (λ h. absurd (omega arith))

  b3 : (j : ℕ) → j < order_from → (levels_from ≤ j → starts_from ≤ j) → get_or whole j 0 ≡ get_or p3 j 0
  b3 j l k = b4 j l ∙ f4.outside j (λ h. omega (arith, k h, f3.small))

  b2 : (j : ℕ) → j < order_from → (clauses_from ≤ j → starts_from ≤ j) → get_or whole j 0 ≡ get_or p2 j 0
  b2 j l k = b3 j l (λ h. k (omega arith)) ∙ f3.filled.outside j (λ h. omega (arith, k h, f3.small))

  b1 : (j : ℕ) → j < clauses_from → get_or whole j 0 ≡ get_or p1 j 0
  b1 j l = b2 j (omega arith) (λ h. absurd (omega arith)) ∙ f2.outside j (λ h. absurd (omega arith))

  node-count : get_or whole nodes_at 0 ≡ n
  node-count =
      get_or-set_other (set (set p9 nodes_at n) clauses_at many) variables_at nodes_at (length order) 0 (λ e. omega arith)
      ∙ get_or-set_other (set p9 nodes_at n) clauses_at nodes_at many 0 (λ e. omega arith) ∙ get_or-set_same p9 nodes_at n 0 (omega (arith, long9))

  clause-count : get_or whole clauses_at 0 ≡ many
  clause-count =
      get_or-set_other (set (set p9 nodes_at n) clauses_at many) variables_at clauses_at (length order) 0 (λ e. omega arith)
      ∙ get_or-set_same (set p9 nodes_at n) clauses_at many 0 (simp length-set (omega (arith, long9)))

  variable-count : get_or whole variables_at 0 ≡ length order
  variable-count = get_or-set_same (set (set p9 nodes_at n) clauses_at many) variables_at (length order) 0 (simp length-set (omega (arith, long9)))

  level-word : (i : ℕ) → i < plan_room → get_or (drop levels_from whole) i 0 ≡ get_or p4 (levels_from + i) 0
  level-word i l = get_or-drop levels_from whole i 0 ∙ b4 (levels_from + i) (omega arith)

  -- the levels that contexts were made by
  level-same : (i : ℕ) → i < plan_room → get_or (drop levels_from whole) i 0 ≡ get_or (drop levels_from p6) i 0
  level-same i l = get_or-drop levels_from whole i 0 ∙ b6 (levels_from + i) (omega arith) ∙ sym (get_or-drop levels_from p6 i 0)

  module _ (ts : List ℕ) (T : Tables) (ρ : Rule) (full : Whole ts) (W : World ts ns n ks vs T (rule_vars [] ρ)) (x : HoldsRule ns root ρ)
      (after : After (names (rule_vars [] ρ)) order) (early : (i : ℕ) → i < length order → get_or heights (get_or vs (get_or order i 0) 0) 0 ≤ i) where
    σ-few : length (rule_vars [] ρ) ≤ 8
    σ-few = omega (arith, all-length ns vs (rule_vars [] ρ) W.variables.holds, L.few)

    clause-is : (i : ℕ) → i < many → (u : ℕ) → u < 64 → has (get_or scopes i 0) u ≡ clause_names (rule_vars [] ρ) (clause_at ρ i) u
    clause-is i l u m = scoped i l (rule_vars [] ρ) W.variables (clause_at ρ i) ((f3.filled.inside i l).clause ρ x (omega (arith, f3.many ρ x))) u m

    level-is : (i : ℕ) → i < many → Level order (has (get_or scopes i 0)) (get_or (drop levels_from whole) i 0)
    level-is i l = rw (level-word i (omega (arith, f3.small))) (f4.inside i l)

    context-word : (at : ℕ) → at < 16 → ContextWord words (drop levels_from p6) scopes order many at (get_or (drop contexts_from whole) at 0)
    context-word at l = rw (get_or-drop contexts_from whole at 0, b7 (contexts_from + at) (omega arith)) (f7.inside at l)

    -- what the words cover, the sets and the clauses do
    set-covered : (word v : ℕ) → v < length vs → Covers word (has (get_or words v 0)) → Covers word (names (rule_vars [] ρ) v)
    unfolding Named
    set-covered word v l h u e =
        let small = names-small (rule_vars [] ρ) (set_of (rule_vars [] ρ) v) u e in
        h u (named (rule_vars [] ρ) W.variables v u l (omega (arith, σ-few)) ∙ e)

    clause-covered : (word i : ℕ) → i < many → Covers word (has (get_or scopes i 0)) → Covers word (clause_names (rule_vars [] ρ) (clause_at ρ i))
    clause-covered word i l h u e =
        let small = clause-small (rule_vars [] ρ) (clause_at ρ i) u e in
        h u (clause-is i l u (omega (arith, σ-few)) ∙ e)

    -- a clause that still matters is above the depth
    open-high : (mode d i : ℕ) → open_in (drop levels_from whole) mode (d + 1) i ≡ true → (0 < mode) × (d < get_or (drop levels_from whole) i 0)
    open-high zero d i e = absurd (true≢false (sym e))
    open-high (suc m) d i e = (omega arith, omega (arith, leb-true (d + 1) (get_or (drop levels_from whole) i 0) e))

    contexts-right : (mode d : ℕ) → mode < 2 → d < length order
        → Context (names (rule_vars [] ρ)) (clauses_of T ρ) (open_in (drop levels_from whole) mode (d + 1)) (drop d order) (get_or (drop contexts_from whole) (8 * mode + d) 0)
    contexts-right mode d lm ld =
        let at : ℕ = 8 * mode + d in
        let few = L.short in
        let depth : at % 8 ≡ d = omega arith in
        let w = context-word at (omega arith) in
        let sets = rw depth at w.sets in
        context-from (names (rule_vars [] ρ)) (clauses_of T ρ) (open_in (drop levels_from whole) mode (d + 1)) order d (get_or (drop contexts_from whole) at 0)
        (λ j l m. set-covered (get_or (drop contexts_from whole) at 0) (get_or order j 0) (L.known j m) (sets j l m))
        (λ i l e.
        let k : i < many = omega (arith, f3.many ρ x) in
        let room : i < plan_room = omega (arith, f3.small) in
        let o = open-high mode d i e in
        let high : d < get_or (drop levels_from p6) i 0 = rw (level-same i room) at o.1 in
        let clauses = rw depth at (w.clauses (omega (arith, o.0))) in
        clause-covered (get_or (drop contexts_from whole) at 0) i k (clauses i (omega arith) k high))

    pub planned-by : Planned ts whole (record { nodes = ns; n = n; kinds = ks; vars = vs; order = order; levels = heights }) T ρ
    planned-by = record {
      world = W;
      whole = full;
      long = whole_long;
      small = L.small;
      nodes = record {
        many = node-count;
        tidy = L.tidy;
        kinded = L.kinded;
        next = next;
        each = λ k l. let z : 0 + k ≡ k = omega arith in rw (b1 k (omega (arith, L.small))) (rw z at (f1.inside k l));
        linked = chained.linked;
        starts = λ d l. rw (b2 (starts_from + d) (omega arith) (λ h. omega arith), f2.inside d l) (chained.starts d l);
      };
      level = levels;
      turns = record {
        many = variable-count;
        short = L.short;
        few = L.few;
        variables = λ d l. b5 (order_from + d) (omega (arith, L.short)) ∙ f5.inside d l;
        sets = λ d l. b6 (sets_from + d) (omega (arith, L.short)) ∙ f6.inside d l;
        known = L.known;
        nodes = L.nodes;
        early = early;
      };
      after = after;
      clauses = record {
        many = clause-count ∙ f3.many ρ x;
        few = omega (arith, f3.many ρ x, f3.small);
        each = λ i l.
            let k : i < many = omega (arith, f3.many ρ x) in
            rw (b3 (clauses_from + i) (omega (arith, f3.small)) (λ h. absurd (omega (arith, f3.small)))) ((f3.filled.inside i k).clause ρ x l);
      };
      levelled = record {
        within = λ i l. (level-is i (omega (arith, f3.many ρ x))).within;
        above = λ i l j m e.
            let k : i < many = omega (arith, f3.many ρ x) in
            let known = L.known j m in
            (level-is i k).above j m (clause-is i k (get_or order j 0) (omega (arith, L.few)) ∙ e);
      };
      contexts = contexts-right;
      masks = λ j l. rw (b7 (contexts_from + j) (omega arith), b8 (masks_from + j) (omega arith)) (f8.inside j l);
    }
