-- The counts of gathered lines, from nothing chosen: each line's own, whatever the order.
-- Assumes nothing.
use mathlib.Core.Path.{◌≡◌, refl, sym, ap, fun_ext, ◌∙◌}
use mathlib.Core.Bool.{Bool, true, false, not, cond, ◌||◌}
use mathlib.Core.List.{List, []}
use Prim.Native.Nat.{ℕ, ◌+◌, ◌*◌, ◌-◌, ◌<◌, ◌≤◌, ◌^◌}
use native.Mathlib.Omega.{arith}
use borrow.Author.Tests.{leb-true, ltb-true, le-leb, lt-ltb}
use lib.Dec.{leb, ltb}
use lib.ListN.{length, get_or, take, drop, replicate, length-replicate, get_or-replicate}
use lib.Seq.{length-take-le, get_or-take}
use Rattle.words.specs.Words.{has, any_to, all_of, less_of}
use Rattle.words.proofs.WordsLaws.{both, and-true, and_both, any_here, any-witness, has_all, has_in, all-lt}
use Rattle.tables.specs.Tables.{Tables}
use Rattle.syntax.specs.Term.{Choices}
use Rattle.syntax.specs.Rule.{Rule, rule_vars}
use Rattle.rules.specs.declared.Parsed.{Parsed}
use Rattle.walks.specs.Choices.{each, if_breaks, count_full, nothing_chosen}
use Rattle.walks.specs.Meaning.{Admissible}
use Rattle.walks.specs.Walk.{walk}
use Rattle.walks.specs.Code.Clauses.{false_to, false_in, breaks_any, level_is}
use Rattle.walks.specs.Code.Kept.{choice_of, Unwritten}
use Rattle.walks.proofs.AmongLaws.{walk-counts}
use Rattle.walks.proofs.BytesLaws.{nothing-word}
use Rattle.walks.proofs.ClauseLaws.{mode-start, mode-step}
use Rattle.walks.proofs.TurningLaws.{counted-breaks}
use Rattle.values.specs.Sets.{items_of, in_set, names, breaks}
use Rattle.values.specs.Truth.{clause_true}
use Rattle.values.specs.Code.Clauses.{clause_count, clause_at}
use Rattle.values.specs.Code.Plan.{levels_from}
use Rattle.values.proofs.ClausesLaws.{clauses_of, rule-breaks}
use Rattle.values.proofs.ReadsLaws.{sets-read}
use Rattle.judging.specs.Code.Planning.{Caches}
use Rattle.judging.specs.Code.Counting.{depth_of, no_choice}
use Rattle.judging.specs.Code.Lent.{InSorts, vars_of, CaseBy, LentBy}
use Rattle.judging.specs.Code.Walking.{Lays}
use Rattle.judging.proofs.WalkingLaws.{as_many}
use Rattle.judging.proofs.DescendLaws.{keeps-none}
use Rattle.sharing.specs.Code.Part.{Part}
use Rattle.sharing.specs.Code.Lines.{within, line_of, lines_limit, whole_slots, from_of, to_of, Held, clauses_in, Grouped, CountedFor, full_below, KeptFor, Lines, Fails, StaysFor}
use Rattle.sharing.specs.Code.Laying.{context_in, Plotted, LaysLines}
use Rattle.sharing.specs.Code.Together.{Starting, Totals, full_of, breaking_of, Ranges, CountsAll}
use Rattle.sharing.proofs.WalkLaws.{open-line, closed-line, line-out, not-not, line-levelled, fails-line, line-counts, line_small}

-- All lines, as a word.
pub every-line : (many : ℕ) → many ≤ lines_limit → Lines (all_of many) many
every-line many few = record {
  small = all-lt many;
  few = few;
  inside = λ l a. ltb-true l many (sym (has_all many l (has_in (all_of many) 64 l (all-lt many) a)) ∙ a);
}

pub is-line : (many l : ℕ) → many ≤ lines_limit → l < many → has (all_of many) l ≡ true
is-line many l few m = has_all many l (omega arith) ∙ lt-ltb l many m

module _ {ts plan lines : List ℕ} {many : ℕ} {h : Held} (G : Grouped ts plan lines many h) where
  -- nothing is kept yet
  pub kept_fresh : (kept : List ℕ) → 3 * whole_slots ≤ length kept → Unwritten (length kept) kept → KeptFor plan lines many h kept
  kept_fresh kept long none = record {
    whole = keeps-none G.planned (take (3 * whole_slots) kept) (λ j l.
        let m : j < 3 * whole_slots = omega (arith, length-take-le (3 * whole_slots) kept long) in
        get_or-take (3 * whole_slots) kept j 0 m ∙ none j (omega arith));
    each = λ e l i lo m k fits there c lc a. absurd (there (none _ (omega arith)));
  }

  -- the first level was looked at, and what is below nothing chosen counted
  module _ {closed next left full : ℕ} {cache kept zeros after kept' under : List ℕ} (few : many ≤ lines_limit) (S : Caches ts h.layout no_choice cache (0 + 1))
      (K : KeptFor plan lines many h kept) (F : Fails plan lines cache (all_of many) 0 closed) (top : depth_of plan left ≡ 0)
      (B : StaysFor ts plan lines next many left no_choice cache kept zeros after kept' under full) where
    pub first-full : full ≡ full_below h 0 (choice_of no_choice)
    first-full = rw top at (B.goes h G (rw top S) K).0

    open-first : (l : ℕ) → has next l ≡ true → CountedFor plan lines h l 0 (choice_of no_choice) full (get_or under l 0)
    open-first l n = rw top at ((B.goes h G (rw top S) K).1 l n)

    module _ (en : next ≡ less_of (all_of many) closed) (l : ℕ) (m : l < many) where
      open-here : has closed l ≡ false → CountedFor plan lines h l 0 (choice_of no_choice) full (get_or under l 0)
      open-here f = open-first l (rw en (open-line (every-line many few) closed l (is-line many l few m) f))

      pub first_small : ((k : ℕ) → get_or zeros k 0 ≡ 0) → get_or under l 0 ≤ 64 ^ 8
      first_small z = go (has closed l) refl
        where
          go : (b : Bool) → has closed l ≡ b → get_or under l 0 ≤ 64 ^ 8
          go true e = omega (arith, B.other l (rw en (closed-line (every-line many few) closed l (is-line many l few m) e)), z l)
          go false e = (line_small G l 0 (open-here e)).1

      -- the line's breaking choices
      pub first-breaking : (b old : ℕ) → old ≡ 0 → b ≡ old + cond (has closed l) full (get_or under l 0)
          → b ≡ walk 64 (in_set h.tables (rule_vars [] h.rule)) (if_breaks (breaks_any (clauses_in lines h l))) h.layout.order (choice_of no_choice)
      first-breaking b old z e =
          let c : List ℕ = choice_of no_choice in
          let ok : Bool = not (has closed l) in
          let test : false_in (clauses_in lines h l) (level_is (drop levels_from plan) 0) c ≡ not ok =
          fails-line G no_choice 0 S F l m (is-line many l few m) ∙ sym (not-not (has closed l)) in
          let C = line-counts G l 0 c closed full (get_or under l 0) first-full open-here (has closed l) refl in
          let M = mode-step (clauses_in lines h l) (drop levels_from plan) 1 0 c ok (mode-start (clauses_in lines h l) (drop levels_from plan) c) test in
          let here : b ≡ cond (has closed l) full (get_or under l 0) = omega (arith, e, z) in
          here ∙ counted-breaks (in_set h.tables (rule_vars [] h.rule)) (clauses_in lines h l) (drop levels_from plan) h.layout.order (line-levelled G l) M C

-- ---- a line's own rule

module _ (T : Tables) {ρ κ : Rule} {from to : ℕ} (p : Part ρ κ from to) where
  -- it breaks where one of its clauses among those of the whole is false
  module _ (c : List ℕ) where
    abbrev truth : ℕ → Bool
    truth i = clause_true T (rule_vars [] ρ) c (clause_at ρ i)

    abbrev own : ℕ → Bool
    own j = clause_true T (rule_vars [] κ) c (clause_at κ j)

    same_truth : (j : ℕ) → j < clause_count κ → truth (from + j) ≡ own j
    same_truth j l =
        ap (clause_true T (rule_vars [] ρ) c) (p.each j l) ∙ ap (λ (σ : Choices). clause_true T σ c (clause_at κ j)) (sym p.vars)

    there : any_to (clause_count ρ) (λ i. not (truth i || not (within from to i))) ≡ true → any_to (clause_count κ) (λ j. not (own j)) ≡ true
    there q =
        let w = any-witness (clause_count ρ) (λ i. not (truth i || not (within from to i))) q in
        let i : ℕ = w.0 in
        let o = and-true (not (truth i)) (within from to i) (sym (line-out (truth i) (within from to i)) ∙ w.2) in
        let b = and-true (leb from i) (ltb i to) o.1 in
        let low : from ≤ i = leb-true from i b.0 in
        let high : i < to = ltb-true i to b.1 in
        let j : ℕ = i - from in
        let at : i ≡ from + j = omega arith in
        let few : j < clause_count κ = omega (arith, p.many) in
        any_here (clause_count κ) (λ j. not (own j)) j few (ap not (sym (same_truth j few)) ∙ ap (λ (k : ℕ). not (truth k)) (sym at) ∙ o.0)

    back : any_to (clause_count κ) (λ j. not (own j)) ≡ true → any_to (clause_count ρ) (λ i. not (truth i || not (within from to i))) ≡ true
    back q =
        let w = any-witness (clause_count κ) (λ j. not (own j)) q in
        let j : ℕ = w.0 in
        any_here (clause_count ρ) (λ i. not (truth i || not (within from to i))) (from + j) (omega (arith, w.1, p.many, p.fits))
        (line-out (truth (from + j)) (within from to (from + j))
        ∙ and_both (ap not (same_truth j w.1) ∙ w.2) (and_both (le-leb from (from + j) (omega arith)) (lt-ltb (from + j) to (omega (arith, w.1, p.many)))))

    breaks-here : breaks_any (line_of (clauses_of T ρ) from to) c ≡ breaks_any (clauses_of T κ) c
    unfolding false_in false_to
    breaks-here = both _ _ there back

  part-breaks : breaks_any (line_of (clauses_of T ρ) from to) ≡ breaks T (rule_vars [] κ) κ
  part-breaks = fun_ext breaks-here ∙ rule-breaks T κ

  -- its counts are those of a walk along any order of the whole's variables
  module _ (order : List ℕ) (ok : Admissible (names (rule_vars [] ρ)) (length (rule_vars [] ρ)) order) (few : length (rule_vars [] ρ) ≤ 8) (sorts : InSorts T ρ) where
    counted : (g : List ℕ → ℕ) → walk 64 (in_set T (rule_vars [] ρ)) g order (choice_of no_choice)
        ≡ count_full (items_of T (rule_vars [] κ)) (in_set T (rule_vars [] κ)) g (length (rule_vars [] κ)) nothing_chosen
    counted g =
        ap (walk 64 (in_set T (rule_vars [] ρ)) g order) nothing-word
        ∙ walk-counts (items_of T (rule_vars [] ρ)) (in_set T (rule_vars [] ρ)) (length (rule_vars [] ρ)) sorts g nothing_chosen few (names (rule_vars [] ρ)) (sets-read T (rule_vars [] ρ)) order ok
        ∙ ap (λ (σ : Choices). count_full (items_of T σ) (in_set T σ) g (length σ) nothing_chosen) (sym p.vars)

    pub part-full : (full : ℕ) → full ≡ walk 64 (in_set T (rule_vars [] ρ)) each order (choice_of no_choice) → full ≡ full_of T κ
    part-full full e = e ∙ counted each

    pub part-breaking : (b : ℕ) → b ≡ walk 64 (in_set T (rule_vars [] ρ)) (if_breaks (breaks_any (line_of (clauses_of T ρ) from to))) order (choice_of no_choice) → b ≡ breaking_of T κ
    part-breaking b e =
        e ∙ counted (if_breaks (breaks_any (line_of (clauses_of T ρ) from to)))
        ∙ ap (λ (k : List ℕ → Bool). count_full (items_of T (rule_vars [] κ)) (in_set T (rule_vars [] κ)) (if_breaks k) (length (rule_vars [] κ)) nothing_chosen) part-breaks

-- ---- from the plan of the whole to the counts of the lines

module _ {ts : List ℕ} {p : Parsed} {order plan : List ℕ} (L : LentBy ts p) (Y : Lays ts p order 0 plan) where
  -- the plan is laid of the parsed rule's own nodes
  pub plotted : length (vars_of p) ≡ p.count → Plotted p plan
  plotted long =
      let T = L.lent.tables in
      let ρ = L.lent.rule in
      let C = L.lent.is_case in
      record {
        words = ts;
        layout = (Y.along T ρ C).layout;
        tables = T;
        rule = ρ;
        planned = (Y.along T ρ C).planned;
        own = Y.own T ρ C;
        few = L.few;
        many = ap length (Y.own T ρ C).vars ∙ long;
      }

  module _ {starts lines : List ℕ} {many : ℕ} (Z : LaysLines p plan starts many lines) (R : Ranges p starts many) where
    abbrev held : (T : Tables) (ρ : Rule) → CaseBy ts p T ρ → Held
    held T ρ C = record { layout = (Y.along T ρ C).layout; tables = T; rule = ρ; context = context_in lines }

    grouped : (T : Tables) (ρ : Rule) (C : CaseBy ts p T ρ) → Grouped ts plan lines many (held T ρ C)
    grouped T ρ C = Z.right ts (Y.along T ρ C).layout T ρ (Y.along T ρ C).planned (Y.own T ρ C) (R ρ C.holds)

    pub starting : many ≤ lines_limit → (n : ℕ) → 3 * whole_slots ≤ n → {breaking : List ℕ} → length breaking ≡ lines_limit → ((l : ℕ) → get_or breaking l 0 ≡ 0)
        → Starting ts plan lines many (replicate {A = ℕ} n 0) breaking
    starting few n long size none = record {
      held = held L.lent.tables L.lent.rule L.lent.is_case;
      grouped = grouped L.lent.tables L.lent.rule L.lent.is_case;
      long = Z.long;
      few = few;
      slots = omega (arith, length-replicate {A = ℕ} n 0);
      fresh = λ j l. get_or-replicate {A = ℕ} n j 0 0 (omega (arith, length-replicate {A = ℕ} n 0));
      counts = size;
      none = none;
    }

    pub counts_all : {breaking : List ℕ} {full : ℕ} → Totals ts plan lines many breaking full → CountsAll ts p starts many breaking full
    counts_all W T ρ C l m κ q =
        let A = Y.along T ρ C in
        let r = W.goes (held T ρ C) (grouped T ρ C) in
        let part : Part ρ κ (from_of lines l) (to_of lines l) = rw (Z.from l m, Z.to l m) q in
        let ok : Admissible (names (rule_vars [] ρ)) (length (rule_vars [] ρ)) A.layout.order = record { once = A.once; after = A.planned.after } in
        let few : length (rule_vars [] ρ) ≤ 8 = omega (arith, as_many C L.lent.few, L.lent.few) in
        (part-full T part A.layout.order ok few C.sorts _ r.0, part-breaking T part A.layout.order ok few C.sorts _ (r.1 l m))
