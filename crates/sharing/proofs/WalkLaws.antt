-- The counts of each line below a choice: what its clauses say there, one item of a variable more, and the last variable.
-- Assumes nothing.
use mathlib.Core.Path.{◌≡◌, refl, sym, ap, ◌∙◌}
use mathlib.Core.Bool.{Bool, true, false, not, cond, ◌&&◌, ◌||◌, true≢false}
use mathlib.Core.List.{List, [], ◌++◌}
use mathlib.Core.Logic.{◌⊎◌, inl, inr, ⊎_elim}
use Prim.Native.Nat.{ℕ, ◌+◌, ◌*◌, ◌-◌, ◌<◌, ◌≤◌, ◌^◌}
use native.Mathlib.Omega.{arith}
use borrow.Author.Tests.{ltb-true, lt-ltb, ne_eqb}
use lib.Dec.{leb, ltb, eqb}
use lib.ListN.{length, get_or, set, take, drop, replicate, length-replicate, get_or-replicate, get_or-eq_default}
use lib.Seq.{length_front, length-take-le, take_at, get_or-append-add, get_or-drop}
use Rattle.words.specs.Words.{has, any_to, word_of, item_of, less_of}
use Rattle.words.proofs.WordsLaws.{both, and-true, and_both, any_here, any-witness, any_word, word-self, has_in, has-less, less-lt}
use Rattle.rules.proofs.NodeLaws.{lt-or-le}
use Rattle.syntax.specs.Rule.{rule_vars}
use Rattle.walks.specs.Code.Clauses.{false_to, false_in, level_is, Levelled, weight_of, mode_of}
use Rattle.walks.specs.Code.Kept.{choice_of, Counted}
use Rattle.walks.specs.Code.Turning.{Turning}
use Rattle.walks.proofs.TurningLaws.{turning-step, turning-end, turning-room, counted-small, counted-whole}
use Rattle.values.specs.Sets.{in_set}
use Rattle.values.specs.Truth.{clause_true}
use Rattle.values.specs.Code.Clauses.{clause_count, clause_at}
use Rattle.values.specs.Code.Plan.{levels_from, level_from_on, SettlesBy}
use Rattle.judging.specs.Code.Planning.{order_from, Planned, Caches, Keeps}
use Rattle.judging.specs.Code.Counting.{depth_of}
use Rattle.judging.proofs.CountingLaws.{clause-values, caches-on, caches-back}
use Rattle.sharing.specs.Code.Lines.{within, lines_limit, from_of, to_of, Held, clauses_in, Grouped, CountedFor, full_below, whole_slots, slot_of, KeptFor, Looks, Lines, Ranged, Fails, Adds, StaysFor}
use Rattle.sharing.proofs.LineLaws.{hit-for}

-- ---- words of lines

-- A word that is not 0 has a line.
pub some_line : (w : ℕ) → w < 2 ^ 64 → (w ≡ 0 → ⊥) → (l : ℕ) × (has w l ≡ true)
some_line w small ne =
    let z : eqb (word_of 64 (has w)) 0 ≡ false = ne_eqb (word_of 64 (has w)) 0 (λ e. ne (sym (word-self 64 w small) ∙ e)) in
    let i = any-witness 64 (has w) (any_word 64 (has w) ∙ ap not z) in
    (i.0, i.2)

-- An array of zeros has nothing else, however far it is read.
pub zeros-none : (l : ℕ) → get_or (replicate {A = ℕ} lines_limit 0) l 0 ≡ 0
zeros-none l =
    ⊎_elim (λ (m : l < lines_limit). get_or-replicate {A = ℕ} lines_limit l 0 0 m)
    (λ (m : lines_limit ≤ l). get_or-eq_default (replicate {A = ℕ} lines_limit 0) 0 {n = l} (omega (arith, length-replicate {A = ℕ} lines_limit 0))) (lt-or-le l lines_limit)

-- The lines that are left where some were closed.
and-not : (a b : Bool) → (a && not b) ≡ true → (a ≡ true) × (b ≡ false)
and-not true false e = (refl, refl)
and-not true true e = absurd (true≢false (sym e))
and-not false b e = absurd (true≢false (sym e))

and_yes : (a b : Bool) → a ≡ true → b ≡ false → (a && not b) ≡ true
and_yes true false e f = refl
and_yes true true e f = absurd (true≢false f)
and_yes false b e f = absurd (true≢false (sym e))

and-closed : (a b : Bool) → b ≡ true → (a && not b) ≡ false
and-closed true true e = refl
and-closed false b e = refl
and-closed true false e = absurd (true≢false (sym e))

module _ {active many : ℕ} (L : Lines active many) (closed : ℕ) where
  pub open-line : (l : ℕ) → has active l ≡ true → has closed l ≡ false → has (less_of active closed) l ≡ true
  open-line l a b = has-less active closed l (has_in active 64 l L.small a) ∙ and_yes (has active l) (has closed l) a b

  pub closed-line : (l : ℕ) → has active l ≡ true → has closed l ≡ true → has (less_of active closed) l ≡ false
  closed-line l a b = has-less active closed l (has_in active 64 l L.small a) ∙ and-closed (has active l) (has closed l) b

  pub lines_left : (w : ℕ) → w ≡ less_of active closed → Lines w many
  lines_left w e = record {
    small = rw e (less-lt active closed);
    few = L.few;
    inside = λ l a.
        let b : has (less_of active closed) l ≡ true = rw e at a in
        L.inside l (and-not (has active l) (has closed l) (sym (has-less active closed l (has_in (less_of active closed) 64 l (less-lt active closed) b)) ∙ b)).0;
  }

pub true-or-false : (b : Bool) → (b ≡ true) ⊎ (b ≡ false)
true-or-false true = inl refl
true-or-false false = inr refl

-- What is missing is among the lines that were looked for.
pub outside-less : {lines kept : List ℕ} {many e active choice : ℕ} {old new : List ℕ} {r : ℕ} → Looks lines kept many e active choice old new r
    → (l : ℕ) → has active l ≡ false → has r l ≡ false
outside-less {r = r} H l a = ⊎_elim (λ m. absurd (true≢false (sym (H.inside l m) ∙ a))) (λ m. m) (true-or-false (has r l))

-- What is closed is among the lines that were looked at.
pub outside-closed : {plan lines cache : List ℕ} {active level r : ℕ} → Fails plan lines cache active level r → (l : ℕ) → has active l ≡ false → has r l ≡ false
outside-closed {r = r} F l a = ⊎_elim (λ m. absurd (true≢false (sym (F.inside l m) ∙ a))) (λ m. m) (true-or-false (has r l))

-- The last variable's lines that are closed have one more, and the others what they had.
pub adds-last : {closed : ℕ} {none old new : List ℕ} → Adds closed closed 1 none old new → (l : ℕ) → get_or new l 0 ≡ get_or old l 0 + cond (has closed l) 1 0
adds-last {closed} {none} {old} {new} A l = go (has closed l) refl
  where
    go : (b : Bool) → has closed l ≡ b → get_or new l 0 ≡ get_or old l 0 + cond b 1 0
    go true e = A.each l e ∙ ap (λ (b : Bool). get_or old l 0 + cond b 1 (get_or none l 0)) e
    go false e = omega (arith, A.other l e)

-- ---- the clauses of a line

pub line-out : (h w : Bool) → not (h || not w) ≡ (not h && w)
line-out true w = refl
line-out false true = refl
line-out false false = refl

pub not-not : (b : Bool) → not (not b) ≡ b
not-not true = refl
not-not false = refl

module _ {ts plan lines : List ℕ} {many : ℕ} {h : Held} (G : Grouped ts plan lines many h) where
  abbrev P : Planned ts plan h.layout h.tables h.rule
  P = G.planned

  pub line-levelled : (l : ℕ) → Levelled (clauses_in lines h l) h.layout.order (drop levels_from plan)
  line-levelled l = record {
    within = λ i m. P.levelled.within i m;
    above = λ i m j k e. P.levelled.above i m j k (and-true (within (from_of lines l) (to_of lines l) i) _ e).1;
  }

  pub ranged : length lines ≡ 512 → Ranged plan lines many
  ranged long = record {
    long = long;
    begins = λ l m. (G.each l m).begins;
    ends = λ l m. omega (arith, (G.each l m).ends, P.clauses.many);
  }

  -- a line's clauses of a level, under the choice whose values the cache has
  module _ (choice e : ℕ) {cache : List ℕ} (S : Caches ts h.layout choice cache (e + 1)) {active r : ℕ} (F : Fails plan lines cache active e r) where
    fails-among : (l : ℕ) → has active l ≡ true
        → any_to (to_of lines l) (λ i. level_from_on (drop levels_from plan) e (from_of lines l) i && not (clause_true h.tables (rule_vars [] h.rule) (choice_of choice) (clause_at h.rule i)))
        ≡ has r l
    fails-among l a =
        F.each l a h.layout.nodes h.layout.n h.rule P.clauses h.tables (choice_of choice) (clause-values P choice e S) ∙ not-not (has r l)

    pub fails-line : (l : ℕ) → l < many → has active l ≡ true → false_in (clauses_in lines h l) (level_is (drop levels_from plan) e) (choice_of choice) ≡ has r l
    unfolding false_in false_to
    fails-line l m a = both _ _ there back ∙ fails-among l a
      where
        from : ℕ
        from = from_of lines l

        to : ℕ
        to = to_of lines l

        true-at : ℕ → Bool
        true-at i = clause_true h.tables (rule_vars [] h.rule) (choice_of choice) (clause_at h.rule i)

        level : ℕ → Bool
        level = level_is (drop levels_from plan) e

        there : any_to (clause_count h.rule) (λ i. level i && not (true-at i || not (within from to i))) ≡ true
            → any_to to (λ i. level_from_on (drop levels_from plan) e from i && not (true-at i)) ≡ true
        there q =
            let w = any-witness (clause_count h.rule) (λ i. level i && not (true-at i || not (within from to i))) q in
            let i : ℕ = w.0 in
            let p = and-true (level i) (not (true-at i || not (within from to i))) w.2 in
            let o = and-true (not (true-at i)) (within from to i) (sym (line-out (true-at i) (within from to i)) ∙ p.1) in
            let b = and-true (leb from i) (ltb i to) o.1 in
            any_here to (λ i. level_from_on (drop levels_from plan) e from i && not (true-at i)) i (ltb-true i to b.1) (and_both (and_both b.0 p.0) o.0)

        back : any_to to (λ i. level_from_on (drop levels_from plan) e from i && not (true-at i)) ≡ true
            → any_to (clause_count h.rule) (λ i. level i && not (true-at i || not (within from to i))) ≡ true
        back q =
            let w = any-witness to (λ i. level_from_on (drop levels_from plan) e from i && not (true-at i)) q in
            let i : ℕ = w.0 in
            let p = and-true (level_from_on (drop levels_from plan) e from i) (not (true-at i)) w.2 in
            let f = and-true (leb from i) (level i) p.0 in
            any_here (clause_count h.rule) (λ i. level i && not (true-at i || not (within from to i))) i (omega (arith, w.1, (G.each l m).ends))
            (and_both f.1 (line-out (true-at i) (within from to i) ∙ and_both p.1 (and_both f.0 (lt-ltb i to w.1))))

  -- ---- counts

  -- the end of the order
  pub line-end : (l d choice : ℕ) → length h.layout.order ≤ d → (b : ℕ) → b ≡ 0 → CountedFor plan lines h l d (choice_of choice) 1 b
  line-end l d choice e b z =
      rw z (counted-whole (in_set h.tables (rule_vars [] h.rule)) (clauses_in lines h l) (drop levels_from plan) h.layout.order (line-levelled l) 1 d (omega arith) e (choice_of choice))

  -- no count is too large
  pub line_small : (l d : ℕ) {c : List ℕ} {full breaking : ℕ} → CountedFor plan lines h l d c full breaking → (full ≤ 64 ^ 8) × (breaking ≤ 64 ^ 8)
  line_small l d C = counted-small (in_set h.tables (rule_vars [] h.rule)) (clauses_in lines h l) (drop levels_from plan) h.layout.order P.turns.short C

  -- once a clause of the line is false, every full choice breaks it
  closed-counted : (l d : ℕ) (c : List ℕ) (full : ℕ) → full ≡ full_below h d c
      → Counted (in_set h.tables (rule_vars [] h.rule)) (clauses_in lines h l) (drop levels_from plan) h.layout.order 0 d c full full
  unfolding weight_of
  closed-counted l d c full e = record { fulls = e; breakings = e }

  pub full-small : (d : ℕ) (c : List ℕ) (full : ℕ) → full ≡ full_below h d c → full ≤ 64 ^ 8
  full-small d c full e =
      (counted-small (in_set h.tables (rule_vars [] h.rule)) (clauses_in lines h 0) (drop levels_from plan) h.layout.order P.turns.short (closed-counted 0 d c full e)).0

  -- ---- the loop over the items of the variable at depth d

  abbrev pub TurningFor : ℕ → ℕ → ℕ → ℕ → ℕ → ℕ → ℕ → Type 0
  TurningFor l d choice w rest full breaking =
      Turning (in_set h.tables (rule_vars [] h.rule)) (clauses_in lines h l) (drop levels_from plan) h.layout.order 1 d (choice_of choice) w rest full breaking

  module _ (l d choice w : ℕ) where
    pub turn_end : {rest full breaking : ℕ} → d < length h.layout.order
        → ((x : ℕ) → in_set h.tables (rule_vars [] h.rule) (get_or h.layout.order d 0) (choice_of choice) x ≡ has w x)
        → TurningFor l d choice w rest full breaking → rest ≡ 0 → CountedFor plan lines h l d (choice_of choice) full breaking
    turn_end lo e t z =
        turning-end (in_set h.tables (rule_vars [] h.rule)) (clauses_in lines h l) (drop levels_from plan) h.layout.order 1 d (choice_of choice) w lo e t z

  -- What is below an item, in the mode that its level leaves the line in.
  pub record ItemFor (l d choice chosen x closed sum u : ℕ) : Type 0 where
    pub test : false_in (clauses_in lines h l) (level_is (drop levels_from plan) (d + 1)) (set (choice_of choice) (get_or h.layout.order d 0) x) ≡ not (not (has closed l))
    pub counts : Counted (in_set h.tables (rule_vars [] h.rule)) (clauses_in lines h l) (drop levels_from plan) h.layout.order (mode_of 1 (not (has closed l))) (d + 1)
        (set (choice_of choice) (get_or h.layout.order d 0) x) sum (cond (has closed l) sum u)

  module _ {l d choice chosen x closed sum u : ℕ} (I : ItemFor l d choice chosen x closed sum u) (w : ℕ) {rest full breaking : ℕ}
      (t : TurningFor l d choice w rest full breaking) (lx : x < 64) (hx : has rest x ≡ true) where
    pub turn-next : TurningFor l d choice w (less_of rest (item_of x)) (full + sum) (breaking + cond (has closed l) sum u)
    turn-next =
        turning-step (in_set h.tables (rule_vars [] h.rule)) (clauses_in lines h l) (drop levels_from plan) h.layout.order 1 d (choice_of choice) w (line-levelled l) x
        (not (has closed l)) I.test sum (cond (has closed l) sum u) I.counts t lx hx

    pub turn-room : d < length h.layout.order → ((z : ℕ) → in_set h.tables (rule_vars [] h.rule) (get_or h.layout.order d 0) (choice_of choice) z ≡ has w z)
        → (full + sum ≤ 64 ^ 8) × (breaking + cond (has closed l) sum u ≤ 64 ^ 8)
    turn-room lo e =
        turning-room (in_set h.tables (rule_vars [] h.rule)) (clauses_in lines h l) (drop levels_from plan) h.layout.order 1 d (choice_of choice) w (line-levelled l) x
        (not (has closed l)) I.test sum (cond (has closed l) sum u) I.counts lo e P.turns.short t lx hx

  -- what is below a choice, in the mode that follows: counted for an open line, and all of it for a closed one
  pub line-counts : (l d : ℕ) (c : List ℕ) (closed sum u : ℕ) → sum ≡ full_below h d c → (has closed l ≡ false → CountedFor plan lines h l d c sum u) → (b : Bool) → has closed l ≡ b
      → Counted (in_set h.tables (rule_vars [] h.rule)) (clauses_in lines h l) (drop levels_from plan) h.layout.order (mode_of 1 (not b)) d c sum (cond b sum u)
  line-counts l d c closed sum u full C true e = closed-counted l d c sum full
  line-counts l d c closed sum u full C false e = C e

  -- The item is put and its level evaluated.
  pub entered-for : (choice x d chosen : ℕ) {old entered : List ℕ} → d < length h.layout.order → choice_of chosen ≡ set (choice_of choice) (get_or plan (order_from + d) 0) x
      → SettlesBy ts plan chosen (d + 1) old entered → Caches ts h.layout choice old (d + 1) → Caches ts h.layout chosen entered (d + 1 + 1)
  entered-for choice x d chosen lo place E S =
      E h.layout.nodes h.layout.n h.layout.kinds h.layout.vars h.layout.order h.layout.levels P.nodes P.level
      (caches-on P choice chosen x d lo (rw (P.turns.variables d lo) at place) S)

  -- One turn of the loop: the lines with a false clause are closed, and what is below counted for the others.
  pub record TurnFor (choice x d chosen active closed sum : ℕ) (under after kept : List ℕ) : Type 0 where
    pub items : (l : ℕ) → has active l ≡ true → ItemFor l d choice chosen x closed sum (get_or under l 0)
    pub caches : Caches ts h.layout choice after (d + 1)
    pub keeps : KeptFor plan lines many h kept
    pub full : sum ≤ 64 ^ 8
    pub small : (l : ℕ) → has active l ≡ true → get_or under l 0 ≤ 64 ^ 8

  pub turned-for : (choice x d left : ℕ) {chosen active closed next sum : ℕ} {old entered after kept kept' zeros under : List ℕ} → Lines active many → d < length h.layout.order
      → depth_of plan left ≡ d + 1 → choice_of chosen ≡ set (choice_of choice) (get_or plan (order_from + d) 0) x → SettlesBy ts plan chosen (d + 1) old entered
      → Fails plan lines entered active (d + 1) closed → next ≡ less_of active closed → StaysFor ts plan lines next many left chosen entered kept zeros after kept' under sum
      → ((l : ℕ) → get_or zeros l 0 ≡ 0) → Caches ts h.layout choice old (d + 1) → KeptFor plan lines many h kept
      → TurnFor choice x d chosen active closed sum under after kept'
  turned-for choice x d left {chosen} {active} {closed} {next} {sum} {old} {entered} {after} {kept} {kept'} {zeros} {under} L lo deep place E F en B z S K =
      let put = rw (P.turns.variables d lo) at place in
      let now-stored = entered-for choice x d chosen lo place E S in
      let r = B.goes h G (rw deep now-stored) K in
      let full : sum ≡ full_below h (d + 1) (choice_of chosen) = rw deep at r.0 in
      let open-counts : (l : ℕ) → has active l ≡ true → has closed l ≡ false → CountedFor plan lines h l (d + 1) (choice_of chosen) sum (get_or under l 0) =
      λ l a e. rw deep at (r.1 l (rw en (open-line L closed l a e))) in
      record {
        items = λ l a. record {
          test = rw (← put) (fails-line chosen (d + 1) now-stored F l (L.inside l a) a ∙ sym (not-not (has closed l)));
          counts = rw put at (line-counts l (d + 1) (choice_of chosen) closed sum (get_or under l 0) full (open-counts l a) (has closed l) refl);
        };
        caches = caches-back P choice chosen x d lo put (rw deep at r.2);
        keeps = r.3;
        full = full-small (d + 1) (choice_of chosen) sum full;
        small = λ l a. under-small l a (has closed l) refl (open-counts l a);
      }
    where
      under-small : (l : ℕ) → has active l ≡ true → (b : Bool) → has closed l ≡ b
          → (has closed l ≡ false → CountedFor plan lines h l (d + 1) (choice_of chosen) sum (get_or under l 0)) → get_or under l 0 ≤ 64 ^ 8
      under-small l a true e C = omega (arith, B.other l (rw en (closed-line L closed l a e)), z l)
      under-small l a false e C = (line_small l (d + 1) (C e)).1

  -- One turn of the last variable's loop: each item is one full choice.
  pub last-for : (choice x d : ℕ) {chosen active closed : ℕ} {old entered : List ℕ} → Lines active many → (lo : d < length h.layout.order) → length h.layout.order ≤ d + 1
      → (place : choice_of chosen ≡ set (choice_of choice) (get_or plan (order_from + d) 0) x) → SettlesBy ts plan chosen (d + 1) old entered
      → Fails plan lines entered active (d + 1) closed → Caches ts h.layout choice old (d + 1)
      → ((l : ℕ) → has active l ≡ true → ItemFor l d choice chosen x closed 1 0) × Caches ts h.layout choice entered (d + 1)
  last-for choice x d {chosen} {active} {closed} L lo end place E F S =
      let put = rw (P.turns.variables d lo) at place in
      let now-stored = entered-for choice x d chosen lo place E S in
      let whole : (l : ℕ) → CountedFor plan lines h l (d + 1) (choice_of chosen) 1 0 = λ l. line-end l (d + 1) chosen end 0 refl in (
        λ l a. record {
          test = rw (← put) (fails-line chosen (d + 1) now-stored F l (L.inside l a) a ∙ sym (not-not (has closed l)));
          counts = rw put at (line-counts l (d + 1) (choice_of chosen) closed 1 0 (whole l).fulls (λ e. whole l) (has closed l) refl);
        },
        caches-back P choice chosen x d lo put now-stored,
      )

  -- ---- what is kept

  -- the counts that are kept, of the lines of which nothing is missing, whatever count of full choices is right
  pub found-for : {kept : List ℕ} → KeptFor plan lines many h kept → (e choice : ℕ) {active r : ℕ} {old mid : List ℕ} → Lines active many → e + 1 < length h.layout.order
      → Looks lines kept many e active choice old mid r → (full : ℕ) → full ≡ full_below h (e + 1) (choice_of choice)
      → (l : ℕ) → has active l ≡ true → has r l ≡ false → (b : ℕ) → b ≡ get_or mid l 0 → CountedFor plan lines h l (e + 1) (choice_of choice) full b
  found-for K e choice L lo H full f l a m b q =
      record { fulls = f; breakings = q ∙ (hit-for G K e l choice _ lo (L.inside l a) (H.hits l a m)).breakings }

  -- what the rule's own counts keep is written over
  pub kept-front : {kept slots : List ℕ} → KeptFor plan lines many h kept → 3 * whole_slots ≤ length kept → Keeps plan h.layout h.tables h.rule slots
      → length slots ≡ length (take (3 * whole_slots) kept) → KeptFor plan lines many h (slots ++ drop (3 * whole_slots) kept)
  kept-front {kept} {slots} K long new size = record {
    whole = rw (take_at slots (drop (3 * whole_slots) kept) (3 * whole_slots) front) new;
    each = λ e l i lo m k fits there c lc a.
        let s : ℕ = slot_of many e l i in
        let e0 = behind (3 * s) (omega arith) in
        let e1 = behind (3 * s + 1) (omega arith) in
        let e2 = behind (3 * s + 2) (omega arith) in
        rw (e0, e1) (K.each e l i lo m k (omega (arith, length_front kept slots (3 * whole_slots) size)) (λ z. there (e0 ∙ z)) c lc (rw e2 at a));
  }
    where
      front : length slots ≡ 3 * whole_slots
      front = size ∙ length-take-le (3 * whole_slots) kept long

      behind : (j : ℕ) → 3 * whole_slots ≤ j → get_or (slots ++ drop (3 * whole_slots) kept) j 0 ≡ get_or kept j 0
      behind j l =
          let n : ℕ = j - 3 * whole_slots in
          let at : j ≡ length slots + n = omega (arith, front) in
          let at' : 3 * whole_slots + n ≡ j = omega arith in
          ap (λ (k : ℕ). get_or (slots ++ drop (3 * whole_slots) kept) k 0) at ∙ get_or-append-add slots (drop (3 * whole_slots) kept) n 0
          ∙ get_or-drop (3 * whole_slots) kept n 0 ∙ ap (λ (k : ℕ). get_or kept k 0) at'
