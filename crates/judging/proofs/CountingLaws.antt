-- Counting by a plan: what the cache has as variables are chosen, what a level's clauses say, and the counts below a choice.
-- Assumes nothing.
use mathlib.Core.Path.{◌≡◌, refl, sym, ap, ◌∙◌}
use mathlib.Core.Bool.{Bool, true, false, not}
use mathlib.Core.List.{List, []}
use Prim.Native.Nat.{ℕ, zero, suc, ◌+◌, ◌*◌, ◌-◌, ◌<◌, ◌≤◌, ◌^◌}
use native.Mathlib.Omega.{arith}
use lib.ListN.{length, get_or, set, drop}
use lib.Seq.{get_or-set_other, get_or-drop}
use Rattle.words.specs.Words.{has, meet_of, less_of, item_of, size_of}
use Rattle.tables.specs.Tables.{Tables}
use Rattle.syntax.specs.Rule.{Rule, rule_vars}
use Rattle.walks.specs.Code.Clauses.{false_to, false_in, level_is, mode_of}
use Rattle.walks.specs.Code.Context.{Alike}
use Rattle.walks.specs.Code.Kept.{choice_of, Counted, unwritten, Keeping}
use Rattle.walks.proofs.BytesLaws.{bytes-length, alike-key}
use Rattle.walks.proofs.KeptLaws.{kept-hit, kept_on}
use Rattle.walks.proofs.TurningLaws.{turning-step, turning-end, turning-room, turning-last, counted-small, counted-whole}
use Rattle.values.specs.Values.{value}
use Rattle.values.specs.Sets.{set_of, in_set, names, names_in}
use Rattle.values.specs.Code.Levels.{Level}
use Rattle.values.specs.Code.Cache.{ValuedIn}
use Rattle.values.specs.Code.Clauses.{clause_count, clause_at, clause_names}
use Rattle.values.specs.Code.Plan.{plan_room, levels_from, Runs, false_at}
use Rattle.values.proofs.ClausesLaws.{clauses_of}
use Rattle.values.proofs.LevelLaws.{stored_other}
use Rattle.values.proofs.NamesLaws.{holds_at}
use Rattle.values.proofs.PlanLaws.{runs}
use Rattle.values.proofs.ReadsLaws.{sets-read}
use Rattle.judging.specs.Code.Planning.{order_from, sets_from, contexts_from, masks_from, Layout, Planned, Caches, Keeps}
use Rattle.judging.specs.Code.Counting.{SlotOf, depth_of, CountedAt, TurningAt, Entered, Enters, Counts}

-- What names no more has no higher level.
level-under : (order : List ℕ) (p q : ℕ → Bool) (r s : ℕ) → Level order p r → ((j : ℕ) → j < length order → q (get_or order j 0) ≡ true → j < s)
    → ((u : ℕ) → p u ≡ true → q u ≡ true) → r ≤ s
level-under order p q zero s l m h = omega arith
level-under order p q (suc r) s l m h =
    let one : suc r - 1 ≡ r = omega arith in
    omega (arith, m r (omega (arith, l.within)) (h (get_or order r 0) (rw one at (l.met (omega arith)))))

not-not : (b : Bool) → not (not b) ≡ b
not-not true = refl
not-not false = refl

mode-zero : (b : Bool) → 0 ≡ mode_of 0 b
mode-zero true = refl
mode-zero false = refl

module _ {ts plan : List ℕ} {y : Layout} {T : Tables} {ρ : Rule} (P : Planned ts plan y T ρ) where
  pub plan-runs : Runs plan
  plan-runs = runs P.long P.small P.nodes P.clauses

  -- The value of the next variable's set is in the cache.
  pub set-small : (d : ℕ) → d < length y.order → get_or plan (sets_from + d) 0 < plan_room
  set-small d l = omega (arith, P.turns.sets d l, P.turns.nodes (get_or y.order d 0) (P.turns.known d l), P.small)

  set_word : (choice : ℕ) {cache : List ℕ} (d : ℕ) → d < length y.order → Caches ts y choice cache (d + 1)
      → get_or cache (get_or plan (sets_from + d) 0) 0 ≡ value T (rule_vars [] ρ) (choice_of choice) (set_of (rule_vars [] ρ) (get_or y.order d 0))
  set_word choice d l S =
      let v : ℕ = get_or y.order d 0 in
      let known = P.turns.known d l in
      rw (P.turns.sets d l)
      (S.holds (get_or y.vars v 0) (P.turns.nodes v known) (omega (arith, P.turns.early d l)) T (rule_vars [] ρ) P.world (set_of (rule_vars [] ρ) v)
      (holds_at y.nodes y.vars (rule_vars [] ρ) P.world.variables.holds v known _))

  pub set-in : (choice : ℕ) {cache : List ℕ} (d : ℕ) → d < length y.order → Caches ts y choice cache (d + 1)
      → (x : ℕ) → in_set T (rule_vars [] ρ) (get_or y.order d 0) (choice_of choice) x ≡ has (get_or cache (get_or plan (sets_from + d) 0) 0) x
  set-in choice d l S x = ap (λ (w : ℕ). has w x) (sym (set_word choice d l S))

  -- An item for the variable at depth d leaves the levels up to d, and with it they are as without it.
  module _ (choice chosen x d : ℕ) (l : d < length y.order) (put : choice_of chosen ≡ set (choice_of choice) (get_or y.order d 0) x) where
    agree : (u : ℕ) → (u ≡ get_or y.order d 0 → ⊥) → get_or (choice_of choice) u 0 ≡ get_or (choice_of chosen) u 0
    agree u ne = rw put (sym (get_or-set_other (choice_of choice) (get_or y.order d 0) u x 0 ne))

    pub caches-on : {cache : List ℕ} → Caches ts y choice cache (d + 1) → Caches ts y chosen cache (d + 1)
    caches-on S = stored_other y.order d (get_or y.order d 0) (choice_of chosen) l refl P.level agree S

    pub caches-back : {cache : List ℕ} → Caches ts y chosen cache (d + 1 + 1) → Caches ts y choice cache (d + 1)
    caches-back S =
        stored_other y.order d (get_or y.order d 0) (choice_of choice) l refl P.level (λ u ne. sym (agree u ne))
        (record { long = S.long; holds = λ k h low. S.holds k h (omega arith) })

  -- ---- the clauses of a level

  pub clause-values : (choice : ℕ) {cache : List ℕ} (e : ℕ) → Caches ts y choice cache (e + 1) → (i : ℕ) → i < clause_count ρ → get_or (drop levels_from plan) i 0 ≡ e
      → ValuedIn y.nodes y.n cache T (rule_vars [] ρ) (choice_of choice) (clause_names (rule_vars [] ρ) (clause_at ρ i))
  clause-values choice e S i l q j m a z h =
      let low = level-under y.order (names_in (rule_vars [] ρ) a) (clause_names (rule_vars [] ρ) (clause_at ρ i)) (get_or y.levels j 0) (get_or (drop levels_from plan) i 0)
      (P.level.each j m (rule_vars [] ρ) P.world.variables a z) (P.levelled.above i l) h in
      S.holds j m (omega arith) T (rule_vars [] ρ) P.world a z

  module _ (mode e choice : ℕ) where
    -- once a clause is false the mode stays 0;
    pub entered-lost : mode ≡ 0 → Entered plan T ρ mode e choice 0
    entered-lost z =
        let b : Bool = false_in (clauses_of T ρ) (level_is (drop levels_from plan) e) (choice_of choice) in
        record { ok = not b; test = sym (not-not b); is = rw z (mode-zero (not b)) }

    -- before, it is 1 where the level's clauses hold.
    pub entered-held : mode < 2 → (mode ≡ 0 → ⊥) → (r : Bool) → false_at T ρ (drop levels_from plan) e (choice_of choice) (clause_count ρ) ≡ not r → r ≡ true → Entered plan T ρ mode e choice 1
    unfolding false_in false_to
    entered-held l ne r q h = record { ok = true; test = q ∙ ap not h; is = omega arith }

    pub entered-false : (r : Bool) → false_at T ρ (drop levels_from plan) e (choice_of choice) (clause_count ρ) ≡ not r → r ≡ false → Entered plan T ρ mode e choice 0
    unfolding false_in false_to
    entered-false r q h = record { ok = false; test = q ∙ ap not h; is = refl }

  -- ---- the counts below a choice

  module _ (mode d choice : ℕ) where
    pub below-whole : mode < 2 → length y.order ≤ d → CountedAt plan y T ρ mode d choice 1 (1 - mode)
    below-whole m l =
        counted-whole (in_set T (rule_vars [] ρ)) (clauses_of T ρ) (drop levels_from plan) y.order P.levelled mode d (omega arith) l (choice_of choice)

    -- the last variable, once a clause is false
    pub below_last : {cache : List ℕ} (l : d < length y.order) → Caches ts y choice cache (d + 1) → mode ≡ 0 → d + 1 ≡ length y.order
        → (r : ℕ) → r ≡ size_of (get_or cache (get_or plan (sets_from + d) 0) 0) → CountedAt plan y T ρ mode d choice r r
    below_last {cache} l S z e r q =
        rw q (turning-last (in_set T (rule_vars [] ρ)) (clauses_of T ρ) (drop levels_from plan) y.order mode d (choice_of choice) (get_or cache (get_or plan (sets_from + d) 0) 0) l
        (set-in choice d l S) z e)

  -- no count is too large to be kept
  pub counted-fits : (choice : ℕ) {mode d full breaking : ℕ} → CountedAt plan y T ρ mode d choice full breaking → full ≤ 64 ^ 8
  counted-fits choice C = (counted-small (in_set T (rule_vars [] ρ)) (clauses_of T ρ) (drop levels_from plan) y.order P.turns.short C).0

  module _ (mode d : ℕ) (m : mode < 2) (l : d < length y.order) {place : ℕ} (s : SlotOf (8 * mode + d) place) (choice : ℕ) {key : ℕ}
      (e : key ≡ meet_of choice (get_or plan (masks_from + (8 * mode + d)) 0)) where
    -- the choice is alike, at the context, with what its key is the choice of
    alike : Alike (get_or (drop contexts_from plan) (8 * mode + d) 0) (choice_of key) (choice_of choice)
    alike =
        let j : ℕ = 8 * mode + d in
        let small = P.turns.short in
        rw (e, get_or-drop contexts_from plan j 0) (alike-key (get_or plan (contexts_from + j) 0) (get_or plan (masks_from + j) 0) (P.masks j (omega arith)) choice)

    -- what is kept under that key
    pub below-hit : {kept : List ℕ} → Keeps plan y T ρ kept → 3 * place + 2 < length kept → (get_or kept (3 * place) 0 ≡ unwritten → ⊥) → get_or kept (3 * place + 2) 0 ≡ key
        → CountedAt plan y T ρ mode d choice (get_or kept (3 * place) 0 - 1) (get_or kept (3 * place + 1) 0)
    below-hit {kept} K fits w q =
        let small = P.turns.short in
        let here = kept-hit (in_set T (rule_vars [] ρ)) (clauses_of T ρ) (drop levels_from plan) y.order (drop contexts_from plan) K mode d s.item m (omega arith) (rw s.is at fits) in
        rw s.is (here (rw s.is at w) (choice_of choice) (bytes-length 8 choice) (rw (rw s.is at q) alike))

    -- and what is written
    pub below-write : {kept new : List ℕ} {full breaking : ℕ} → Keeps plan y T ρ kept → CountedAt plan y T ρ mode d choice full breaking
        → Keeping kept new place full breaking key → Keeps plan y T ρ new
    below-write {kept} {new} {full} {breaking} K C q =
        let small = P.turns.short in
        kept_on (in_set T (rule_vars [] ρ)) (clauses_of T ρ) (drop levels_from plan) y.order (drop contexts_from plan) (names (rule_vars [] ρ)) (sets-read T (rule_vars [] ρ))
        P.after P.contexts K mode d s.item m (omega arith) l full breaking key (choice_of choice) (bytes-length 8 choice) alike C (rw s.is at q)

  -- ---- the loop over the items of the variable at depth d

  module _ (mode d choice w : ℕ) where
    pub items-end : {rest full breaking : ℕ} → d < length y.order → ((x : ℕ) → in_set T (rule_vars [] ρ) (get_or y.order d 0) (choice_of choice) x ≡ has w x)
        → TurningAt plan y T ρ mode d choice w rest full breaking → rest ≡ 0 → CountedAt plan y T ρ mode d choice full breaking
    items-end l e t z = turning-end (in_set T (rule_vars [] ρ)) (clauses_of T ρ) (drop levels_from plan) y.order mode d (choice_of choice) w l e t z

    -- an item: its level was looked at, and what is below it counted in the mode that follows
    module _ (chosen x : ℕ) {next f b : ℕ} (put : choice_of chosen ≡ set (choice_of choice) (get_or y.order d 0) x) (E : Entered plan T ρ mode (d + 1) chosen next)
        (C : CountedAt plan y T ρ next (d + 1) chosen f b) where
      test : false_in (clauses_of T ρ) (level_is (drop levels_from plan) (d + 1)) (set (choice_of choice) (get_or y.order d 0) x) ≡ not E.ok
      test = rw put at E.test

      counted : Counted (in_set T (rule_vars [] ρ)) (clauses_of T ρ) (drop levels_from plan) y.order (mode_of mode E.ok) (d + 1) (set (choice_of choice) (get_or y.order d 0) x) f b
      counted = rw E.is at (rw put at C)

      pub items-next : {rest full breaking : ℕ} → TurningAt plan y T ρ mode d choice w rest full breaking → x < 64 → has rest x ≡ true
          → TurningAt plan y T ρ mode d choice w (less_of rest (item_of x)) (full + f) (breaking + b)
      items-next t l h =
          turning-step (in_set T (rule_vars [] ρ)) (clauses_of T ρ) (drop levels_from plan) y.order mode d (choice_of choice) w P.levelled x E.ok test f b counted t l h

      pub items-room : {rest full breaking : ℕ} → d < length y.order → ((z : ℕ) → in_set T (rule_vars [] ρ) (get_or y.order d 0) (choice_of choice) z ≡ has w z)
          → TurningAt plan y T ρ mode d choice w rest full breaking → x < 64 → has rest x ≡ true → (full + f ≤ 64 ^ 8) × (breaking + b ≤ 64 ^ 8)
      items-room lo e t l h =
          turning-room (in_set T (rule_vars [] ρ)) (clauses_of T ρ) (drop levels_from plan) y.order mode d (choice_of choice) w P.levelled x E.ok test f b counted lo e P.turns.short t l h

  -- One turn of such a loop: the item is put, its level entered, what is below it counted; the cache and what is kept are right again.
  pub turned : (choice x d left : ℕ) {mode next chosen f b : ℕ} {old entered after kept kept' : List ℕ} → d < length y.order → depth_of plan left ≡ d + 1
      → choice_of chosen ≡ set (choice_of choice) (get_or plan (order_from + d) 0) x → Enters ts plan mode (d + 1) chosen old entered next
      → Counts ts plan next left chosen entered kept after kept' f b → Caches ts y choice old (d + 1) → Keeps plan y T ρ kept
      → (choice_of chosen ≡ set (choice_of choice) (get_or y.order d 0) x) × Entered plan T ρ mode (d + 1) chosen next × CountedAt plan y T ρ next (d + 1) chosen f b
      × Caches ts y choice after (d + 1) × Keeps plan y T ρ kept'
  turned choice x d left {mode} {next} {chosen} {f} {b} {old} {entered} {after} {kept} {kept'} lo deep place E C S K =
      let put = rw (P.turns.variables d lo) at place in
      let e = E.goes y T ρ P (caches-on choice chosen x d lo put S) in
      let r = C.goes y T ρ P (rw deep e.0) K in
      (put, e.1, rw deep at r.0, caches-back choice chosen x d lo put (rw deep at r.1), r.2)
