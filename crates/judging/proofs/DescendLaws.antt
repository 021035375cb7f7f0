-- The first breaking choice along a plan's order: the least item below which something breaks, turn by turn, and what judging gives with it.
-- Assumes nothing.
use mathlib.Core.Path.{◌≡◌, refl, sym, ap, subst, ◌∙◌}
use mathlib.Core.Bool.{Bool, true}
use mathlib.Core.List.{List, []}
use mathlib.Core.Option.{some}
use Prim.Native.Nat.{ℕ, zero, suc, ◌+◌, ◌-◌, ◌<◌}
use native.Mathlib.Omega.{arith}
use lib.ListN.{length, get_or, set, drop, replicate, length-replicate, get_or-replicate}
use lib.Seq.{get_or-take}
use Rattle.words.specs.Words.{has, Lowest, less_of, item_of}
use Rattle.tables.specs.Tables.{Tables}
use Rattle.syntax.specs.Rule.{Rule, rule_vars}
use Rattle.walks.specs.Choices.{sum_over, each, if_breaks, nothing_chosen}
use Rattle.walks.specs.Meaning.{Once, After}
use Rattle.walks.specs.Walk.{walk, walk_first, choice_bytes}
use Rattle.walks.specs.Code.Clauses.{breaks_any, ModeIs, weight_of}
use Rattle.walks.specs.Code.Kept.{choice_of, Unwritten}
use Rattle.walks.specs.Code.Summed.{Summed, Least, Sought}
use Rattle.walks.specs.Code.Tally.{Walked}
use Rattle.walks.specs.Code.Turning.{below_at, Descending}
use Rattle.walks.proofs.BytesLaws.{nothing-word}
use Rattle.walks.proofs.ClauseLaws.{mode-step, mode-stays}
use Rattle.walks.proofs.DescentLaws.{none-breaks, descending-end}
use Rattle.walks.proofs.JudgedLaws.{own-breaking, turn-least, judged-none, judged-some}
use Rattle.walks.proofs.KeptLaws.{kept-none}
use Rattle.walks.proofs.LoopLaws.{alike_next}
use Rattle.walks.proofs.OnceLaws.{once-length}
use Rattle.walks.proofs.OrderLaws.{at}
use Rattle.walks.proofs.SummedLaws.{summed-step, summed-end, sought-hit, sought-past, walk-items}
use Rattle.walks.proofs.TurningLaws.{item-breaking}
use Rattle.values.specs.Sets.{in_set, names, breaks}
use Rattle.values.specs.Code.Plan.{plan_room, levels_from, Runs}
use Rattle.values.proofs.ClausesLaws.{clauses_of, rule-breaks}
use Rattle.values.proofs.ReadsLaws.{sets-read}
use Rattle.judging.specs.Code.Lent.{CaseBy}
use Rattle.judging.specs.Code.Planning.{order_from, sets_from, contexts_from, Layout, Planned, Caches, Keeps}
use Rattle.judging.specs.Code.Counting.{depth_of, CountedAt, Entered, Enters, EntersTo, Standing, Stays, Counts, LeastAt, no_choice}
use Rattle.judging.specs.Code.Walking.{Along, Lays, Ready, Sound, Stands, Descends, WalksBy}
use Rattle.judging.specs.declared.walking.Walk.{Walk}
use Rattle.judging.specs.declared.walking.Guide.{Guide}
use Rattle.judging.proofs.WalkingLaws.{once-in, after-in}
use Rattle.judging.proofs.CountingLaws.{plan-runs, set-in, caches-on, below-whole}

-- No item of w but those of rest counts.
pub record Seeking (w : ℕ) (f : ℕ → ℕ) (rest : ℕ) : Type 0 where
  pub sum : Summed w f rest 0
  pub sought : Sought w f rest 0 0

module _ {w : ℕ} {f : ℕ → ℕ} {rest : ℕ} (p : Seeking w f rest) where
  pub seeking-past : (x : ℕ) → x < 64 → has rest x ≡ true → f x ≡ 0 → Seeking w f (less_of rest (item_of x))
  seeking-past x l h z =
      let none : 0 + f x ≡ 0 = omega arith in
      record { sum = rw none at (summed-step p.sum x l h); sought = rw none at (sought-past p.sought x l h z) }

  pub seeking-hit : (x : ℕ) → x < 64 → has rest x ≡ true → Lowest rest x → 0 < f x → Least w f x
  seeking-hit x l h low c = (sought-hit p.sought x l h low p.sum.inside refl c).least (omega arith)

  pub seeking-end : rest ≡ 0 → 0 < sum_over w f → ⊥
  seeking-end z l = omega (arith, summed-end p.sum z)

module _ {ts plan : List ℕ} {y : Layout} {T : Tables} {ρ : Rule} (P : Planned ts plan y T ρ) (mode d choice : ℕ) where
  -- What breaks below the item x of the variable at depth d.
  abbrev pub breaks_below : ℕ → ℕ
  breaks_below = below_at (in_set T (rule_vars [] ρ)) (weight_of (clauses_of T ρ) (drop levels_from plan) mode (d + 1)) y.order d (choice_of choice)

  pub below-is : (chosen x : ℕ) {next f b : ℕ} → choice_of chosen ≡ set (choice_of choice) (get_or y.order d 0) x → Entered plan T ρ mode (d + 1) chosen next
      → CountedAt plan y T ρ next (d + 1) chosen f b → b ≡ breaks_below x
  below-is chosen x {next} {f} {b} put E C =
      item-breaking (in_set T (rule_vars [] ρ)) (clauses_of T ρ) (drop levels_from plan) y.order mode d (choice_of choice) 0 P.levelled x E.ok (rw put at E.test) f b
      (rw E.is at (rw put at C))

  -- Where something breaks, one of the items counts.
  pub least-some : (w : ℕ) → d < length y.order → ((x : ℕ) → in_set T (rule_vars [] ρ) (get_or y.order d 0) (choice_of choice) x ≡ has w x) → Seeking w breaks_below 0
      → (r : ℕ) → LeastAt plan y T ρ mode d choice w r
  least-some w lo e p r l =
      let whole : walk 64 (in_set T (rule_vars [] ρ)) (weight_of (clauses_of T ρ) (drop levels_from plan) mode (d + 1)) (drop d y.order) (choice_of choice) ≡ sum_over w breaks_below =
      rw (at y.order d lo) (walk-items (in_set T (rule_vars [] ρ)) (weight_of (clauses_of T ρ) (drop levels_from plan) mode (d + 1)) (get_or y.order d 0) w (drop (d + 1) y.order) (choice_of choice) e) in
      absurd (seeking-end p refl (omega (arith, whole)))

-- ---- what is at hand before anything is chosen

module _ {ts plan : List ℕ} {y : Layout} {T : Tables} {ρ : Rule} (P : Planned ts plan y T ρ) where
  -- Before the first level the cache has to have nothing, and nothing is kept.
  pub caches-none : (choice : ℕ) {cache : List ℕ} → length cache ≡ plan_room → Caches ts y choice cache 0
  caches-none choice l = record { long = omega (arith, P.small); holds = λ k h low. absurd (omega arith) }

  pub keeps-none : (kept : List ℕ) → Unwritten (length kept) kept → Keeps plan y T ρ kept
  keeps-none kept h = kept-none (in_set T (rule_vars [] ρ)) (clauses_of T ρ) (drop levels_from plan) y.order (drop contexts_from plan) kept h

  -- One level more.
  pub mode-next : {mode e choice next : ℕ} → Entered plan T ρ mode e choice next → ModeIs (clauses_of T ρ) (drop levels_from plan) mode e (choice_of choice)
      → ModeIs (clauses_of T ρ) (drop levels_from plan) next (e + 1) (choice_of choice)
  mode-next {mode} {e} {choice} E m = rw E.is (mode-step (clauses_of T ρ) (drop levels_from plan) mode e (choice_of choice) E.ok m E.test)

-- ---- along the caller's order

-- A plan was laid and its first level entered; so many slots are zeros.
pub stands-first : (many : ℕ) {ts : List ℕ} {w : Walk} {e mode : ℕ} {plan cache cache' : List ℕ} → Lays ts w.parsed.now w.order.now e plan
    → EntersTo ts plan 0 no_choice cache cache' mode → length cache ≡ plan_room → Stands ts w e 0 mode no_choice (record { plan = plan; cache = cache' }) (replicate many 0)
stands-first many L E room = record {
  small = E.modes;
  long = L.long;
  room = E.room ∙ room;
  ready = λ T ρ C.
      let A = L.along T ρ C in
      let e = E.goes A.layout T ρ A.planned in
      record { along = A; stored = e.0; keeps = keeps-none A.planned (replicate many 0) (λ j l. get_or-replicate {A = ℕ} many j 0 0 (omega (arith, length-replicate {A = ℕ} many 0))); modes = e.1 };
}

module _ {ts plan : List ℕ} {T : Tables} {ρ : Rule} {order : List ℕ} (once : Once (length (rule_vars [] ρ)) order) (after : After (names (rule_vars [] ρ)) order) where
  pub own-long : {e : ℕ} (A : Along ts plan T ρ order e) → length A.layout.order ≡ length order
  own-long A = once-length (length (rule_vars [] ρ)) A.layout.order A.once ∙ sym (once-length (length (rule_vars [] ρ)) order once)

  -- The plan goes on with the caller's next variable.
  pub ready_on : {d mode choice : ℕ} {cache kept : List ℕ} → d < length order → get_or plan (order_from + d) 0 ≡ get_or order d 0 → Ready ts plan T ρ order d d mode choice cache kept
      → Ready ts plan T ρ order (d + 1) d mode choice cache kept
  ready_on {d} l q R =
      let A = R.along in
      let lo : d < length A.layout.order = omega (arith, own-long A) in
      record {
        along = record {
          layout = A.layout;
          planned = A.planned;
          once = A.once;
          begins = alike_next A.layout.order order d lo l A.begins (sym (A.planned.turns.variables d lo) ∙ q);
        };
        stored = R.stored;
        keeps = R.keeps;
        modes = R.modes;
      }

  -- What counting asks, where `left` variables are still to be chosen.
  module _ (left : ℕ) {e d mode choice : ℕ} {cache kept : List ℕ} (R : Ready ts plan T ρ order e d mode choice cache kept) (all : left + d ≡ length order) where
    pub depth_is : depth_of plan left ≡ d
    depth_is = omega (arith, R.along.planned.turns.many, own-long R.along)

    pub stored_at : Caches ts R.along.layout choice cache (depth_of plan left + 1)
    stored_at = rw depth_is R.stored

    pub standing-at : mode < 2 → length cache ≡ plan_room → Standing ts plan mode left choice cache kept
    standing-at m room = record {
      layout = R.along.layout;
      tables = T;
      rule = ρ;
      planned = R.along.planned;
      modes = m;
      within = omega (arith, R.along.planned.turns.many, own-long R.along);
      room = room;
      stored = stored_at;
      keeps = R.keeps;
    }

  same-variable : (d : ℕ) → d < length order → (A : Along ts plan T ρ order (d + 1)) → get_or A.layout.order d 0 ≡ get_or order d 0
  same-variable d l A =
      sym (get_or-take (d + 1) A.layout.order d 0 (omega arith)) ∙ ap (λ (k : List ℕ). get_or k d 0) A.begins ∙ get_or-take (d + 1) order d 0 (omega arith)

  -- One variable nearer to the first breaking choice: its item is the least one, and its level is entered.
  module _ (chosen x : ℕ) {d mode choice : ℕ} {cache kept : List ℕ} (l : d < length order) (R : Ready ts plan T ρ order (d + 1) d mode choice cache kept)
      (put : choice_of chosen ≡ set (choice_of choice) (get_or order d 0) x) where
    lo : d < length R.along.layout.order
    lo = omega (arith, own-long R.along)

    put-own : choice_of chosen ≡ set (choice_of choice) (get_or R.along.layout.order d 0) x
    put-own = rw (same-variable d l R.along) put

    -- the item was found by the plan, and its level entered
    module _ (left : ℕ) (all : left + d ≡ length order) {next : ℕ} {found entered kept' : List ℕ}
        (F : Stays ts plan left choice cache kept found kept' (λ y T ρ. LeastAt plan y T ρ mode (depth_of plan left) choice (get_or cache (get_or plan (sets_from + depth_of plan left) 0) 0) x))
        (E : Enters ts plan mode (d + 1) chosen found entered next) where
      least-found : LeastAt plan R.along.layout T ρ mode d choice (get_or cache (get_or plan (sets_from + d) 0) 0) x
          × Caches ts R.along.layout choice found (d + 1) × Keeps plan R.along.layout T ρ kept'
      least-found = rw (depth_is left R all) at (F.goes R.along.layout T ρ R.along.planned (stored_at left R all) R.keeps)

      pub ready-next : Ready ts plan T ρ order (d + 1) (d + 1) next chosen entered kept'
      ready-next =
          let P = R.along.planned in
          let e = E.goes R.along.layout T ρ P (caches-on P choice chosen x d lo put-own least-found.1) in
          let stays = (rw (at R.along.layout.order d lo) at (mode-stays (clauses_of T ρ) R.along.layout.order (drop levels_from plan) P.levelled mode (d + 1) d (omega arith))).0 (choice_of choice) x R.modes in
          record { along = R.along; stored = e.0; keeps = least-found.2; modes = mode-next P e.1 (rw put-own stays) }

      pub descending-next : Descending (in_set T (rule_vars [] ρ)) (breaks_any (clauses_of T ρ)) order (choice_of no_choice) d (choice_of choice)
          → Descending (in_set T (rule_vars [] ρ)) (breaks_any (clauses_of T ρ)) order (choice_of no_choice) (d + 1) (choice_of chosen)
      descending-next D =
          let A = R.along in
          let P = A.planned in
          rw put (turn-least (in_set T (rule_vars [] ρ)) (names (rule_vars [] ρ)) (sets-read T (rule_vars [] ρ)) (clauses_of T ρ) (length (rule_vars [] ρ)) order once after
          A.layout.order A.once P.after (drop levels_from plan) P.levelled (choice_of no_choice) mode d (choice_of choice) l lo A.begins R.modes
          (get_or cache (get_or plan (sets_from + d) 0) 0)
          (λ z. ap (λ (v : ℕ). in_set T (rule_vars [] ρ) v (choice_of choice) z) (sym (same-variable d l A)) ∙ set-in P choice d lo R.stored z) D x least-found.0)

-- Where all stands for a sound walk, it can be counted.
module _ {ts : List ℕ} {w : Walk} (S : Sound ts w) {e d mode choice : ℕ} {g : Guide} {kept : List ℕ} (s : Stands ts w e d mode choice g kept) where
  own-ready : Ready ts g.plan S.lent.lent.tables S.lent.lent.rule w.order.now e d mode choice g.cache kept
  own-ready = s.ready S.lent.lent.tables S.lent.lent.rule S.lent.lent.is_case

  pub runs-in : Runs g.plan
  runs-in = plan-runs own-ready.along.planned

  pub standing-in : (left : ℕ) → left + d ≡ length w.order.now → Standing ts g.plan mode left choice g.cache kept
  standing-in left all = standing-at (once-in S S.lent.lent.is_case) (after-in S S.lent.lent.is_case) left own-ready all s.small s.room

-- ---- the tally

module _ {ts plan : List ℕ} {T : Tables} {ρ : Rule} {order : List ℕ} (once : Once (length (rule_vars [] ρ)) order) (after : After (names (rule_vars [] ρ)) order)
    (A : Along ts plan T ρ order 0) {mode full breaking : ℕ} (C : CountedAt plan A.layout T ρ mode 0 no_choice full breaking)
    (m : ModeIs (clauses_of T ρ) (drop levels_from plan) mode 1 (choice_of no_choice)) where
  -- the tally of the rule, from the word of no choice, is the one of nothing chosen
  walked_by : (b : ℕ) (first : List ℕ) → Walked (in_set T (rule_vars [] ρ)) (breaks_any (clauses_of T ρ)) order (choice_of no_choice) (record { full = full; breaking = b; first = first })
      → Walked (in_set T (rule_vars [] ρ)) (breaks T (rule_vars [] ρ) ρ) order nothing_chosen (record { full = full; breaking = b; first = first })
  walked_by b first w =
      subst (λ (t : List ℕ → Bool). Walked (in_set T (rule_vars [] ρ)) t order nothing_chosen (record { full = full; breaking = b; first = first })) (rule-breaks T ρ)
      (subst (λ (c : List ℕ). Walked (in_set T (rule_vars [] ρ)) (breaks_any (clauses_of T ρ)) order c (record { full = full; breaking = b; first = first })) nothing-word w)

  pub walks-none : breaking ≡ 0 → Walked (in_set T (rule_vars [] ρ)) (breaks T (rule_vars [] ρ) ρ) order nothing_chosen (record { full = full; breaking = 0; first = nothing_chosen })
  walks-none z =
      walked_by 0 nothing_chosen
      (subst (λ (b : ℕ). Walked (in_set T (rule_vars [] ρ)) (breaks_any (clauses_of T ρ)) order (choice_of no_choice) (record { full = full; breaking = b; first = nothing_chosen })) z
      (judged-none (in_set T (rule_vars [] ρ)) (names (rule_vars [] ρ)) (sets-read T (rule_vars [] ρ)) (clauses_of T ρ) (length (rule_vars [] ρ)) order once after A.layout.order A.once
      A.planned.after (drop levels_from plan) A.planned.levelled (choice_of no_choice) C m z))

  -- something breaks along the caller's order too
  pub breaks-some : 0 < breaking → 0 < walk 64 (in_set T (rule_vars [] ρ)) (if_breaks (breaks_any (clauses_of T ρ))) order (choice_of no_choice)
  breaks-some l =
      omega (
        arith,
        own-breaking (in_set T (rule_vars [] ρ)) (names (rule_vars [] ρ)) (sets-read T (rule_vars [] ρ)) (clauses_of T ρ) (length (rule_vars [] ρ)) order once after A.layout.order A.once
            A.planned.after (drop levels_from plan) A.planned.levelled refl C m,
      )

  pub walks_some : (r : ℕ) → Descending (in_set T (rule_vars [] ρ)) (breaks_any (clauses_of T ρ)) order (choice_of no_choice) (length order) (choice_of r)
      → (first : List ℕ) → first ≡ choice_of r
      → Walked (in_set T (rule_vars [] ρ)) (breaks T (rule_vars [] ρ) ρ) order nothing_chosen (record { full = full; breaking = breaking; first = first })
  walks_some r h first q =
      walked_by breaking first (rw q
      (judged-some (in_set T (rule_vars [] ρ)) (names (rule_vars [] ρ)) (sets-read T (rule_vars [] ρ)) (clauses_of T ρ) (length (rule_vars [] ρ)) order once after A.layout.order A.once
      A.planned.after (drop levels_from plan) A.planned.levelled (choice_of no_choice) C m (length order) (choice_of r) (omega arith) h))

-- A sound walk was counted: all stands as before, and the counts are the tally's, with the first breaking choice where something breaks.
module _ {ts : List ℕ} {w : Walk} (S : Sound ts w) {mode : ℕ} {g : Guide} {kept cache kept' : List ℕ} {full breaking : ℕ} (s : Stands ts w 0 0 mode no_choice g kept)
    (N : Counts ts g.plan mode (length w.order.now) no_choice g.cache kept cache kept' full breaking) where
  module _ {T : Tables} {ρ : Rule} (C : CaseBy ts w.parsed.now T ρ) where
    R : Ready ts g.plan T ρ w.order.now 0 0 mode no_choice g.cache kept
    R = s.ready T ρ C

    all : length w.order.now + 0 ≡ length w.order.now
    all = omega arith

    found : CountedAt g.plan R.along.layout T ρ mode 0 no_choice full breaking × Caches ts R.along.layout no_choice cache 1 × Keeps g.plan R.along.layout T ρ kept'
    found =
        rw (depth_is (once-in S C) (after-in S C) (length w.order.now) R all) at (N.goes R.along.layout T ρ R.along.planned (stored_at (once-in S C) (after-in S C) (length w.order.now) R all) R.keeps)

  pub stands-counted : Stands ts w 0 0 mode no_choice (record { plan = g.plan; cache = cache }) kept'
  stands-counted = record {
    small = s.small;
    long = s.long;
    room = N.room ∙ s.room;
    ready = λ T ρ C. record { along = (R C).along; stored = (found C).1; keeps = (found C).2; modes = (R C).modes };
  }

  pub counted-none : breaking ≡ 0 → WalksBy ts w.parsed.now w.order.now (record { full = full; breaking = 0; first = nothing_chosen })
  counted-none z T ρ C = walks-none (once-in S C) (after-in S C) (R C).along (found C).0 (R C).modes z

  pub counted-some : 0 < breaking → (r : ℕ) → Descends ts w (length w.order.now) r → (first : List ℕ) → first ≡ choice_of r
      → WalksBy ts w.parsed.now w.order.now (record { full = full; breaking = breaking; first = first })
  counted-some l r D first q T ρ C =
      let o = once-in S C in
      let a = after-in S C in
      walks_some o a (R C).along (found C).0 (R C).modes r (D T ρ C (breaks-some o a (R C).along (found C).0 (R C).modes l)) first q

-- A rule without variables has one choice.
module _ {ts plan : List ℕ} {T : Tables} {ρ : Rule} {order : List ℕ} (once : Once (length (rule_vars [] ρ)) order) (after : After (names (rule_vars [] ρ)) order)
    (A : Along ts plan T ρ order 0) (none : length order ≡ 0) where
  whole-counts : (mode : ℕ) → mode < 2 → CountedAt plan A.layout T ρ mode 0 no_choice 1 (1 - mode)
  whole-counts mode l = below-whole A.planned mode 0 no_choice l (omega (arith, own-long once after A))

  pub walks-bare : (mode : ℕ) → mode < 2 → ModeIs (clauses_of T ρ) (drop levels_from plan) mode 1 (choice_of no_choice)
      → Walked (in_set T (rule_vars [] ρ)) (breaks T (rule_vars [] ρ) ρ) order nothing_chosen (record { full = 1; breaking = 1 - mode; first = nothing_chosen })
  walks-bare zero l m =
      let some = breaks-some once after A (whole-counts 0 l) m (omega arith) in
      walks_some once after A (whole-counts 0 l) m no_choice (rw none (record { first = refl; some = some })) nothing_chosen (sym nothing-word)
  walks-bare (suc zero) l m = walks-none once after A (whole-counts 1 l) m refl
  walks-bare (suc (suc mode)) l m = absurd (omega arith)

-- A rule whose counts are known: where it breaks, its first breaking choice was found by the descent.
module _ (T : Tables) (ρ : Rule) (order : List ℕ) (once : Once (length (rule_vars [] ρ)) order) (after : After (names (rule_vars [] ρ)) order) {full breaking : ℕ}
    (fulls : full ≡ walk 64 (in_set T (rule_vars [] ρ)) each order nothing_chosen)
    (breakings : breaking ≡ walk 64 (in_set T (rule_vars [] ρ)) (if_breaks (breaks T (rule_vars [] ρ) ρ)) order nothing_chosen) where
  pub known-none : breaking ≡ 0 → Walked (in_set T (rule_vars [] ρ)) (breaks T (rule_vars [] ρ) ρ) order nothing_chosen (record { full = full; breaking = 0; first = nothing_chosen })
  known-none z = record {
    fulls = fulls;
    breakings = sym z ∙ breakings;
    firsts = ap choice_bytes (sym (none-breaks 64 (in_set T (rule_vars [] ρ)) (breaks T (rule_vars [] ρ) ρ) order nothing_chosen (sym breakings ∙ z)));
  }

  pub known-breaks : 0 < breaking → 0 < walk 64 (in_set T (rule_vars [] ρ)) (if_breaks (breaks_any (clauses_of T ρ))) order (choice_of no_choice)
  known-breaks l =
      subst (λ (b : List ℕ → Bool). 0 < walk 64 (in_set T (rule_vars [] ρ)) (if_breaks b) order (choice_of no_choice)) (sym (rule-breaks T ρ))
      (subst (λ (c : List ℕ). 0 < walk 64 (in_set T (rule_vars [] ρ)) (if_breaks (breaks T (rule_vars [] ρ) ρ)) order c) (sym nothing-word) (omega (arith, breakings)))

  pub known_some : (r : ℕ) → Descending (in_set T (rule_vars [] ρ)) (breaks_any (clauses_of T ρ)) order (choice_of no_choice) (length order) (choice_of r)
      → (first : List ℕ) → first ≡ choice_of r
      → Walked (in_set T (rule_vars [] ρ)) (breaks T (rule_vars [] ρ) ρ) order nothing_chosen (record { full = full; breaking = breaking; first = first })
  known_some r D first e = record {
    fulls = fulls;
    breakings = breakings;
    firsts = e ∙ ap choice_bytes (sym
        (subst (λ (b : List ℕ → Bool). walk_first 64 (in_set T (rule_vars [] ρ)) b order nothing_chosen ≡ some (choice_of r)) (rule-breaks T ρ)
        (subst (λ (c : List ℕ). walk_first 64 (in_set T (rule_vars [] ρ)) (breaks_any (clauses_of T ρ)) order c ≡ some (choice_of r)) nothing-word
        (descending-end (in_set T (rule_vars [] ρ)) (names (rule_vars [] ρ)) (sets-read T (rule_vars [] ρ)) (breaks_any (clauses_of T ρ)) (length (rule_vars [] ρ)) order once after
        (choice_of no_choice) (length order) (choice_of r) (omega arith) D))));
  }
