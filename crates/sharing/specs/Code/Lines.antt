-- Lines that share a walk: each has its clauses among those of the rule that they make together, and contexts of its own.
-- Internal: contracts of entry points do not speak of it. Assumes nothing.
use Rattle.std.specs.Prelude.{◌≡◌, refl, Bool, true, false, not, cond, ◌&&◌, ◌||◌, List, [], ℕ, ◌+◌, ◌*◌, ◌-◌, ◌%◌, ◌^◌, ◌<◌, ◌≤◌, leb, ltb, length, get_or, take, drop}
use Rattle.std.proofs.Common.{sym, ap, ◌∙◌}
use Rattle.std.proofs.Math.Bool.{or-true}
use Rattle.words.specs.Words.{has, meet_of}
use Rattle.words.proofs.WordsLaws.{and_both}
use Rattle.tables.specs.Tables.{Tables}
use Rattle.syntax.specs.Rule.{Rule, rule_vars}
use Rattle.walks.specs.Choices.{each}
use Rattle.walks.specs.Walk.{walk}
use Rattle.walks.specs.Code.Clauses.{Clauses}
use Rattle.walks.specs.Code.Context.{open_in, Context, Alike}
use Rattle.walks.specs.Code.Kept.{choice_of, Masks, Counted, unwritten}
use Rattle.values.specs.Sets.{in_set, names}
use Rattle.values.specs.Code.Clauses.{clause_count}
use Rattle.values.specs.Code.Plan.{plan_room, levels_from, clauses_at, HoldsAmong}
use Rattle.values.proofs.ClausesLaws.{clauses_of}
use Rattle.judging.specs.Code.Planning.{variables_at, Layout, Planned, Caches, Keeps}
use Rattle.judging.specs.Code.Counting.{depth_of}

-- ---- the clauses of a line

abbrev pub within : ℕ → ℕ → ℕ → Bool
within from to i = leb from i && ltb i to

pub line_reads : (w a b : Bool) → (w ≡ true → a ≡ b) → (a || not w) ≡ (b || not w)
line_reads true a b e = ap (λ (x : Bool). x || false) (e refl)
line_reads false a b e = or-true a ∙ sym (or-true b)

-- A clause of another line holds always, and names nothing.
abbrev pub line_of : Clauses → ℕ → ℕ → Clauses
line_of K from to = record {
  many = K.many;
  holds = λ i c. K.holds i c || not (within from to i);
  named = λ i u. within from to i && K.named i u;
  reads = λ i l c d h. line_reads (within from to i) (K.holds i c) (K.holds i d) (λ e. K.reads i l c d (λ u n. h u (and_both e n)));
}

-- ---- the words of the lines: masks by depth, and where a line's clauses begin and end

abbrev pub lines_limit : ℕ
lines_limit = 32

abbrev pub lines_length : ℕ
lines_length = 512

abbrev pub mask_of : List ℕ → ℕ → ℕ → ℕ
mask_of lines l d = get_or lines (16 * l + d) 0

abbrev pub from_of : List ℕ → ℕ → ℕ
from_of lines l = get_or lines (16 * l + 8) 0

abbrev pub to_of : List ℕ → ℕ → ℕ
to_of lines l = get_or lines (16 * l + 9) 0

-- What the lent words hold: the tables, the rule that the lines make together, laid out in a plan, and a context of each line at each depth.
pub record Held : Type 0 where
  pub layout : Layout
  pub tables : Tables
  pub rule : Rule
  pub context : ℕ → ℕ → ℕ

abbrev pub clauses_in : List ℕ → Held → ℕ → Clauses
clauses_in lines h l = line_of (clauses_of h.tables h.rule) (from_of lines l) (to_of lines l)

pub record LineIn (plan lines : List ℕ) (h : Held) (l : ℕ) : Type 0 where
  pub begins : from_of lines l ≤ to_of lines l
  pub ends : to_of lines l ≤ clause_count h.rule
  pub right : (d : ℕ) → d < length h.layout.order
      → Context (names (rule_vars [] h.rule)) (clauses_in lines h l) (open_in (drop levels_from plan) 1 (d + 1)) (drop d h.layout.order) (h.context l d)
  pub masks : (d : ℕ) → d < length h.layout.order → Masks (h.context l d) (mask_of lines l d)

pub record Grouped (ts plan lines : List ℕ) (many : ℕ) (h : Held) : Type 0 where
  pub planned : Planned ts plan h.layout h.tables h.rule
  pub each : (l : ℕ) → l < many → LineIn plan lines h l

-- The two counts of a line below a choice of the first d variables, while none of its clauses is false.
abbrev pub CountedFor : List ℕ → List ℕ → Held → ℕ → ℕ → List ℕ → ℕ → ℕ → Type 0
CountedFor plan lines h l d c full breaking =
    Counted (in_set h.tables (rule_vars [] h.rule)) (clauses_in lines h l) (drop levels_from plan) h.layout.order 1 d c full breaking

-- The full choices below it.
abbrev pub full_below : Held → ℕ → List ℕ → ℕ
full_below h d c = walk 64 (in_set h.tables (rule_vars [] h.rule)) each (drop d h.layout.order) c

-- ---- what is kept: first what the rule's own counts keep, then for each depth from 1 on 64 slots of each line

abbrev pub whole_slots : ℕ
whole_slots = 1024

abbrev pub slot_of : ℕ → ℕ → ℕ → ℕ → ℕ
slot_of many e l i = whole_slots + (64 * (many * e + l) + i)

-- The slot of a key at depth e + 1.
abbrev pub slot_for : ℕ → ℕ → ℕ → ℕ → ℕ
slot_for many e l key = slot_of many e l (key % 255 % 64)

pub record KeptFor (plan lines : List ℕ) (many : ℕ) (h : Held) (kept : List ℕ) : Type 0 where
  pub whole : Keeps plan h.layout h.tables h.rule (take (3 * whole_slots) kept)
  pub each : (e l i : ℕ) → e + 1 < length h.layout.order → l < many → i < 64 → 3 * slot_of many e l i + 2 < length kept
      → (get_or kept (3 * slot_of many e l i) 0 ≡ unwritten → ⊥) → (c : List ℕ) → length c ≡ 8
      → Alike (h.context l (e + 1)) (choice_of (get_or kept (3 * slot_of many e l i + 2) 0)) c
      → CountedFor plan lines h l (e + 1) c (get_or kept (3 * slot_of many e l i) 0 - 1) (get_or kept (3 * slot_of many e l i + 1) 0)

-- ---- lines as the items of a word

-- The word has lines below `many` only.
pub record Lines (active many : ℕ) : Type 0 where
  pub small : active < 2 ^ 64
  pub few : many ≤ lines_limit
  pub inside : (l : ℕ) → has active l ≡ true → l < many

-- Their clauses are in the plan.
pub record Ranged (plan lines : List ℕ) (many : ℕ) : Type 0 where
  pub long : length lines ≡ lines_length
  pub begins : (l : ℕ) → l < many → from_of lines l ≤ to_of lines l
  pub ends : (l : ℕ) → l < many → to_of lines l ≤ get_or plan clauses_at 0

-- r are those of the lines that have a false clause of the level.
pub record Fails (plan lines cache : List ℕ) (active level r : ℕ) : Type 0 where
  pub small : r < 2 ^ 64
  pub inside : (l : ℕ) → has r l ≡ true → has active l ≡ true
  pub each : (l : ℕ) → has active l ≡ true → HoldsAmong plan cache level (from_of lines l) (to_of lines l) (not (has r l))

-- Each line's count has one summand more: all the full choices, where a clause of the line is false.
pub record Adds (active closed full : ℕ) (under old new : List ℕ) : Type 0 where
  pub long : length new ≡ length old
  pub each : (l : ℕ) → has active l ≡ true → get_or new l 0 ≡ get_or old l 0 + cond (has closed l) full (get_or under l 0)
  pub other : (l : ℕ) → has active l ≡ false → get_or new l 0 ≡ get_or old l 0

-- A line's count was kept under its part of the choice, and is put in place.
pub record HitFor (lines kept : List ℕ) (many e l choice : ℕ) (count : ℕ) : Type 0 where
  pub fits : 3 * slot_for many e l (meet_of choice (mask_of lines l (e + 1))) + 2 < length kept
  pub there : get_or kept (3 * slot_for many e l (meet_of choice (mask_of lines l (e + 1)))) 0 ≡ unwritten → ⊥
  pub key : get_or kept (3 * slot_for many e l (meet_of choice (mask_of lines l (e + 1))) + 2) 0 ≡ meet_of choice (mask_of lines l (e + 1))
  pub is : count ≡ get_or kept (3 * slot_for many e l (meet_of choice (mask_of lines l (e + 1))) + 1) 0

-- So it was of all the lines but those of r.
pub record Looks (lines kept : List ℕ) (many e active choice : ℕ) (old new : List ℕ) (r : ℕ) : Type 0 where
  pub small : r < 2 ^ 64
  pub inside : (l : ℕ) → has r l ≡ true → has active l ≡ true
  pub long : length new ≡ length old
  pub hits : (l : ℕ) → has active l ≡ true → has r l ≡ false → HitFor lines kept many e l choice (get_or new l 0)
  pub other : (l : ℕ) → has r l ≡ true → get_or new l 0 ≡ get_or old l 0
  pub outside : (l : ℕ) → has active l ≡ false → get_or new l 0 ≡ get_or old l 0

-- The counts of the lines are kept, and what was kept stays right.
pub record KeepsFor (lines : List ℕ) (many e active choice full : ℕ) (breaking old new : List ℕ) : Type 0 where
  pub long : length new ≡ length old
  pub goes : (ts plan : List ℕ) (h : Held) → Grouped ts plan lines many h → e + 1 < length h.layout.order
      → ((l : ℕ) → has active l ≡ true → CountedFor plan lines h l (e + 1) (choice_of choice) full (get_or breaking l 0))
      → KeptFor plan lines many h old → KeptFor plan lines many h new

-- ---- the walk

-- What the walk goes by: `left` variables are still to be chosen, no clause of the active lines is false yet, and nothing of them is counted.
pub record StandingFor (ts plan lines : List ℕ) (active many left choice : ℕ) (cache kept breaking : List ℕ) : Type 0 where
  pub held : Held
  pub grouped : Grouped ts plan lines many held
  pub long : length lines ≡ lines_length
  pub listed : Lines active many
  pub within : left ≤ get_or plan variables_at 0
  pub room : length cache ≡ plan_room
  pub slots : 3 * whole_slots ≤ length kept
  pub counts : length breaking ≡ lines_limit
  pub none : (l : ℕ) → has active l ≡ true → get_or breaking l 0 ≡ 0
  pub stored : Caches ts held.layout choice cache (depth_of plan left + 1)
  pub keeps : KeptFor plan lines many held kept

-- So it is with some counts that are kept.
pub record Keeping (P : List ℕ → Type 0) : Type 0 where
  pub kept : List ℕ
  pub is : P kept

-- Whatever the lent words hold: the full choices and each active line's breaking ones are counted; the cache and what is kept stay right.
pub record StaysFor (ts plan lines : List ℕ) (active many left choice : ℕ) (cache kept breaking cache' kept' breaking' : List ℕ) (full : ℕ) : Type 0 where
  pub room : length cache' ≡ length cache
  pub slots : length kept' ≡ length kept
  pub counts : length breaking' ≡ length breaking
  pub other : (l : ℕ) → has active l ≡ false → get_or breaking' l 0 ≡ get_or breaking l 0
  pub goes : (h : Held) → Grouped ts plan lines many h → Caches ts h.layout choice cache (depth_of plan left + 1) → KeptFor plan lines many h kept
      → (full ≡ full_below h (depth_of plan left) (choice_of choice))
      × ((l : ℕ) → has active l ≡ true → CountedFor plan lines h l (depth_of plan left) (choice_of choice) full (get_or breaking' l 0))
      × Caches ts h.layout choice cache' (depth_of plan left + 1) × KeptFor plan lines many h kept'
