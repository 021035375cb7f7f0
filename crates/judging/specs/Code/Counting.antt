-- What counting by a plan asks and shows: the counts below a choice, the least item below which something breaks.
-- Internal: contracts of entry points do not speak of it. Assumes nothing.
use Rattle.std.specs.Prelude.{◌≡◌, Bool, not, List, [], ℕ, ◌+◌, ◌*◌, ◌-◌, ◌<◌, ◌≤◌, length, get_or, drop}
use Rattle.tables.specs.Tables.{Tables}
use Rattle.syntax.specs.Rule.{Rule, rule_vars}
use Rattle.walks.specs.Walk.{walk}
use Rattle.walks.specs.Code.Clauses.{false_in, level_is, ModeIs, weight_of, mode_of}
use Rattle.walks.specs.Code.Kept.{choice_of, Counted}
use Rattle.walks.specs.Code.Summed.{Least}
use Rattle.walks.specs.Code.Turning.{Turning, below_at}
use Rattle.values.specs.Sets.{in_set}
use Rattle.values.specs.Code.Plan.{plan_room, levels_from}
use Rattle.values.proofs.ClausesLaws.{clauses_of}
use Rattle.judging.specs.Code.Planning.{variables_at, sets_from, Layout, Planned, Caches, Keeps}

-- One of the 64 slots of a mode and depth.
pub record SlotOf (at r : ℕ) : Type 0 where
  pub item : ℕ
  pub small : item < 64
  pub is : r ≡ 16 * item + at

-- How many variables are chosen where `left` are still to be.
abbrev pub depth_of : List ℕ → ℕ → ℕ
depth_of plan left = get_or plan variables_at 0 - left

-- The counts below the choice of the first d variables, and those of the items of the next one but those of rest.
abbrev pub CountedAt : List ℕ → Layout → Tables → Rule → ℕ → ℕ → ℕ → ℕ → ℕ → Type 0
CountedAt plan y T ρ mode d choice full breaking =
    Counted (in_set T (rule_vars [] ρ)) (clauses_of T ρ) (drop levels_from plan) y.order mode d (choice_of choice) full breaking

abbrev pub TurningAt : List ℕ → Layout → Tables → Rule → ℕ → ℕ → ℕ → ℕ → ℕ → ℕ → ℕ → Type 0
TurningAt plan y T ρ mode d choice w rest full breaking =
    Turning (in_set T (rule_vars [] ρ)) (clauses_of T ρ) (drop levels_from plan) y.order mode d (choice_of choice) w rest full breaking

-- The clauses of a level were looked at: r is the mode that follows.
pub record Entered (plan : List ℕ) (T : Tables) (ρ : Rule) (mode e choice r : ℕ) : Type 0 where
  pub ok : Bool
  pub test : false_in (clauses_of T ρ) (level_is (drop levels_from plan) e) (choice_of choice) ≡ not ok
  pub is : r ≡ mode_of mode ok

-- The level was evaluated too.
pub record Enters (ts plan : List ℕ) (mode e choice : ℕ) (old new : List ℕ) (r : ℕ) : Type 0 where
  pub modes : r < 2
  pub room : length new ≡ length old
  pub goes : (y : Layout) (T : Tables) (ρ : Rule) → Planned ts plan y T ρ → Caches ts y choice old e → Caches ts y choice new (e + 1) × Entered plan T ρ mode e choice r

-- So were the levels up to d, from the first on: r is the mode.
pub record EntersTo (ts plan : List ℕ) (d choice : ℕ) (old new : List ℕ) (r : ℕ) : Type 0 where
  pub modes : r < 2
  pub room : length new ≡ length old
  pub goes : (y : Layout) (T : Tables) (ρ : Rule) → Planned ts plan y T ρ
      → Caches ts y choice new (d + 1) × ModeIs (clauses_of T ρ) (drop levels_from plan) r (d + 1) (choice_of choice)

-- The plan holds something, along which `left` variables are still to be chosen; the cache and what is kept go with it.
pub record Standing (ts plan : List ℕ) (mode left choice : ℕ) (cache kept : List ℕ) : Type 0 where
  pub layout : Layout
  pub tables : Tables
  pub rule : Rule
  pub planned : Planned ts plan layout tables rule
  pub modes : mode < 2
  pub within : left ≤ get_or plan variables_at 0
  pub room : length cache ≡ plan_room
  pub stored : Caches ts layout choice cache (depth_of plan left + 1)
  pub keeps : Keeps plan layout tables rule kept

-- Whatever the plan holds: the cache and what is kept stay right, and X is shown.
pub record Stays (ts plan : List ℕ) (left choice : ℕ) (cache kept cache' kept' : List ℕ) (X : Layout → Tables → Rule → Type 0) : Type 0 where
  pub room : length cache' ≡ length cache
  pub slots : length kept' ≡ length kept
  pub goes : (y : Layout) (T : Tables) (ρ : Rule) → Planned ts plan y T ρ → Caches ts y choice cache (depth_of plan left + 1) → Keeps plan y T ρ kept
      → X y T ρ × Caches ts y choice cache' (depth_of plan left + 1) × Keeps plan y T ρ kept'

-- The two counts below the choice.
abbrev pub Counts : List ℕ → List ℕ → ℕ → ℕ → ℕ → List ℕ → List ℕ → List ℕ → List ℕ → ℕ → ℕ → Type 0
Counts ts plan mode left choice cache kept cache' kept' full breaking =
    Stays ts plan left choice cache kept cache' kept' (λ y T ρ. CountedAt plan y T ρ mode (depth_of plan left) choice full breaking)

-- r is the least item of the next variable, whose set is w, below which something breaks, where something does.
abbrev pub LeastAt : List ℕ → Layout → Tables → Rule → ℕ → ℕ → ℕ → ℕ → ℕ → Type 0
LeastAt plan y T ρ mode d choice w r =
    0 < walk 64 (in_set T (rule_vars [] ρ)) (weight_of (clauses_of T ρ) (drop levels_from plan) mode (d + 1)) (drop d y.order) (choice_of choice)
    → Least w (below_at (in_set T (rule_vars [] ρ)) (weight_of (clauses_of T ρ) (drop levels_from plan) mode (d + 1)) y.order d (choice_of choice)) r

abbrev pub Finds : List ℕ → List ℕ → ℕ → ℕ → ℕ → List ℕ → List ℕ → List ℕ → List ℕ → ℕ → Type 0
Finds ts plan mode left choice cache kept cache' kept' r =
    (r < 64) × Stays ts plan left choice cache kept cache' kept'
    (λ y T ρ. LeastAt plan y T ρ mode (depth_of plan left) choice (get_or cache (get_or plan (sets_from + depth_of plan left) 0) 0) r)

-- The word of no choice.
abbrev pub no_choice : ℕ
no_choice = 18446744073709551615
