-- What judging a parsed rule goes by: the caller's order, plans laid along orders that begin as it does, and the descent along it.
-- Internal: contracts of entry points do not speak of it. Assumes nothing.
use Rattle.std.specs.Prelude.{◌≡◌, List, [], ℕ, ◌+◌, ◌<◌, length, take, drop}
use Rattle.tables.specs.Tables.{Tables}
use Rattle.syntax.specs.Rule.{Rule, rule_vars}
use Rattle.rules.specs.declared.Parsed.{Parsed}
use Rattle.walks.specs.Choices.{each, if_breaks, nothing_chosen}
use Rattle.walks.specs.Meaning.{Once}
use Rattle.walks.specs.Walk.{walk}
use Rattle.walks.specs.declared.Tally.{Tally}
use Rattle.walks.specs.Code.Clauses.{breaks_any, ModeIs}
use Rattle.walks.specs.Code.Kept.{choice_of}
use Rattle.walks.specs.Code.Tally.{Walked}
use Rattle.walks.specs.Code.Turning.{Descending}
use Rattle.values.specs.Sets.{in_set, breaks}
use Rattle.values.specs.Code.Plan.{plan_length, plan_room, levels_from}
use Rattle.values.proofs.ClausesLaws.{clauses_of}
use Rattle.judging.specs.Code.Lent.{vars_of, CaseBy, LentBy, OrderList, InTurn}
use Rattle.judging.specs.Code.Planning.{Layout, Planned, Caches, Keeps}
use Rattle.judging.specs.Code.Counting.{no_choice}
use Rattle.judging.specs.declared.walking.Walk.{Walk}
use Rattle.judging.specs.declared.walking.Guide.{Guide}

-- The list is an order of the rule's variables.
pub record Ordered (p : Parsed) (order : List ℕ) : Type 0 where
  pub list : OrderList (vars_of p) order
  pub turn : InTurn p.nodes p.n (vars_of p) order
  pub once : Once (length (vars_of p)) order

-- The plan holds the rule along an order of its variables that begins with the first e of the caller's.
pub record Along (ts plan : List ℕ) (T : Tables) (ρ : Rule) (order : List ℕ) (e : ℕ) : Type 0 where
  pub layout : Layout
  pub planned : Planned ts plan layout T ρ
  pub once : Once (length (rule_vars [] ρ)) layout.order
  pub begins : take e layout.order ≡ take e order

-- It was laid of the parsed rule's own nodes and variables.
pub record OwnNodes (p : Parsed) (y : Layout) : Type 0 where
  pub nodes : y.nodes ≡ p.nodes
  pub many : y.n ≡ p.n
  pub vars : y.vars ≡ vars_of p

-- So it is whatever the slices hold.
pub record Lays (ts : List ℕ) (p : Parsed) (order : List ℕ) (e : ℕ) (plan : List ℕ) : Type 0 where
  pub long : length plan ≡ plan_length
  pub along : (T : Tables) (ρ : Rule) → CaseBy ts p T ρ → Along ts plan T ρ order e
  pub own : (T : Tables) (ρ : Rule) (C : CaseBy ts p T ρ) → OwnNodes p (along T ρ C).layout

-- The cache, what is kept and the mode go with the plan and a choice of the first d variables.
pub record Ready (ts plan : List ℕ) (T : Tables) (ρ : Rule) (order : List ℕ) (e d mode choice : ℕ) (cache kept : List ℕ) : Type 0 where
  pub along : Along ts plan T ρ order e
  pub stored : Caches ts along.layout choice cache (d + 1)
  pub keeps : Keeps plan along.layout T ρ kept
  pub modes : ModeIs (clauses_of T ρ) (drop levels_from plan) mode (d + 1) (choice_of choice)

-- The tables and a walk's slices hold its parsed rule, and its order is one of the rule's variables.
pub record Sound (ts : List ℕ) (w : Walk) : Type 0 where
  pub lent : LentBy ts w.parsed.now
  pub ordered : Ordered w.parsed.now w.order.now

-- So all is for a walk, whatever its slices hold.
pub record Stands (ts : List ℕ) (w : Walk) (e d mode choice : ℕ) (g : Guide) (kept : List ℕ) : Type 0 where
  pub small : mode < 2
  pub long : length g.plan ≡ plan_length
  pub room : length g.cache ≡ plan_room
  pub ready : (T : Tables) (ρ : Rule) → CaseBy ts w.parsed.now T ρ → Ready ts g.plan T ρ w.order.now e d mode choice g.cache kept

-- The first breaking choice along the caller's order, where there is one, has its first d items in the choice r.
abbrev pub Descends : List ℕ → Walk → ℕ → ℕ → Type 0
Descends ts w d r =
    (T : Tables) (ρ : Rule) → CaseBy ts w.parsed.now T ρ → 0 < walk 64 (in_set T (rule_vars [] ρ)) (if_breaks (breaks_any (clauses_of T ρ))) w.order.now (choice_of no_choice)
    → Descending (in_set T (rule_vars [] ρ)) (breaks_any (clauses_of T ρ)) w.order.now (choice_of no_choice) d (choice_of r)

-- Whatever the slices hold, these are the counts of the walk along the caller's order;
abbrev pub CountsBy : List ℕ → Parsed → List ℕ → ℕ → ℕ → Type 0
CountsBy ts p order full breaking =
    (T : Tables) (ρ : Rule) → CaseBy ts p T ρ
    → (full ≡ walk 64 (in_set T (rule_vars [] ρ)) each order nothing_chosen) × (breaking ≡ walk 64 (in_set T (rule_vars [] ρ)) (if_breaks (breaks T (rule_vars [] ρ) ρ)) order nothing_chosen)

-- r is what that walk gives, from nothing chosen.
abbrev pub WalksBy : List ℕ → Parsed → List ℕ → Tally → Type 0
WalksBy ts p order r = (T : Tables) (ρ : Rule) → CaseBy ts p T ρ → Walked (in_set T (rule_vars [] ρ)) (breaks T (rule_vars [] ρ) ρ) order nothing_chosen r
