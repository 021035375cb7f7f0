-- What the plan of a call holds for a rule along an order, and how its parts are filled in.
-- Internal: contracts of entry points do not speak of it. Assumes nothing.
use Rattle.std.specs.Prelude.{◌≡◌, List, [], ℕ, ◌+◌, ◌%◌, ◌<◌, ◌≤◌, length, get_or, drop}
use Rattle.words.specs.Words.{has}
use Rattle.tables.specs.Tables.{Tables}
use Rattle.tables.specs.Code.Layout.{Whole}
use Rattle.syntax.specs.Rule.{Rule, rule_vars}
use Rattle.syntax.specs.Code.Arena.{HoldsRule, Low, Tidy}
use Rattle.walks.specs.Meaning.{After}
use Rattle.walks.specs.Code.Clauses.{Levelled}
use Rattle.walks.specs.Code.Context.{Covers, Contexts}
use Rattle.walks.specs.Code.Kept.{Masks, choice_of, KeptRight}
use Rattle.values.specs.Sets.{in_set, names}
use Rattle.values.specs.Code.Nodes.{World, NamesTo}
use Rattle.values.specs.Code.Levels.{Levels}
use Rattle.values.specs.Code.Cache.{Stored}
use Rattle.values.specs.Code.Clauses.{clause_count, clause_at, ClauseNodes, ClauseNamesOf}
use Rattle.values.specs.Code.Plan.{plan_length, plan_room, clauses_from, levels_from, first_in, second_in, NodesIn, ClausesIn}
-- the clauses carry the law of what they read, so they stand among values' laws
use Rattle.values.proofs.ClausesLaws.{clauses_of}

-- Where the order's variables stand in the plan, the nodes of their sets, the contexts with their masks, and how many variables there are.
abbrev pub order_from : ℕ
order_from = 784

abbrev pub sets_from : ℕ
sets_from = 792

abbrev pub contexts_from : ℕ
contexts_from = 800

abbrev pub masks_from : ℕ
masks_from = 816

abbrev pub variables_at : ℕ
variables_at = 850

-- Where the words stand that the search for an order goes by. Nothing is shown of them.
abbrev pub scopes_from : ℕ
scopes_from = 880

-- What the plan was made of: a rule's nodes, kinds and variables, an order of these, and the levels that it gives the nodes.
pub record Layout : Type 0 where
  pub nodes : List ℕ
  pub n : ℕ
  pub kinds : List ℕ
  pub vars : List ℕ
  pub order : List ℕ
  pub levels : List ℕ

-- The order's variables, with the nodes of their sets, each of which is settled before its turn.
pub record Turns (plan : List ℕ) (y : Layout) : Type 0 where
  pub many : get_or plan variables_at 0 ≡ length y.order
  pub short : length y.order ≤ 8
  pub few : length y.vars ≤ 8
  pub variables : (d : ℕ) → d < length y.order → get_or plan (order_from + d) 0 ≡ get_or y.order d 0
  pub sets : (d : ℕ) → d < length y.order → get_or plan (sets_from + d) 0 ≡ get_or y.vars (get_or y.order d 0) 0
  pub known : (d : ℕ) → d < length y.order → get_or y.order d 0 < length y.vars
  pub nodes : (v : ℕ) → v < length y.vars → get_or y.vars v 0 < y.n
  pub early : (d : ℕ) → d < length y.order → get_or y.levels (get_or y.vars (get_or y.order d 0) 0) 0 ≤ d

-- All that the plan holds.
pub record Planned (ts plan : List ℕ) (y : Layout) (T : Tables) (ρ : Rule) : Type 0 where
  pub world : World ts y.nodes y.n y.kinds y.vars T (rule_vars [] ρ)
  pub whole : Whole ts
  pub long : length plan ≡ plan_length
  pub small : y.n ≤ plan_room
  pub nodes : NodesIn plan y.nodes y.n y.kinds y.vars y.levels
  pub level : Levels y.nodes y.n y.vars y.order y.levels
  pub turns : Turns plan y
  pub after : After (names (rule_vars [] ρ)) y.order
  pub clauses : ClausesIn plan y.nodes y.n ρ
  pub levelled : Levelled (clauses_of T ρ) y.order (drop levels_from plan)
  pub contexts : Contexts (names (rule_vars [] ρ)) (clauses_of T ρ) (drop levels_from plan) y.order (drop contexts_from plan)
  pub masks : (j : ℕ) → j < 16 → Masks (get_or plan (contexts_from + j) 0) (get_or plan (masks_from + j) 0)

-- The cache has, under the choice, the levels below e; what is kept is right.
abbrev pub Caches : List ℕ → Layout → ℕ → List ℕ → ℕ → Type 0
Caches ts y choice cache e = Stored ts y.nodes y.n y.kinds y.vars (choice_of choice) cache y.levels e

abbrev pub Keeps : List ℕ → Layout → Tables → Rule → List ℕ → Type 0
Keeps plan y T ρ kept = KeptRight (in_set T (rule_vars [] ρ)) (clauses_of T ρ) (drop levels_from plan) y.order (drop contexts_from plan) kept

-- ---- how the parts are filled in

-- From `at` on, the first `many` numbers have what P says, and the others are as before.
pub record Filled (old new : List ℕ) (at many : ℕ) (P : ℕ → ℕ → Type 0) : Type 0 where
  pub long : length new ≡ length old
  pub inside : (i : ℕ) → i < many → P i (get_or new (at + i) 0)
  pub outside : (j : ℕ) → (at ≤ j → at + many ≤ j) → get_or new j 0 ≡ get_or old j 0

-- Nothing below those words has changed.
pub record Noted (old new : List ℕ) : Type 0 where
  pub long : length new ≡ length old
  pub below : (j : ℕ) → j < scopes_from → get_or new j 0 ≡ get_or old j 0

-- The nodes that a plan can be made of, each of which a chain leaves for one of the first n, or for n.
pub record Plannable (ns : List ℕ) (n : ℕ) (ks vs next : List ℕ) : Type 0 where
  pub tidy : Tidy ns n
  pub small : n ≤ plan_room
  pub kinded : n ≤ length ks
  pub few : length vs ≤ 8
  pub long : n ≤ length next
  pub within : (k : ℕ) → k < n → get_or next k 0 ≤ n

-- The word of clause i of the rule that the root holds.
pub record ClauseWord (ns : List ℕ) (n root i w : ℕ) : Type 0 where
  pub low : Low (first_in w) n
  pub low₂ : Low (second_in w) n
  pub clause : (ρ : Rule) → HoldsRule ns root ρ → i < clause_count ρ → ClauseNodes ns n (first_in w) (second_in w) (clause_at ρ i)

-- All of them, r many.
pub record ClauseWords (ns : List ℕ) (n root : ℕ) (old new : List ℕ) (r : ℕ) : Type 0 where
  pub filled : Filled old new clauses_from r (ClauseWord ns n root)
  pub small : r ≤ plan_room
  pub many : (ρ : Rule) → HoldsRule ns root ρ → r ≡ clause_count ρ

-- The words of what each clause names.
abbrev pub Scopes : List ℕ → ℕ → List ℕ → List ℕ → ℕ → List ℕ → Type 0
Scopes ns n vs plan many scopes =
    (i : ℕ) → i < many → ClauseNamesOf ns n vs (first_in (get_or plan (clauses_from + i) 0)) (second_in (get_or plan (clauses_from + i) 0)) (get_or scopes i 0)

-- The tests of the first clauses stand on nodes below n.
pub record ClausesLow (plan : List ℕ) (many n : ℕ) : Type 0 where
  pub firsts : (i : ℕ) → i < many → Low (first_in (get_or plan (clauses_from + i) 0)) n
  pub seconds : (i : ℕ) → i < many → Low (second_in (get_or plan (clauses_from + i) 0)) n

-- So they are, where the names are those of the terms.
abbrev pub Scoped : List ℕ → List ℕ → ℕ → List ℕ → Type 0
Scoped plan names many scopes = (ns : List ℕ) (n : ℕ) (vs : List ℕ) → NamesTo ns n vs names n → ClausesLow plan many n → Scopes ns n vs plan many scopes

-- No clause has a level above that of the last variable.
abbrev pub LevelsWithin : List ℕ → ℕ → ℕ → Type 0
LevelsWithin plan many n = (i : ℕ) → i < many → get_or plan (levels_from + i) 0 ≤ n

-- The word r has what the sets of the order's variables from depth d on name; what the clauses above level d name, of those from `from` up to `to`.
abbrev pub SetsNamedFrom : List ℕ → List ℕ → ℕ → ℕ → Type 0
SetsNamedFrom names order d r = (j : ℕ) → d ≤ j → j < length order → Covers r (has (get_or names (get_or order j 0) 0))

abbrev pub ClausesNamed : List ℕ → List ℕ → ℕ → ℕ → ℕ → ℕ → Type 0
ClausesNamed levels scopes from to d r = (i : ℕ) → from ≤ i → i < to → d < get_or levels i 0 → Covers r (has (get_or scopes i 0))

-- The word of a mode and depth, 8 × mode + depth, has both; that of mode 0 the first alone.
pub record ContextWord (names levels scopes order : List ℕ) (many at r : ℕ) : Type 0 where
  pub sets : SetsNamedFrom names order (at % 8) r
  pub clauses : 8 ≤ at → ClausesNamed levels scopes 0 many (at % 8) r

-- ---- the whole plan

-- What a plan is made of: a rule's nodes, with kinds and variables, and a list of the variables.
pub record Laid (ns : List ℕ) (n : ℕ) (ks vs : List ℕ) (root : ℕ) (order : List ℕ) : Type 0 where
  pub tidy : Tidy ns n
  pub small : n ≤ plan_room
  pub kinded : n ≤ length ks
  pub below : root < n
  pub few : length vs ≤ 8
  pub nodes : (i : ℕ) → i < length vs → get_or vs i 0 < n
  pub short : length order ≤ 8
  pub known : (i : ℕ) → i < length order → get_or order i 0 < length vs

-- The plan holds every rule that the root holds, along the order where it is one, whatever the tables.
pub record Plans (ns : List ℕ) (n : ℕ) (ks vs : List ℕ) (root : ℕ) (order plan : List ℕ) : Type 0 where
  pub levels : List ℕ
  pub level : Levels ns n vs order levels
  pub planned : (ts : List ℕ) (T : Tables) (ρ : Rule) → Whole ts → World ts ns n ks vs T (rule_vars [] ρ) → HoldsRule ns root ρ
      → After (names (rule_vars [] ρ)) order → ((i : ℕ) → i < length order → get_or levels (get_or vs (get_or order i 0) 0) 0 ≤ i)
      → Planned ts plan (record { nodes = ns; n = n; kinds = ks; vars = vs; order = order; levels = levels }) T ρ
