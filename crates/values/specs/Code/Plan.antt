-- The plan of a call: one flat list that has all that evaluating goes by, so that nothing is searched for under a choice.
-- Internal: contracts of entry points do not speak of it. Assumes nothing.
use Rattle.std.specs.Prelude.{◌≡◌, Bool, not, ◌&&◌, List, [], ℕ, ◌+◌, ◌*◌, ◌/◌, ◌%◌, ◌<◌, ◌≤◌, leb, length, get_or, drop}
use Rattle.words.specs.Words.{any_to}
use Rattle.tables.specs.Tables.{Tables}
use Rattle.syntax.specs.Rule.{Rule, rule_vars}
use Rattle.syntax.specs.Code.Arena.{Low, Tidy}
use Rattle.syntax.specs.Code.Nodes.{first_call, op_at, left_at}
use Rattle.walks.specs.Code.Clauses.{level_is}
use Rattle.walks.specs.Code.Kept.{choice_of}
use Rattle.values.specs.Truth.{clause_true}
use Rattle.rules.specs.Code.Variables.{place_in}
use Rattle.values.specs.Code.Levels.{Levels, Following, Linked}
use Rattle.values.specs.Code.Cache.{StepAt, Stored, ValuedIn}
use Rattle.values.specs.Code.Clauses.{clause_count, clause_at, clause_names, ClauseNodes}

-- Where its parts begin: nodes at 0, then clauses, levels of clauses, first nodes of levels; how many nodes and clauses there are.
abbrev pub plan_length : ℕ
plan_length = 1024

abbrev pub clauses_from : ℕ
clauses_from = 256

abbrev pub levels_from : ℕ
levels_from = 512

abbrev pub starts_from : ℕ
starts_from = 768

abbrev pub nodes_at : ℕ
nodes_at = 848

abbrev pub clauses_at : ℕ
clauses_at = 849

-- How many nodes, and how many clauses, it has room for.
abbrev pub plan_room : ℕ
plan_room = 256

-- A node in one number: the node, the kind of its left, its variable, the next node of its level.
abbrev pub step_of : ℕ → ℕ → ℕ → ℕ → ℕ
step_of v kind variable next = v + 4294967296 * kind + 1099511627776 * variable + 17592186044416 * next

abbrev pub node_in : ℕ → ℕ
node_in w = w % 4294967296

abbrev pub kind_in : ℕ → ℕ
kind_in w = w / 4294967296 % 256

abbrev pub variable_in : ℕ → ℕ
variable_in w = w / 1099511627776 % 16

abbrev pub next_in : ℕ → ℕ
next_in w = w / 17592186044416

-- A clause in one number: the nodes of its tests.
abbrev pub first_in : ℕ → ℕ
first_in w = w % 4294967296

abbrev pub second_in : ℕ → ℕ
second_in w = w / 4294967296

-- The word of node k.
pub record Step (ns ks vs next : List ℕ) (k w : ℕ) : Type 0 where
  pub node : node_in w ≡ get_or ns k 0
  pub kind : first_call ≤ op_at ns k → kind_in w ≡ get_or ks (left_at ns k) 0
  pub variable : first_call ≤ op_at ns k → variable_in w ≡ place_in (left_at ns k) vs
  pub goes : next_in w ≡ get_or next k 0

-- What evaluating needs to stay within its slices.
pub record Runs (plan : List ℕ) : Type 0 where
  pub long : length plan ≡ plan_length
  pub few_nodes : get_or plan nodes_at 0 ≤ plan_room
  pub nodes : (k : ℕ) → k < get_or plan nodes_at 0 → Low (node_in (get_or plan k 0)) plan_room
  pub up : (k : ℕ) → k < get_or plan nodes_at 0 → k < next_in (get_or plan k 0)
  pub few_clauses : get_or plan clauses_at 0 ≤ plan_room
  pub firsts : (i : ℕ) → i < get_or plan clauses_at 0 → Low (first_in (get_or plan (clauses_from + i) 0)) plan_room
  pub seconds : (i : ℕ) → i < get_or plan clauses_at 0 → Low (second_in (get_or plan (clauses_from + i) 0)) plan_room

-- The nodes are in the plan, chained by levels.
pub record NodesIn (plan ns : List ℕ) (n : ℕ) (ks vs levels : List ℕ) : Type 0 where
  pub many : get_or plan nodes_at 0 ≡ n
  pub tidy : Tidy ns n
  pub kinded : n ≤ length ks
  pub next : List ℕ
  pub each : (k : ℕ) → k < n → Step ns ks vs next k (get_or plan k 0)
  pub linked : Linked n levels next
  pub starts : (d : ℕ) → d < 9 → Following n levels d 0 (get_or plan (starts_from + d) 0)

-- The rule's clauses are.
pub record ClausesIn (plan ns : List ℕ) (n : ℕ) (ρ : Rule) : Type 0 where
  pub many : get_or plan clauses_at 0 ≡ clause_count ρ
  pub few : clause_count ρ ≤ plan_room
  pub each : (i : ℕ) → i < clause_count ρ → ClauseNodes ns n (first_in (get_or plan (clauses_from + i) 0)) (second_in (get_or plan (clauses_from + i) 0)) (clause_at ρ i)

-- What is shown of a node's word, whatever node it is of: r is its value where the cache has what stands right below it.
abbrev pub StepOf : List ℕ → ℕ → ℕ → List ℕ → ℕ → Type 0
StepOf ts w choice cache r =
    (ns : List ℕ) (n : ℕ) (ks vs next : List ℕ) (k : ℕ) → Tidy ns n → n ≤ length ks → k < n → Step ns ks vs next k w → StepAt ts ns n ks vs (choice_of choice) k cache r

-- After the nodes of a level are evaluated, the cache has one level more.
abbrev pub SettlesBy : List ℕ → List ℕ → ℕ → ℕ → List ℕ → List ℕ → Type 0
SettlesBy ts plan choice d before after =
    (ns : List ℕ) (n : ℕ) (ks vs order levels : List ℕ) → NodesIn plan ns n ks vs levels → Levels ns n vs order levels
    → Stored ts ns n ks vs (choice_of choice) before levels d → Stored ts ns n ks vs (choice_of choice) after levels (d + 1)

-- Among the first m clauses one of the level is false.
abbrev pub false_at : Tables → Rule → List ℕ → ℕ → List ℕ → ℕ → Bool
false_at T ρ levels d c m = any_to m (λ i. level_is levels d i && not (clause_true T (rule_vars [] ρ) c (clause_at ρ i)))

-- The clauses of the level from the one numbered `from` on.
abbrev pub level_from_on : List ℕ → ℕ → ℕ → ℕ → Bool
level_from_on levels d from i = leb from i && level_is levels d i

-- r says whether those of them that stand before `to` hold, where the cache has the values of their terms; whether all of the level do.
abbrev pub HoldsAmong : List ℕ → List ℕ → ℕ → ℕ → ℕ → Bool → Type 0
HoldsAmong plan cache d from to r =
    (ns : List ℕ) (n : ℕ) (ρ : Rule) → ClausesIn plan ns n ρ → (T : Tables) (c : List ℕ)
    → ((i : ℕ) → i < clause_count ρ → get_or (drop levels_from plan) i 0 ≡ d → ValuedIn ns n cache T (rule_vars [] ρ) c (clause_names (rule_vars [] ρ) (clause_at ρ i)))
    → any_to to (λ i. level_from_on (drop levels_from plan) d from i && not (clause_true T (rule_vars [] ρ) c (clause_at ρ i))) ≡ not r

abbrev pub HoldsOf : List ℕ → List ℕ → ℕ → Bool → Type 0
HoldsOf plan cache d r =
    (ns : List ℕ) (n : ℕ) (ρ : Rule) → ClausesIn plan ns n ρ → (T : Tables) (c : List ℕ)
    → ((i : ℕ) → i < clause_count ρ → get_or (drop levels_from plan) i 0 ≡ d → ValuedIn ns n cache T (rule_vars [] ρ) c (clause_names (rule_vars [] ρ) (clause_at ρ i)))
    → false_at T ρ (drop levels_from plan) d c (clause_count ρ) ≡ not r
