-- The levels of nodes, by an order of the variables, and the chains of the nodes of each level.
-- Internal: contracts of entry points do not speak of it. Assumes nothing.
use Rattle.std.specs.Prelude.{◌≡◌, Bool, true, List, ℕ, suc, ◌+◌, ◌-◌, ◌<◌, ◌≤◌, length, get_or}
use Rattle.syntax.specs.Term.{Term, Choices}
use Rattle.syntax.specs.Code.Arena.{Holds}
use Rattle.rules.specs.Accept.{choices_limit}
use Rattle.values.specs.Sets.{names_in}
use Rattle.values.specs.Code.Nodes.{Variables}

-- r is how many variables of the order stand up to the last one that `named` says.
pub record Level (order : List ℕ) (named : ℕ → Bool) (r : ℕ) : Type 0 where
  pub within : r ≤ length order
  pub above : (i : ℕ) → i < length order → named (get_or order i 0) ≡ true → i < r
  pub met : 0 < r → named (get_or order (r - 1) 0) ≡ true

-- r is the level of what the term of node k names.
abbrev pub LevelAt : List ℕ → ℕ → List ℕ → List ℕ → ℕ → ℕ → Type 0
LevelAt ns n vs order k r = (σ : Choices) → Variables ns n vs σ → (t : Term) → Holds ns k t → Level order (names_in σ t) r

-- The levels of the first n nodes.
pub record Levels (ns : List ℕ) (n : ℕ) (vs order levels : List ℕ) : Type 0 where
  pub small : (k : ℕ) → k < n → get_or levels k 0 ≤ length order
  pub each : (k : ℕ) → k < n → LevelAt ns n vs order k (get_or levels k 0)

-- r is the first node of that level from a node on, or n.
pub record Following (n : ℕ) (levels : List ℕ) (level from r : ℕ) : Type 0 where
  pub start : from ≤ r
  pub within : r ≤ n
  pub least : (i : ℕ) → from ≤ i → i < r → get_or levels i 0 ≡ level → ⊥
  pub found : r < n → get_or levels r 0 ≡ level

-- From each node a chain goes on to the next of its level.
pub record Linked (n : ℕ) (levels next : List ℕ) : Type 0 where
  pub long : n ≤ length next
  pub each : (k : ℕ) → k < n → Following n levels (get_or levels k 0) (k + 1) (get_or next k 0)

-- Level 0 and one for each variable that there may be.
abbrev pub level_count : ℕ
level_count = suc choices_limit

-- The chains of all levels: where each starts, and how it goes on.
pub record Chained (n : ℕ) (levels first next : List ℕ) : Type 0 where
  pub many : length first ≡ level_count
  pub starts : (d : ℕ) → d < level_count → Following n levels d 0 (get_or first d 0)
  pub linked : Linked n levels next
