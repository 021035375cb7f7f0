-- The chains of the levels, made from the last node down.
-- Assumes nothing.
use mathlib.Core.Path.{◌≡◌}
use mathlib.Core.List.{List}
use Prim.Native.Nat.{ℕ, ◌+◌, ◌<◌, ◌≤◌}
use lib.ListN.{length, get_or}
use Rattle.rules.specs.Accept.{rule_limit}
use Rattle.values.specs.Code.Levels.{Following, level_count}

-- The chains of the nodes from k on.
pub record From (n : ℕ) (levels first next : List ℕ) (k : ℕ) : Type 0 where
  pub within : k ≤ n
  pub many : length first ≡ level_count
  pub long : length next ≡ rule_limit
  pub starts : (d : ℕ) → d < level_count → Following n levels d k (get_or first d 0)
  pub goes : (j : ℕ) → k ≤ j → j < n → Following n levels (get_or levels j 0) (j + 1) (get_or next j 0)
