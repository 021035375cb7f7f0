-- `values::levels::levels` meets its contract. The invariant: the levels of the first k nodes are right.
-- Assumes nothing.
use mathlib.Core.Path.{◌≡◌}
use Prim.Native.Nat.{ℕ, ◌<◌}
use lib.ListN.{length, get_or}
use Rattle.words.specs.Words.{has}
use Rattle.rules.specs.Accept.{rule_limit}
use Rattle.values.specs.Code.Levels.{Level}
use Rattle.values.proofs.levels.levels.Given as goal

abbrev pub invariant-loop-k : goal.invariant-loop-k
invariant-loop-k l = (length l.found ≡ rule_limit) × ((j : ℕ) → j < l.k → Level l.order (has (get_or l.names j 0)) (get_or l.found j 0))
