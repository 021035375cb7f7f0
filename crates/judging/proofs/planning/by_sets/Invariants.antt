-- `judging::planning::by_sets` meets its contract. The invariant: the word has those of the variables that were passed.
-- Assumes nothing.
use Prim.Native.Nat.{ℕ, ◌+◌, ◌<◌, ◌^◌}
use lib.ListN.{length, get_or}
use Rattle.words.specs.Words.{has}
use Rattle.walks.specs.Code.Context.{Covers}
use Rattle.judging.proofs.planning.by_sets.Given as goal

abbrev pub invariant-loop-v : goal.invariant-loop-v
invariant-loop-v l = (l.found < 2 ^ 64) × ((i : ℕ) → i < length l.yielded → Covers l.found (has (get_or l.names (get_or l.order (l.d + i) 0) 0)))
