-- `judging::planning::by_clauses` meets its contract. The invariant: the word has those of the first i clauses above level d.
-- Assumes nothing.
use Prim.Native.Nat.{ℕ, ◌<◌, ◌≤◌, ◌^◌}
use lib.ListN.{get_or, drop}
use Rattle.words.specs.Words.{has}
use Rattle.walks.specs.Code.Context.{Covers}
use Rattle.values.specs.Code.Plan.{levels_from}
use Rattle.judging.proofs.planning.by_clauses.Given as goal

abbrev pub invariant-loop-i : goal.invariant-loop-i
invariant-loop-i l = (l.found < 2 ^ 64) × ((j : ℕ) → l.from ≤ j → j < l.i → l.d < get_or (drop levels_from l.plan) j 0 → Covers l.found (has (get_or l.scopes j 0)))
