-- `judging::planning::scopes` meets its contract. The invariant: those of the first i clauses are there.
-- Assumes nothing.
use mathlib.Core.Path.{◌≡◌}
use mathlib.Core.List.{List}
use Prim.Native.Nat.{ℕ}
use lib.ListN.{length}
use Rattle.values.specs.Code.Nodes.{NamesTo}
use Rattle.judging.specs.Code.Planning.{ClausesLow, Scopes}
use Rattle.judging.proofs.planning.scopes.Given as goal

abbrev pub invariant-loop-i : goal.invariant-loop-i
invariant-loop-i l = (length l.found ≡ length l.initial.found) × ((ns : List ℕ) (n : ℕ) (vs : List ℕ) → NamesTo ns n vs l.names n → ClausesLow l.plan l.many n → Scopes ns n vs l.plan l.i l.found)
