-- `walks::variables` meets its contract. The loop's invariant: the first i variables are those of the first i bytes.
-- Assumes nothing.
use mathlib.Core.Path.{◌≡◌}
use lib.ListN.{length, take}
use Rattle.walks.specs.Order.{variables_of}
use Rattle.walks.proofs.variables.Given as goal

abbrev pub invariant-loop-i : goal.invariant-loop-i
invariant-loop-i l = (length l.vs ≡ 8) × (take l.i l.vs ≡ variables_of (take l.i l.order))
