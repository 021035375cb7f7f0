-- `sheets::turns::whole` counts all lines. The invariant: the total is that of the lines so far.
-- Assumes nothing.
use Prim.Native.Nat.{suc, ◌-◌}
use lib.ListN.{length}
use Rattle.sheets.specs.Code.Turns.{SofarOn}
use Rattle.sheets.proofs.turns.whole.Given as goal

abbrev pub invariant-loop-at : goal.invariant-loop-at
invariant-loop-at l = SofarOn l.words l.rules l.at l.total

abbrev pub decreases-loop-at : goal.decreases-loop-at
decreases-loop-at l = suc (length l.rules) - l.at
