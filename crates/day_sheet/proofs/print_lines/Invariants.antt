-- `day_sheet::print_lines` goes from line to line and ends. The invariant: the total is that of the lines so far.
-- Assumes nothing.
use Prim.Native.Nat.{suc, ◌-◌}
use lib.ListN.{length}
use Rattle.sheets.specs.Code.Turns.{SofarOn}
use Rattle.day_sheet.proofs.print_lines.Given as goal

abbrev pub invariant-loop-reached : goal.invariant-loop-reached
invariant-loop-reached l = SofarOn l.words l.rules l.at l.total

abbrev pub decreases-loop-reached : goal.decreases-loop-reached
decreases-loop-reached l = suc (length l.rules) - l.at
