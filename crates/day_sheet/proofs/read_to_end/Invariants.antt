-- `day_sheet::read_to_end` is safe and ends: each read that goes on leaves fewer bytes to fill.
-- Assumes nothing.
use Prim.Native.Nat.{◌≤◌, ◌-◌}
use lib.ListN.{length}
use Rattle.day_sheet.proofs.read_to_end.Given as goal

abbrev pub invariant-loop-n : goal.invariant-loop-n
invariant-loop-n l = l.n ≤ length l.out

abbrev pub decreases-loop-n : goal.decreases-loop-n
decreases-loop-n l = length l.out - l.n
