-- `tables::twins::apart`: each word passed is new, and its slot is taken.
-- Assumes nothing.
use lib.ListN.{length}
use Rattle.tables.specs.Code.Reads.{new_at, SlotsTaken}
use Rattle.tables.proofs.AllLaws.{Passed}
use Rattle.tables.proofs.twins.apart.Given as goal

abbrev pub invariant-loop-i : goal.invariant-loop-i
invariant-loop-i l = Passed (length l.words) (new_at l.words) l.i × SlotsTaken l.words l.i l.taken
