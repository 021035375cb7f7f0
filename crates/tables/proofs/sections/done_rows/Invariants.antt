-- `tables::sections::done_rows`: the rows of Done read so far are stored in three lists, and what is read from here on is the rest.
-- Assumes nothing.
use lib.ListN.{drop}
use Rattle.tables.specs.Reading.{done_row}
use Rattle.tables.specs.Code.Reads.{put_deeds}
use Rattle.tables.proofs.RowsLaws.{Storing}
use Rattle.tables.proofs.sections.done_rows.Given as goal

abbrev pub invariant-loop-i : goal.invariant-loop-i
invariant-loop-i l = Storing (done_row l.users l.operations l.objects) l.n (drop l.at l.bytes) l.bytes put_deeds l.initial.words l.words l.from l.i
