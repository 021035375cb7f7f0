-- `tables::sections::session_rows`: the sessions read so far are stored in two lists, and what is read from here on is the rest.
-- Assumes nothing.
use lib.ListN.{drop}
use Rattle.tables.specs.Reading.{session_row}
use Rattle.tables.specs.Code.Reads.{put_sessions}
use Rattle.tables.proofs.RowsLaws.{Storing}
use Rattle.tables.proofs.sections.session_rows.Given as goal

abbrev pub invariant-loop-i : goal.invariant-loop-i
invariant-loop-i l = Storing (session_row l.users l.roles) l.n (drop l.at l.bytes) l.bytes put_sessions l.initial.words l.words l.from l.i
