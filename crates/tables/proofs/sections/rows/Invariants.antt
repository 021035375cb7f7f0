-- `tables::sections::rows`: the rows read so far are stored, and what is read from here on is the rest.
-- Assumes nothing.
use lib.ListN.{drop}
use Rattle.tables.specs.Code.Reads.{row_of, rows_from}
use Rattle.tables.proofs.RowsLaws.{Storing}
use Rattle.tables.proofs.sections.rows.Given as goal

abbrev pub invariant-loop-i : goal.invariant-loop-i
invariant-loop-i l = Storing (row_of l.kind) l.n (drop l.at l.bytes) l.bytes (rows_from l.to) l.initial.words l.words l.from l.i
