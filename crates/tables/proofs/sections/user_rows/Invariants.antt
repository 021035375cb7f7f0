-- `tables::sections::user_rows`: the rows read so far are stored, the word of those present is kept, and what is read from here on is the rest.
-- Assumes nothing.
use lib.ListN.{drop}
use Rattle.tables.specs.Reading.{user_row}
use Rattle.tables.proofs.RowsLaws.{StoringUsers}
use Rattle.tables.proofs.sections.user_rows.Given as goal

abbrev pub invariant-loop-i : goal.invariant-loop-i
invariant-loop-i l = StoringUsers (user_row l.roles) l.n (drop l.at l.bytes) l.bytes l.initial.words l.words l.present l.from l.i
