-- `tables::rows::row`: each kind by its own reader.
-- Assumes nothing.
use Rattle.tables.specs.Reading.{permission_row}
use Rattle.tables.proofs.ReadLaws.{read-last}
use Rattle.tables.proofs.rows.row.Goals as goal

pub returns-in-Marked : goal.returns-in-Marked
unfolding permission_row
returns-in-Marked c = rw c.in-Marked.is (read-last (λ m. m.word) c.marked_row.ensures (λ m v h. h.word))
