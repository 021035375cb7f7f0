-- `sessions::rows::row`: nine bytes, of which the last eight are written over.
-- Assumes nothing.
use mathlib.Core.Path.{refl}
use Rattle.sessions.proofs.RowLaws.{row_written}
use Rattle.sessions.proofs.rows.row.Goals as goal

pub returns : goal.returns
returns c = row_written _ _ refl refl c.word_behind.ensures
