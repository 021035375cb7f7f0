-- The line that is lent of whatever tables the words hold.
-- Internal: contracts of entry points do not speak of it. Assumes nothing.
use Rattle.std.specs.Prelude.{List, ℕ, length}
use Rattle.answers.specs.Answer.{wrote, lent}
use Rattle.answers.specs.Written.{Answers}
use Rattle.answers.specs.Written.{Written}
use Rattle.syntax.specs.Bytes.{Bytes}
use Rattle.tables.specs.Tables.{Tables}
use Rattle.tables.specs.Reading.{taken}
use Rattle.tables.specs.Code.Loaded.{TablesAt}
use Rattle.sheets.specs.Sheet.{sheet_by, sheet_line}

abbrev pub LendsOn : List ℕ → Bytes → ℕ → List ℕ → List ℕ → Written → Type 0
LendsOn ts rules place old new r = (T : Tables) → TablesAt ts T → Answers (lent (length old) (wrote (sheet_line (sheet_by (taken T) rules) place))) old new r
