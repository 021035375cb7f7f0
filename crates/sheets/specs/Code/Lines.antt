-- Internal: the lines of whatever tables the words hold.
-- Assumes nothing.
use Rattle.std.specs.Prelude.{List, ℕ, leb, length}
use Rattle.syntax.specs.Bytes.{Bytes}
use Rattle.tables.specs.Tables.{Tables}
use Rattle.texts.specs.Code.Overwritten.{Overwritten}
use Rattle.verdicts.specs.Verdict.{turn_verdict}
use Rattle.verdicts.specs.Code.Judging.{TablesAt}
use Rattle.sheets.specs.Line.{line_text}
use Rattle.sheets.specs.Sheet.{rules_limit, unless_long, sheet_line}

-- No line has as many bytes.
abbrev pub line_room : ℕ
line_room = 512

module _ (ts : List ℕ) (bytes : Bytes) (place : ℕ) (old new : List ℕ) (n : ℕ) where
  -- The line at a place of the rules in the bytes;
  abbrev pub LinesOn : Type 0
  LinesOn = (T : Tables) → TablesAt ts T → Overwritten (sheet_line (unless_long (leb (length bytes) rules_limit) T bytes) place) old new n

  -- the line of the one rule in the bytes.
  abbrev pub RuleLineOn : Type 0
  RuleLineOn = (T : Tables) → TablesAt ts T → Overwritten (line_text place (turn_verdict T bytes)) old new n
