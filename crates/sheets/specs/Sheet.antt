-- Document 01, "Day sheet": everything that the listing program prints, as the list of its lines without byte 10.
-- Assumes nothing.
use Rattle.std.specs.Prelude.{Bool, true, false, List, [], ◌∷◌, ◌++◌, ℕ, zero, suc, leb, length}
use Rattle.std.proofs.Math.Option.{Option, none, some}
use Rattle.std.proofs.Math.ListN.{get_elem?}
use Rattle.answers.specs.Refusal.{number_of}
use Rattle.syntax.specs.Bytes.{Bytes, ascii}
use Rattle.tables.specs.Tables.{Tables}
use Rattle.tables.specs.Reading.{Reading, rejected, taken, tables_of}
use Rattle.texts.specs.Pieces.{lines}
use Rattle.verdicts.specs.Verdict.{turn_verdict}
use Rattle.sheets.specs.Line.{labelled, line_text}
use Rattle.sheets.specs.Total.{total_of, total_text}

-- The lines of the rules from line k on: "The order is 1, 2, .."
unfoldable pub judged_from : ℕ → Tables → List Bytes → List Bytes
judged_from k T [] = []
judged_from k T (w ∷ ws) = line_text k (turn_verdict T w) ∷ judged_from (suc k) T ws

-- A sheet of one line.
abbrev pub only : Bytes → List Bytes
only w = w ∷ []

-- N1: the lines of the rules, and then the total. "An empty rules file now prints the total line with zeros."
abbrev pub listed : Tables → List Bytes → List Bytes
listed T ws = judged_from 1 T ws ++ only (total_text (total_of T ws))

-- "rules.txt (to 32,768 bytes; longer prints only `rules too long`)"
abbrev pub rules_limit : ℕ
rules_limit = 32768

abbrev pub unless_long : Bool → Tables → Bytes → List Bytes
unless_long true T rules = listed T (lines rules)
unless_long false T rules = only (ascii "rules too long")

-- "Refused tables print only `tables refused N`, before the rules' length is looked at." N1: these "and `rules too long` print as before".
unfoldable pub sheet_by : Reading → Bytes → List Bytes
sheet_by (rejected e) rules = only (labelled (ascii "tables refused ") (number_of e))
sheet_by (taken T) rules = unless_long (leb (length rules) rules_limit) T rules

unfoldable pub sheet_of : Bytes → Bytes → List Bytes
sheet_of tables rules = sheet_by (tables_of tables) rules

-- The line at a place, from 1; no bytes at any other place (no line is empty).
abbrev pub text_or : Option Bytes → Bytes
text_or none = []
text_or (some w) = w

unfoldable pub sheet_line : List Bytes → ℕ → Bytes
sheet_line ls zero = []
sheet_line ls (suc k) = text_or (get_elem? ls k)

-- No line has more bytes: that is a law (`ShortLaws.sheet-short`), and nothing depends on it but the outputs that callers lend.
abbrev pub longest_line : ℕ
longest_line = 96
