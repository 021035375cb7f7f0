-- Internal: the lines of a sheet one after another, with the total of those so far.
-- Assumes nothing.
use Rattle.std.specs.Prelude.{Option, Some, None, ◌≡◌, List, ◌++◌, ℕ, ◌+◌, ◌≤◌, ◌<◌, length, drop}
use Rattle.syntax.specs.Bytes.{Bytes, ascii}
use Rattle.tables.specs.Tables.{Tables}
use Rattle.texts.specs.Pieces.{lines}
use Rattle.texts.specs.Code.Overwritten.{Overwritten}
use Rattle.verdicts.specs.Code.Judging.{TablesAt}
use Rattle.verdicts.specs.declared.Outcome.{Outcome}
use Rattle.verdicts.specs.declared.Outcome.TheVariants.{Refused, Held, Idle, Broken}
use Rattle.sheets.specs.declared.total.Total.{Total}
use Rattle.sheets.specs.declared.turns.Judged.{Judged}
use Rattle.sheets.specs.declared.turns.Reached.{Reached}
use Rattle.sheets.specs.Line.{labelled, line_text}
use Rattle.sheets.specs.Total.{is_held, is_idle, is_broken, is_refused, how_many, total_of}
use Rattle.sheets.specs.Sheet.{rules_limit, listed, sheet_line}

abbrev pub no_lines : Total
no_lines = record { lines = 0; held = 0; idle = 0; broken = 0; refused = 0 }

-- One line more, with this outcome.
unfoldable pub counted : Outcome → Total → Total
counted (Refused e) t = record { lines = t.lines + 1; held = t.held; idle = t.idle; broken = t.broken; refused = t.refused + 1 }
counted Held t = record { lines = t.lines + 1; held = t.held + 1; idle = t.idle; broken = t.broken; refused = t.refused }
counted Idle t = record { lines = t.lines + 1; held = t.held; idle = t.idle + 1; broken = t.broken; refused = t.refused }
counted Broken t = record { lines = t.lines + 1; held = t.held; idle = t.idle; broken = t.broken + 1; refused = t.refused }

-- The total is written two numbers at a time.
abbrev pub front_text : Total → Bytes
front_text t = labelled (ascii "total ") t.lines ++ labelled (ascii " held ") t.held

abbrev pub middle_text : Total → Bytes
middle_text t = labelled (ascii " idle ") t.idle ++ labelled (ascii " broken ") t.broken

abbrev pub others_text : Total → Bytes
others_text t = middle_text t ++ labelled (ascii " refused ") t.refused

-- The total t and that of the lines ws come to the total of all.
pub record Adds (T : Tables) (ws : List Bytes) (t : Total) (all : List Bytes) : Type 0 where
  pub lines : t.lines + length ws ≡ length all
  pub held : t.held + how_many is_held T ws ≡ how_many is_held T all
  pub idle : t.idle + how_many is_idle T ws ≡ how_many is_idle T all
  pub broken : t.broken + how_many is_broken T ws ≡ how_many is_broken T all
  pub refused : t.refused + how_many is_refused T ws ≡ how_many is_refused T all

-- A total of lines that begin before a place.
pub record Earlier (at : ℕ) (t : Total) : Type 0 where
  pub few : t.lines ≤ at
  pub sum : t.held + t.idle + t.broken + t.refused ≡ t.lines

-- t is the total of the lines before the byte `at`, at which the next one begins, if any.
pub record Sofar (T : Tables) (rules : Bytes) (at : ℕ) (t : Total) : Type 0 where
  pub rest : lines (drop at rules) ≡ drop t.lines (lines rules)
  pub adds : Adds T (lines (drop at rules)) t (lines rules)

module _ (ts : List ℕ) (rules : Bytes) where
  -- The same whatever tables the words hold, of rules that are listed.
  pub record SofarOn (at : ℕ) (t : Total) : Type 0 where
    pub short : length rules ≤ rules_limit
    pub earlier : Earlier at t
    pub sofar : (T : Tables) → TablesAt ts T → Sofar T rules at t

  -- A line begins at `at`, and the next one further on.
  pub record Onward (at next : ℕ) (t : Total) : Type 0 where
    pub within : at < length rules
    pub further : at < next
    pub on : SofarOn next t

  -- The rule behind the lines so far is judged: its line is the sheet's;
  abbrev pub JudgesNext : Total → Judged → Type 0
  JudgesNext t r = (T : Tables) → TablesAt ts T → line_text (t.lines + 1) r.verdict ≡ sheet_line (listed T (lines rules)) (t.lines + 1)

  -- the line behind those so far is written, a rule's or the total;
  abbrev pub WritesNext : Total → List ℕ → List ℕ → ℕ → Type 0
  WritesNext t old new n = (T : Tables) → TablesAt ts T → Overwritten (sheet_line (listed T (lines rules)) (t.lines + 1)) old new n

  -- which is the last one, or there are more;
  abbrev pub Turns : ℕ → Total → Option Reached → Type 0
  Turns at t None = (T : Tables) → TablesAt ts T → length (listed T (lines rules)) ≡ t.lines + 1
  Turns at t (Some r) = Onward at r.at r.total

  -- the total of all lines.
  abbrev pub Totalled : Total → Type 0
  Totalled r = (T : Tables) → TablesAt ts T → r ≡ total_of T (lines rules)
