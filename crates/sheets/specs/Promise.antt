-- What the caller of `sheets::line` sees, and what a line says of an accepted rule (the third demand, as people read it).
-- Assumes nothing.
use Rattle.std.specs.Prelude.{◌≡◌, List, [], ◌∷◌, ℕ, suc, ◌+◌, ◌<◌, length, take, drop}
use Rattle.std.proofs.Math.Option.{some}
use Rattle.std.proofs.Math.ListN.{get_elem?}
use Rattle.answers.specs.Answer.{wrote, lent}
use Rattle.answers.specs.Written.{number_in, length_in, Answers}
use Rattle.answers.specs.Written.{Written}
use Rattle.syntax.specs.Bytes.{Bytes, ascii}
use Rattle.syntax.specs.Rule.{Rule, rule_vars}
use Rattle.tables.specs.Tables.{Tables}
use Rattle.texts.specs.Pieces.{fields}
use Rattle.walks.specs.Order.{up_from}
use Rattle.verdicts.specs.declared.Verdict.{Verdict}
use Rattle.verdicts.specs.Report.{ReportsBy}
use Rattle.sheets.specs.declared.total.Total.{Total}
use Rattle.sheets.specs.Line.{line_text}
use Rattle.sheets.specs.Total.{total_text}
use Rattle.sheets.specs.Sheet.{sheet_of, sheet_line}

-- w and new are what `line` says of a place, and makes of the lent bytes old.
abbrev pub Lines : Bytes → Bytes → ℕ → List ℕ → List ℕ → Written → Type 0
Lines tables rules place old new w = Answers (lent (length old) (wrote (sheet_line (sheet_of tables rules) place))) old new w

-- The text was written: no refusal, its length, its bytes in front, the rest as it was.
pub record Wrote (text : Bytes) (old new : List ℕ) (w : Written) : Type 0 where
  pub number : number_in w ≡ 0
  pub size : length_in w ≡ length text
  pub front : take (length text) new ≡ text
  pub kept : drop (length text) new ≡ drop (length text) old

-- 17, and nothing changed: the text is longer than the lent bytes.
pub record TooShort (text : Bytes) (old new : List ℕ) (w : Written) : Type 0 where
  pub number : number_in w ≡ 17
  pub size : length_in w ≡ 0
  pub kept : new ≡ old
  pub longer : length old < length text

-- "Each line: line number, verdict, full, breaking, share (`-` if idle), then if broken each `vi=item` by variable number": of a verdict that reports
-- full, breaking, the first breaking choice and the share. "The order is 1, 2, .."
pub record LineReports (T : Tables) (ρ : Rule) (place : ℕ) (text : Bytes) : Type 0 where
  pub verdict : Verdict
  pub reports : ReportsBy T ρ (up_from 1 (length (rule_vars [] ρ))) verdict
  pub says : text ≡ line_text place verdict

-- n of these lines carry the word, as their second field.
pub data Carrying (word : Bytes) : List Bytes → ℕ → Type 0 where
  no_more : Carrying word [] 0
  this_one : {l : Bytes} {ls : List Bytes} {n : ℕ} → get_elem? (fields l) 1 ≡ some word → Carrying word ls n → Carrying word (l ∷ ls) (suc n)
  another : {l : Bytes} {ls : List Bytes} {n : ℕ} → (get_elem? (fields l) 1 ≡ some word → ⊥) → Carrying word ls n → Carrying word (l ∷ ls) n

-- N1: "L is the number of lines in `rules.txt`; each other number is how many lines above carry that word. H + I + B + R equals L."
pub record TotalReports (L : ℕ) (above : List Bytes) (text : Bytes) : Type 0 where
  pub total : Total
  pub lines : total.lines ≡ L
  pub held : Carrying (ascii "held") above total.held
  pub idle : Carrying (ascii "idle") above total.idle
  pub broken : Carrying (ascii "broken") above total.broken
  pub refused : Carrying (ascii "refused") above total.refused
  pub adds_up : total.held + total.idle + total.broken + total.refused ≡ total.lines
  pub says : text ≡ total_text total
