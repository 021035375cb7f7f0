-- Laws that join the readings of tables and rules to the sheet: the line at a place.
-- Assumes nothing.
use mathlib.Core.Path.{◌≡◌, sym, ◌∙◌}
use mathlib.Core.Bool.{Bool, true, false, not}
use mathlib.Core.List.{List}
use Prim.Native.Nat.{ℕ, ◌+◌, ◌-◌, ◌≤◌, ◌<◌}
use native.Mathlib.Omega.{arith}
use borrow.Author.Tests.{le-leb, lt-leb, eqb-true, eqb-false, not-true, not-false}
use lib.Dec.{leb, eqb}
use lib.ListN.{length, take, drop, get_elem?}
use Rattle.answers.specs.Refusal.{number_of}
use Rattle.answers.specs.declared.Refusal.{Refusal}
use Rattle.syntax.specs.Bytes.{Bytes, ascii}
use Rattle.std.specs.declared.result.Result.{Result}
use Rattle.std.specs.declared.result.Result.TheVariants.{Ok, Err}
use Rattle.tables.specs.Tables.{Tables}
use Rattle.tables.specs.Reading.{tables_of, loaded_of}
use Rattle.texts.specs.Code.Overwritten.{Overwritten}
use Rattle.std.specs.Prelude.{Some, None}
use Rattle.texts.specs.declared.Span.{Span}
use Rattle.texts.specs.Pieces.{lines}
use Rattle.texts.specs.Code.Spans.{Spans}
use Rattle.texts.proofs.SpansLaws.{missing, lies}
use Rattle.texts.proofs.OverwrittenLaws.{none_written}
use Rattle.verdicts.specs.Verdict.{turn_verdict}
use Rattle.verdicts.proofs.LoadedLaws.{read-rejected, read-taken}
use Rattle.sheets.specs.declared.total.Total.{Total}
use Rattle.sheets.specs.Line.{line_text, labelled}
use Rattle.sheets.specs.Total.{total_of, total_text}
use Rattle.sheets.specs.Sheet.{only, unless_long, sheet_by, sheet_of, sheet_line}
use Rattle.sheets.specs.Code.Lines.{LinesOn}
use Rattle.sheets.proofs.SheetLaws.{listed-some, listed-total, listed-none, past, no_place}

-- The line at a place of accepted tables

module _ (T : Tables) (rules : Bytes) (place : ℕ) where
  abbrev Made : List ℕ → List ℕ → ℕ → Type 0
  Made old new n = Overwritten (sheet_line (unless_long (leb (length rules) 32768) T rules) place) old new n

  pub long-made : {old new : List ℕ} {n : ℕ} → 32768 < length rules → Overwritten (sheet_line (only (ascii "rules too long")) place) old new n → Made old new n
  long-made h w = rw (lt-leb (length rules) 32768 h) w

  pub zero-made : (old : List ℕ) → place ≡ 0 → Made old old 0
  zero-made old e = rw (no_place (unless_long (leb (length rules) 32768) T rules) place e) (none_written old)

  pub total_made : {b : Bool} {old new : List ℕ} {n : ℕ} {t : Total} → length rules ≤ 32768 → b ≡ eqb place (length (lines rules) + 1) → not b ≡ false → t ≡ total_of T (lines rules)
      → Overwritten (total_text t) old new n → Made old new n
  total_made {b} h f l q w =
      let e : place ≡ length (lines rules) + 1 = eqb-true place (length (lines rules) + 1) (sym f ∙ not-false b l) in
      rw (le-leb (length rules) 32768 h, listed-total T (lines rules) place e) (rw q at w)

  pub beyond-made : {b : Bool} (old : List ℕ) → length rules ≤ 32768 → length (lines rules) < place → b ≡ eqb place (length (lines rules) + 1) → not b ≡ true → Made old old 0
  beyond-made {b} old h p f l =
      let n : place ≡ length (lines rules) + 1 → ⊥ = eqb-false place (length (lines rules) + 1) (sym f ∙ not-true b l) in
      rw (le-leb (length rules) 32768 h, listed-none T (lines rules) place (omega (arith, n))) (none_written old)

  pub found-made : {p : Span} {old new : List ℕ} {n : ℕ} → length rules ≤ 32768 → (place ≡ 0 → ⊥)
      → Spans rules (get_elem? (lines rules) (place - 1)) (Some p)
      → Overwritten (line_text place (turn_verdict T (take (p.end - p.start) (drop p.start rules)))) old new n → Made old new n
  found-made h z f w = let l = lies f in rw (le-leb (length rules) 32768 h, listed-some T (lines rules) place _ z l.bytes) w

-- A place without a line is behind them.
pub no-line-at : (rules : Bytes) (place : ℕ) → Spans rules (get_elem? (lines rules) (place - 1)) None → (place ≡ 0 → ⊥) → length (lines rules) < place
no-line-at rules place f n = omega (arith, past (lines rules) (place - 1) (missing f), n)

-- The line at a place of any tables

module _ (tables rules : Bytes) (place : ℕ) {o : Result (List ℕ) Refusal} (r : o ≡ loaded_of (tables_of tables)) {old new : List ℕ} {n : ℕ} where
  pub rejected-made : {e : Refusal} → o ≡ Err e
      → Overwritten (sheet_line (only (labelled (ascii "tables refused ") (number_of e))) place) old new n → Overwritten (sheet_line (sheet_of tables rules) place) old new n
  unfolding sheet_of sheet_by
  rejected-made q w = rw (read-rejected tables r q) w

  pub taken_made : {ts : List ℕ} → o ≡ Ok ts → LinesOn ts rules place old new n → Overwritten (sheet_line (sheet_of tables rules) place) old new n
  unfolding sheet_of sheet_by
  taken_made q f = let t = read-taken tables r q in rw t.is (f t.tables t.holds)
