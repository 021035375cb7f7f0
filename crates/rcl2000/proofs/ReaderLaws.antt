-- What `sheet_line` answers, n bytes lent: where it refuses, and that a line is short.
-- Assumes nothing.
use mathlib.Core.Path.{◌≡◌, refl, sym, ap, ◌∙◌}
use mathlib.Core.Bool.{Bool, true, false}
use mathlib.Core.List.{List}
use mathlib.Core.Logic.{◌↔◌, inl, inr}
use Prim.Native.Nat.{ℕ, ◌<◌}
use native.Mathlib.Omega.{arith}
use lib.ListN.{length}
use Rattle.answers.specs.Refusal.{number_of}
use Rattle.answers.specs.Answer.{refused, wrote, lent}
use Rattle.answers.specs.declared.Refusal.{Refusal}
use Rattle.answers.proofs.AnswerLaws.{lent-short}
use Rattle.tables.specs.Tables.{Tables}
use Rattle.tables.specs.Encode.{encode}
use Rattle.tables.specs.Reading.{Reading, rejected, taken, tables_of}
use Rattle.tables.proofs.FitsLaws.{accepted-passes}
use Rattle.syntax.specs.Bytes.{Bytes}
use Rattle.sheets.specs.Sheet.{sheet_of, sheet_line}
use Rattle.sheets.proofs.ShortLaws.{sheet-short}
use Rattle.cuts.specs.Cut.{cut}
use Rattle.readers.specs.Reader.{reader_sheet, Beyond, is_beyond, reader_line}
use Rattle.readers.proofs.BeyondLaws.{beyond-exactly, not_beyond}
use Rattle.readers.proofs.SheetLaws.{reader-sheet, line-rejects, line-strange, line-written}
use Rattle.rcl2000.specs.Calls.{LineRefuses, line_tables, line_reader, line_longer, LineNumber}
use Rattle.rcl2000.proofs.CallLaws.{Short}
use Rattle.rcl2000.proofs.FormulaLaws.{short-lent, stays-refused, same-refused}
use Rattle.rcl2000.proofs.RefusalLaws.{of-tables}

-- What is met first: refused tables, a word with a bit too many, or there is a sheet.
data Met (tables : Bytes) (w : ℕ) : Type 0 where
  bad_tables : (e : Refusal) → tables_of tables ≡ rejected e → Met tables w
  bad_reader : (T : Tables) → tables_of tables ≡ taken T → Beyond w T → Met tables w
  good : (T : Tables) → tables_of tables ≡ taken T → (Beyond w T → ⊥) → Met tables w

met : (tables : Bytes) (w : ℕ) → Met tables w
met tables w = at-tables (tables_of tables) refl
  where
    at-word : (T : Tables) → tables_of tables ≡ taken T → (b : Bool) → is_beyond w T ≡ b → Met tables w
    at-word T t true q = bad_reader T t ((beyond-exactly w T).0 q)
    at-word T t false q = good T t (not_beyond w T q)

    at-tables : (o : Reading) → tables_of tables ≡ o → Met tables w
    at-tables (rejected e) t = bad_tables e t
    at-tables (taken T) t = at-word T t (is_beyond w T) refl

module _ (tables : Bytes) (w : ℕ) (rules : Bytes) (place : ℕ) where
  -- The line is the day sheet's, of the tables as the reader sees them.
  pub line-cut : {T : Tables} → tables_of tables ≡ taken T → (Beyond w T → ⊥) → reader_line tables w rules place ≡ wrote (sheet_line (sheet_of (encode (cut w T)) rules) place)
  line-cut {T} t n =
      line-written tables w rules place t n ∙ ap (λ (ls : List Bytes). wrote (sheet_line ls place)) (reader-sheet w (accepted-passes tables t) rules)

  pub line-short : Short (reader_line tables w rules place)
  line-short b q = go (met tables w)
    where
      go : Met tables w → length b < 65536
      go (bad_tables e t) = let z : ◌≡◌ {A = ℕ} 0 1 = cc (line-rejects tables w rules place t, q) in absurd (omega arith)
      go (bad_reader T t x) = let z : ◌≡◌ {A = ℕ} 0 1 = cc (line-strange tables w rules place t x, q) in absurd (omega arith)
      go (good T t n) =
          let same : sheet_line (sheet_of (encode (cut w T)) rules) place ≡ b = cc (line-cut t n, q) in
          omega (arith, ap length same, sheet-short (encode (cut w T)) rules place)

  pub line_refused : (n : ℕ) (e : Refusal) → (lent n (reader_line tables w rules place) ≡ refused e) ↔ LineRefuses tables w rules place n e
  line_refused n e = (λ q. there (met tables w) q, λ x. back x)
    where
      there : Met tables w → lent n (reader_line tables w rules place) ≡ refused e → LineRefuses tables w rules place n e
      there (bad_tables d t) q = line_tables (t ∙ ap rejected (same-refused n (line-rejects tables w rules place t) q))
      there (bad_reader T t x) q = rw (← (same-refused n (line-strange tables w rules place t x) q)) (line_reader t x)
      there (good T t k) q =
          let s = short-lent n (sheet_line (reader_sheet w T rules) place) (sym (ap (lent n) (line-written tables w rules place t k)) ∙ q) in
          rw (← s.0) (line_longer t k s.1)

      back : {e : Refusal} → LineRefuses tables w rules place n e → lent n (reader_line tables w rules place) ≡ refused e
      back (line_tables t) = stays-refused n (line-rejects tables w rules place t)
      back (line_reader t x) = stays-refused n (line-strange tables w rules place t x)
      back (line_longer {T} t k l) = ap (lent n) (line-written tables w rules place t k) ∙ lent-short n (sheet_line (reader_sheet w T rules) place) l

pub line-own : {tables : Bytes} {w : ℕ} {rules : Bytes} {place n : ℕ} {e : Refusal} → LineRefuses tables w rules place n e → LineNumber (number_of e)
line-own {tables} (line_tables t) = inl (of-tables tables t)
line-own (line_reader t x) = inr (inl refl)
line-own (line_longer t k l) = inr (inr refl)
