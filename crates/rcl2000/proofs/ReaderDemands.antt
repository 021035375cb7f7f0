-- The demands, and document 02's N10, of what the tracker sees of `sheet_line`: the number r that the call returns and the lent bytes, old before it
-- and new after it. The contract says `ListsLine` of them. Assumes nothing.
use mathlib.Core.Path.{◌≡◌, refl, sym, ap, ◌∙◌}
use mathlib.Core.List.{List, [], ◌++◌}
use mathlib.Core.Logic.{◌↔◌}
use mathlib.Core.Option.{none, some}
use Prim.Native.Nat.{ℕ, suc, ◌*◌, ◌≤◌, ◌<◌}
use native.Mathlib.Nat.{le_trans}
use native.Mathlib.Omega.{arith}
use lib.ListN.{length, take, get_elem?}
use Rattle.answers.specs.Refusal.{number_of}
use Rattle.answers.specs.Answer.{Answer, wrote, lent, reply, output_after}
use Rattle.answers.specs.declared.Refusal.{Refusal}
use Rattle.answers.proofs.AnswerLaws.{lent-wrote, lent_fits}
use Rattle.words.specs.Words.{all_of}
use Rattle.tables.specs.Tables.{Tables}
use Rattle.tables.specs.Encode.{encode}
use Rattle.tables.specs.Reading.{taken, tables_of}
use Rattle.tables.proofs.FitsLaws.{accepted-passes}
use Rattle.texts.specs.Decimal.{decimal_of}
use Rattle.texts.specs.Pieces.{lines}
use Rattle.syntax.specs.Bytes.{Bytes, ascii}
use Rattle.syntax.specs.Rule.{Rule, rule_vars, rule_of}
use Rattle.rules.specs.Accept.{refusal}
use Rattle.forecasts.proofs.ForecastLaws.{full-below}
use Rattle.sheets.specs.Line.{labelled}
use Rattle.sheets.specs.Sheet.{only, sheet_of, sheet_line, longest_line}
use Rattle.sheets.specs.Promise.{LineReports, TotalReports}
use Rattle.sheets.proofs.Demands.{line-tells, line_refused as text-refused, long-only, above-reports, nothing-further}
use Rattle.sheets.proofs.SheetLaws.{first-line, no_line, no_place}
use Rattle.sheets.proofs.ShortLaws.{sheet-short}
use Rattle.cuts.specs.Cut.{cut}
use Rattle.cuts.specs.Alike.{SeenAlike}
use Rattle.cuts.proofs.PassLaws.{cut-passes}
use Rattle.readers.specs.Reader.{Beyond, reader_line}
use Rattle.readers.proofs.SheetLaws.{cut-accepted, line-written, lines-alike, none-beyond, whole-sheet}
use Rattle.rcl2000.specs.Calls.{Writes, Ends, Forecasts, told_ceiling, ListsLine, DayLine, LineRefuses, LineNumber}
use Rattle.rcl2000.proofs.CallLaws.{through, lent-room, sees-wrote, refuses-exactly, writes-exactly, call_ends}
use Rattle.rcl2000.proofs.ForecastDemands.{forecast-writes}
use Rattle.rcl2000.proofs.ReaderCeilingLaws.{ceiling-most}
use Rattle.rcl2000.proofs.ReaderLaws.{line-cut, line-short, line_refused, line-own}

-- DEMAND 1. "finishes with an answer or a numbered refusal; a refusal carries no result and changes no lent byte".
pub line-ends : (tables : Bytes) (w : ℕ) (rules : Bytes) (place : ℕ) (old new : Bytes) (r : ℕ) → ListsLine tables w rules place old new r → Ends LineNumber old new r
line-ends tables w rules place old new r s =
    call_ends s LineNumber (line-short tables w rules place) (λ e q. line-own ((line_refused tables w rules place (length old) e).0 q))

-- DEMAND 2. By each number exactly where it is due: the tables' own; 23, before the rules are looked at; 17 only where there is a line.
pub line-refuses : (tables : Bytes) (w : ℕ) (rules : Bytes) (place : ℕ) (old new : Bytes) (r : ℕ) → ListsLine tables w rules place old new r → (e : Refusal)
    → (r ≡ 65536 * number_of e) ↔ LineRefuses tables w rules place (length old) e
line-refuses tables w rules place old new r s e = through (refuses-exactly s (line-short tables w rules place) e) (line_refused tables w rules place (length old) e)

-- N10: "Two accepted tables with the same .. give that reader equal sheets, refusals included, for every one rules file": for every rules file, place and
-- lent output the same number is returned, and the same bytes are left.
pub equal-sheets : (a b : Bytes) (T U : Tables) → tables_of a ≡ taken T → tables_of b ≡ taken U → (w : ℕ) → SeenAlike w T U → (rules : Bytes) (place : ℕ)
    (old new new' : Bytes) (r r' : ℕ) → ListsLine a w rules place old new r → ListsLine b w rules place old new' r' → (r ≡ r') × (new ≡ new')
equal-sheets a b T U t u w s rules place old new new' r r' x y =
    let same = ap (lent (length old)) (lines-alike a b t u s rules place) in (
      x.number ∙ ap reply same ∙ sym y.number,
      x.bytes ∙ ap (λ (c : Answer). output_after c old) same ∙ sym y.bytes,
    )

-- The reader of all users gets the day sheet itself, line by line.
pub whole-reader : (tables : Bytes) (T : Tables) → tables_of tables ≡ taken T → (rules : Bytes) (place : ℕ) (old new : Bytes) (r : ℕ)
    → ListsLine tables (all_of (length T.users)) rules place old new r → DayLine tables rules place old new r
whole-reader tables T t rules place old new r s =
    let w = all_of (length T.users) in
    let is : reader_line tables w rules place ≡ wrote (sheet_line (sheet_of tables rules) place) =
    line-written tables w rules place t (none-beyond tables t) ∙ ap (λ (ls : List Bytes). wrote (sheet_line ls place)) (whole-sheet tables t rules) in
    rw is at s

-- On accepted tables, for a reader whose users these have.
module _ (tables : Bytes) (T : Tables) (t : tables_of tables ≡ taken T) (w : ℕ) (known : Beyond w T → ⊥) (rules : Bytes) where
  -- The bytes of the tables as the reader sees them.
  abbrev seen : Bytes
  seen = encode (cut w T)

  -- They are accepted, and the reader's sheet is their day sheet: what is said of the day sheet is said of it.
  pub reader-lines : (tables_of seen ≡ taken (cut w T)) × ((place : ℕ) (old new : Bytes) (r : ℕ) → ListsLine tables w rules place old new r → DayLine seen rules place old new r)
  reader-lines = (cut-accepted w (accepted-passes tables t), λ place old new r s. rw (line-cut tables w rules place t known) at s)

  -- A number below 65,536 is returned exactly where the line has room; then it is written, and the rest is as it was.
  pub line-accepts : (place : ℕ) (old new : Bytes) (r : ℕ) → ListsLine tables w rules place old new r → (r < 65536) ↔ (length (sheet_line (sheet_of seen rules) place) ≤ length old)
  line-accepts place old new r s =
      let line = sheet_line (sheet_of seen rules) place in
      let is : lent (length old) (reader_line tables w rules place) ≡ lent (length old) (wrote line) = ap (lent (length old)) (line-cut tables w rules place t known) in (
        λ l.
            let x = (writes-exactly s (line-short tables w rules place)).0 l in
            let same : line ≡ x.0 = cc (lent-wrote (length old) (wrote line) x.0 (sym is ∙ x.1)) in
            rw same (lent-room (length old) (reader_line tables w rules place) x.0 x.1),
        λ l. (writes-exactly s (line-short tables w rules place)).1 (line, is ∙ lent_fits (length old) line l),
      )

  pub line_writes : (place : ℕ) (old new : Bytes) (r : ℕ) → ListsLine tables w rules place old new r → r < 65536 → Writes (sheet_line (sheet_of seen rules) place) old new r
  line_writes place old new r s l =
      let x = (writes-exactly s (line-short tables w rules place)).0 l in
      let same : sheet_line (sheet_of seen rules) place ≡ x.0 =
      cc (line-cut tables w rules place t known, lent-wrote (length old) (reader_line tables w rules place) x.0 x.1) in
      rw same (sees-wrote s (line-short tables w rules place) x.1)

  -- No line is longer than 96 bytes, so an output of as many is never too short.
  pub line-fits : (place : ℕ) (old new : Bytes) (r : ℕ) → longest_line ≤ length old → ListsLine tables w rules place old new r → r ≤ longest_line
  line-fits place old new r room s =
      let most = sheet-short seen rules place in
      let fits = lent_fits (length old) (sheet_line (sheet_of seen rules) place) (omega arith) in
      let is = sees-wrote s (line-short tables w rules place) (ap (lent (length old)) (line-cut tables w rules place t known) ∙ fits) in
      omega (arith, is.number)

  -- "any other place gives length 0", on every lent output: at place 0,
  nothing_lent : (place : ℕ) (old new : Bytes) (r : ℕ) → ListsLine tables w rules place old new r → sheet_line (sheet_of seen rules) place ≡ [] → (r ≡ 0) × (new ≡ old)
  unfolding reply output_after
  nothing_lent place old new r s e =
      let is : lent (length old) (reader_line tables w rules place) ≡ wrote [] =
      ap (lent (length old)) (line-cut tables w rules place t known ∙ ap wrote e) ∙ lent_fits (length old) [] (omega arith) in
      (s.number ∙ ap reply is, s.bytes ∙ ap (λ (a : Answer). output_after a old) is)

  pub line_before : (old new : Bytes) (r : ℕ) → ListsLine tables w rules 0 old new r → (r ≡ 0) × (new ≡ old)
  line_before old new r s = nothing_lent 0 old new r s (no_place (sheet_of seen rules) 0 refl)

  -- and where "rules above 32,768 bytes make the one line `rules too long`" at every place but 1.
  module _ (long : 32768 < length rules) where
    only-line : sheet_of seen rules ≡ only (ascii "rules too long")
    only-line = long-only seen rules (cut w T) reader-lines.0 long

    pub line-long : (old new : Bytes) (r : ℕ) → ListsLine tables w rules 1 old new r → r < 65536 → Writes (ascii "rules too long") old new r
    line-long old new r s l =
        let e : sheet_line (sheet_of seen rules) 1 ≡ ascii "rules too long" =
        ap (λ (ls : List Bytes). sheet_line ls 1) only-line ∙ first-line (ascii "rules too long") 1 refl in
        rw (← e) (line_writes 1 old new r s l)

    pub line-beside : (place : ℕ) → (place ≡ 1 → ⊥) → (old new : Bytes) (r : ℕ) → ListsLine tables w rules place old new r → (r ≡ 0) × (new ≡ old)
    line-beside place n old new r s =
        nothing_lent place old new r s (ap (λ (ls : List Bytes). sheet_line ls place) only-line ∙ no_line (ascii "rules too long") place n)

  module _ (short : length rules ≤ 32768) where
    -- DEMAND 3, of the line at place k + 1: an accepted rule's reports its verdict on the tables as the reader sees them, a refused rule's its number.
    pub line-reports : (k : ℕ) (rule : Bytes) (ρ : Rule) → get_elem? (lines rules) k ≡ some rule → refusal rule ≡ none → rule_of rule ≡ some ρ
        → (old new : Bytes) (r : ℕ) → ListsLine tables w rules (suc k) old new r → r < 65536 → LineReports (cut w T) ρ (suc k) (take r new)
    line-reports k rule ρ at ok tree old new r s l =
        rw (line_writes (suc k) old new r s l).front (line-tells seen rules (cut w T) reader-lines.0 short k rule at ok tree)

    -- N5, of a reader: "Full is never above the ceiling" that `forecast` told of the rule on the whole tables.
    pub line-within : (k : ℕ) (rule : Bytes) (ρ : Rule) → refusal rule ≡ none → rule_of rule ≡ some ρ → (text : Bytes) (x : LineReports (cut w T) ρ (suc k) text)
        → (old new : Bytes) (r : ℕ) → Forecasts tables rule old new r → r < 65536 → x.verdict.full ≤ told_ceiling new
    line-within k rule ρ ok tree text x old new r s l =
        let (S, π, g, room, n, told) = (forecast-writes tables rule old new r s).0 l in
        let one : S ≡ T = cc (g.reads, t) in
        let other : π ≡ ρ = cc (g.tree, tree) in
        let fits = (cut-passes w T (accepted-passes tables t)).sound.fits in
        rw (x.reports.1.fulls, told.most, one, other) (le_trans (full-below (cut w T) fits ρ) (ceiling-most w T (rule_vars [] ρ)))

    pub line-numbers : (k : ℕ) (rule : Bytes) (e : Refusal) → get_elem? (lines rules) k ≡ some rule → refusal rule ≡ some e
        → (old new : Bytes) (r : ℕ) → ListsLine tables w rules (suc k) old new r → r < 65536
        → take r new ≡ decimal_of (suc k) ++ labelled (ascii " refused ") (number_of e)
    line-numbers k rule e at bad old new r s l =
        (line_writes (suc k) old new r s l).front ∙ text-refused seen rules (cut w T) reader-lines.0 short k rule at e bad

    -- "N1's total included": behind the L lines stands their total, and there is nothing further.
    pub line-totals : (old new : Bytes) (r : ℕ) → ListsLine tables w rules (suc (length (lines rules))) old new r → r < 65536
        → TotalReports (length (lines rules)) (take (length (lines rules)) (sheet_of seen rules)) (take r new)
    line-totals old new r s l =
        rw (line_writes (suc (length (lines rules))) old new r s l).front (above-reports seen rules (cut w T) reader-lines.0 short)

    pub line-further : (place : ℕ) → suc (length (lines rules)) < place → (old new : Bytes) (r : ℕ) → ListsLine tables w rules place old new r → (r ≡ 0) × (new ≡ old)
    line-further place h old new r s = nothing_lent place old new r s (nothing-further seen rules (cut w T) reader-lines.0 short place h)
