-- The demands, of what the caller of `sheets::line` sees.
-- Assumes nothing.
use mathlib.Core.Path.{◌≡◌, refl, sym, ap, ◌∙◌}
use mathlib.Core.List.{List, [], ◌++◌}
use mathlib.Core.Option.{none, some}
use mathlib.Core.Bool.{Bool, true, false}
use mathlib.Core.Logic.{◌⊎◌, inl, inr}
use Prim.Native.Nat.{ℕ, suc, ◌-◌, ◌≤◌, ◌<◌}
use native.Mathlib.Omega.{arith}
use lib.Dec.{leb}
use lib.ListN.{length, take, drop, get_elem?}
use lib.Seq.{take_at, drop_at}
use borrow.Author.Tests.{le-leb, lt-leb, leb-false}
use Rattle.answers.specs.Refusal.{number_of}
use Rattle.answers.specs.Answer.{Answer, wrote, if_room, lent, output_after, answer_number, answer_length}
use Rattle.answers.specs.Written.{number_in, length_in}
use Rattle.answers.specs.Written.{Written}
use Rattle.answers.specs.declared.Refusal.{Refusal}
use Rattle.syntax.specs.Bytes.{Bytes, ascii}
use Rattle.syntax.specs.Rule.{Rule, rule_text, rule_of}
use Rattle.syntax.proofs.RuleLaws.{rule-text}
use Rattle.rules.specs.Accept.{refusal, accepted}
use Rattle.rules.proofs.AcceptLaws.{none_true, accepted-rule}
use Rattle.tables.specs.Tables.{Tables}
use Rattle.tables.specs.Reading.{rejected, taken, tables_of}
use Rattle.functions.specs.Done.{SameDone}
use Rattle.texts.specs.Pieces.{lines}
use Rattle.texts.specs.Decimal.{decimal_of}
use Rattle.verdicts.specs.Verdict.{accepted_verdict, turn_verdict}
use Rattle.verdicts.specs.Both.{Given}
use Rattle.verdicts.proofs.GivenLaws.{turn-reports}
use Rattle.verdicts.proofs.AlikeLaws.{done-twins}
use Rattle.sheets.specs.Line.{labelled, says_of, line_text}
use Rattle.sheets.specs.Total.{is_held, is_idle, is_broken, is_refused, total_of}
use Rattle.sheets.specs.Sheet.{judged_from, only, listed, sheet_by, sheet_of, sheet_line}
use Rattle.sheets.specs.Promise.{Lines, Wrote, TooShort, LineReports, TotalReports}
use Rattle.sheets.proofs.SheetLaws.{judged-length, listed-some, listed-total, listed-none}
use Rattle.sheets.proofs.TotalLaws.{total-adds-up}
use Rattle.sheets.proofs.AlikeLaws.{sheet-alike}
use Rattle.sheets.proofs.WordLaws.{tells-held, tells-idle, tells-broken, tells-refused, carried}

-- DEMANDS 1 and 2. `line` finishes, on every input, with its line written or with 17, which changes no lent byte; 17 exactly where the line is longer.
pub line-ends : (tables rules : Bytes) (place : ℕ) {old new : List ℕ} {w : Written} → Lines tables rules place old new w
    → Wrote (sheet_line (sheet_of tables rules) place) old new w ⊎ TooShort (sheet_line (sheet_of tables rules) place) old new w
unfolding lent output_after
line-ends tables rules place {old} {new} {w} p = go (sheet_line (sheet_of tables rules) place) (leb (length (sheet_line (sheet_of tables rules) place)) (length old)) refl p.number p.size p.output
  where
    go : (t : Bytes) (b : Bool) → leb (length t) (length old) ≡ b → number_in w ≡ answer_number (if_room b t) → length_in w ≡ answer_length (if_room b t) → new ≡ output_after (if_room b t) old
        → Wrote t old new w ⊎ TooShort t old new w
    go t true h n l o = inl (record { number = n; size = l; front = rw o (take_at t (drop (length t) old) (length t) refl); kept = rw o (drop_at t (drop (length t) old) (length t) refl) })
    go t false h n l o = inr (record { number = n; size = l; kept = o; longer = leb-false (length t) (length old) h })

pub line-written : (tables rules : Bytes) (place : ℕ) {old new : List ℕ} {w : Written} → Lines tables rules place old new w
    → length (sheet_line (sheet_of tables rules) place) ≤ length old → Wrote (sheet_line (sheet_of tables rules) place) old new w
line-written tables rules place {old} {new} {w} p room = go (line-ends tables rules place p)
  where
    go : Wrote (sheet_line (sheet_of tables rules) place) old new w ⊎ TooShort (sheet_line (sheet_of tables rules) place) old new w → Wrote (sheet_line (sheet_of tables rules) place) old new w
    go (inl x) = x
    go (inr x) = absurd (omega (arith, x.longer))

-- DEMAND 3, as the sheet's reader meets it, of the line at place k + 1.
module _ (tables rules : Bytes) (T : Tables) (t : tables_of tables ≡ taken T) (short : length rules ≤ 32768) (k : ℕ) (rule : Bytes)
    (at : get_elem? (lines rules) k ≡ some rule) where
  line-is : sheet_line (sheet_of tables rules) (suc k) ≡ line_text (suc k) (turn_verdict T rule)
  unfolding sheet_of sheet_by
  line-is =
      let m : suc k - 1 ≡ k = omega arith in
      rw (t, le-leb (length rules) 32768 short) (listed-some T (lines rules) (suc k) rule (λ e. omega arith) (rw m at))

  -- An accepted rule's line reports its verdict: broken, idle or held exactly as the counts say, the counts, the share, and if broken the first breaking choice.
  pub line-tells : {ρ : Rule} → refusal rule ≡ none → rule_of rule ≡ some ρ → LineReports T ρ (suc k) (sheet_line (sheet_of tables rules) (suc k))
  line-tells h tree =
      let g : Given tables rule T _ = record { reads = t; accepts = h; tree = tree } in
      record { verdict = turn_verdict T rule; reports = turn-reports g; says = line-is }

  pub line-reports : accepted rule ≡ true → (ρ : Rule) × (rule ≡ rule_text [] ρ) × ((old new : List ℕ) (w : Written) → Lines tables rules (suc k) old new w
      → length (sheet_line (sheet_of tables rules) (suc k)) ≤ length old
      → (number_in w ≡ 0) × LineReports T ρ (suc k) (take (length_in w) new) × (drop (length_in w) new ≡ drop (length_in w) old))
  line-reports h =
      let r = none_true (refusal rule) h in
      let (ρ, tree, _) = accepted-rule rule r in (
        ρ,
        (rule-text rule ρ tree).0,
        λ old new w p room.
            let x = line-written tables rules (suc k) p room in
            (x.number, rw (x.size, x.front) (line-tells r tree), rw x.size x.kept),
      )

  -- A refused rule's line is its number behind `refused`: "or line number, `refused`, number".
  pub line_refused : (e : Refusal) → refusal rule ≡ some e
      → sheet_line (sheet_of tables rules) (suc k) ≡ decimal_of (suc k) ++ labelled (ascii " refused ") (number_of e)
  unfolding turn_verdict accepted_verdict says_of
  line_refused e h = line-is ∙ rw h

-- "Refused tables .. and `rules too long` print as before": one line, and no total.
module _ (tables rules : Bytes) where
  pub refused-only : (e : Refusal) → tables_of tables ≡ rejected e → sheet_of tables rules ≡ only (labelled (ascii "tables refused ") (number_of e))
  unfolding sheet_of sheet_by
  refused-only e t = rw t

  pub long-only : (T : Tables) → tables_of tables ≡ taken T → 32768 < length rules → sheet_of tables rules ≡ only (ascii "rules too long")
  unfolding sheet_of sheet_by
  long-only T t long = rw (t, lt-leb (length rules) 32768 long)

-- N1, as the sheet's reader meets it: behind the L lines of the rules stands their total, and nothing further.
module _ (tables rules : Bytes) (T : Tables) (t : tables_of tables ≡ taken T) (short : length rules ≤ 32768) where
  listed-is : sheet_of tables rules ≡ listed T (lines rules)
  unfolding sheet_of sheet_by
  listed-is = rw (t, le-leb (length rules) 32768 short)

  -- What the total says of the lines above it.
  pub above-reports : TotalReports (length (lines rules)) (take (length (lines rules)) (sheet_of tables rules)) (sheet_line (sheet_of tables rules) (suc (length (lines rules))))
  above-reports =
      let ws : List Bytes = lines rules in
      let above : take (length ws) (listed T ws) ≡ judged_from 1 T ws = take_at (judged_from 1 T ws) _ (length ws) (judged-length 1 T ws) in
      rw (listed-is, above) (
      record {
        total = total_of T ws;
        lines = refl;
        held = carried (ascii "held") is_held tells-held 1 T ws;
        idle = carried (ascii "idle") is_idle tells-idle 1 T ws;
        broken = carried (ascii "broken") is_broken tells-broken 1 T ws;
        refused = carried (ascii "refused") is_refused tells-refused 1 T ws;
        adds_up = total-adds-up T ws;
        says = listed-total T ws (suc (length ws)) (omega arith);
      }
      )

  pub total-reports : (old new : List ℕ) (w : Written) → Lines tables rules (suc (length (lines rules))) old new w
      → length (sheet_line (sheet_of tables rules) (suc (length (lines rules)))) ≤ length old
      → (number_in w ≡ 0) × TotalReports (length (lines rules)) (take (length (lines rules)) (sheet_of tables rules)) (take (length_in w) new) × (drop (length_in w) new ≡ drop (length_in w) old)
  total-reports old new w p room =
      let x = line-written tables rules (suc (length (lines rules))) p room in
      (x.number, rw (x.size, x.front) above-reports, rw x.size x.kept)

  pub nothing-further : (place : ℕ) → suc (length (lines rules)) < place → sheet_line (sheet_of tables rules) place ≡ []
  nothing-further place h = rw listed-is (listed-none T (lines rules) place (omega arith))

-- DOCUMENT 02, N8. Tables that differ in the order of Done's rows, in repeats and in rows of leavers have the same lines, in the same lent bytes.
pub done-listed : {b c : Bytes} → SameDone b c → (rules : Bytes) (place : ℕ) {old new new' : List ℕ} {w w' : Written}
    → Lines b rules place old new w → Lines c rules place old new' w' → (number_in w ≡ number_in w') × (length_in w ≡ length_in w') × (new ≡ new')
done-listed s rules place {old} x y =
    let e = ap (λ (ls : List Bytes). lent (length old) (wrote (sheet_line ls place))) (sheet-alike (done-twins s) rules) in (
      x.number ∙ sym (y.number ∙ ap answer_number e),
      x.size ∙ sym (y.size ∙ ap answer_length e),
      x.output ∙ sym (y.output ∙ ap (λ (a : Answer). output_after a old) e),
    )
