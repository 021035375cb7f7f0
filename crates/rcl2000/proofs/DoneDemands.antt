-- Document 02, N8, of what the tracker sees of the calls that read tables: the number r that is returned and the lent bytes, old before and new after.
-- Assumes nothing.
use mathlib.Core.Path.{◌≡◌, sym, ap, ◌∙◌}
use Prim.Native.Nat.{ℕ, ◌*◌, ◌+◌}
use native.Mathlib.Omega.{arith}
use lib.ListN.{length}
use Rattle.answers.specs.Answer.{Answer, lent, reply, output_after}
use Rattle.answers.specs.Refusal.{number_of}
use Rattle.answers.specs.declared.Refusal.TheVariants.{Rank, CutShort}
use Rattle.tables.specs.Tables.{Tables}
use Rattle.tables.specs.Accepted.{Sound}
use Rattle.tables.specs.Encode.{nine_bytes}
use Rattle.tables.specs.Reading.{rejected, taken, tables_of}
use Rattle.tables.proofs.LocalLaws.{nine-sections}
use Rattle.tables.proofs.StopLaws.{rank-other}
use Rattle.functions.specs.Done.{SameDone}
use Rattle.syntax.specs.Bytes.{Bytes}
use Rattle.verdicts.specs.Verdict.{tables_verdict, verdict_of, answered, judged}
use Rattle.verdicts.proofs.AlikeLaws.{verdict-alike, done-twins}
use Rattle.forecasts.proofs.AlikeLaws.{forecast-alike}
use Rattle.pages.specs.Page.{PageAnswer, page_lent, page_reply, page_after}
use Rattle.pages.proofs.AlikeLaws.{page-alike}
use Rattle.rcl2000.specs.Calls.{Sees, Judges, JudgesPage, Forecasts, GivesStep}
use Rattle.rcl2000.specs.Calls.{tables_refused, both_tables, page_tables}
use Rattle.rcl2000.proofs.Demands.{judge-refuses}
use Rattle.rcl2000.proofs.ForecastDemands.{forecast-refuses}
use Rattle.rcl2000.proofs.PageDemands.{page-refuses}

-- Calls that answer the same return the same, and leave the same bytes.
seen_alike : {a a' : Answer} {old new new' : Bytes} {r r' : ℕ} → a' ≡ a → Sees a old new r → Sees a' old new' r' → (r ≡ r') × (new ≡ new')
seen_alike {old = old} e x y = (
  x.number ∙ sym (y.number ∙ ap (λ (a : Answer). reply (lent (length old) a)) e),
  x.bytes ∙ sym (y.bytes ∙ ap (λ (a : Answer). output_after (lent (length old) a) old) e),
)

-- "Repeated rows count once", and rows of leavers do not count. Tables that differ in the order of Done's rows, in repeats and in rows of leavers are
-- answered alike, by the same number and the same bytes, whatever else is handed over: by `judge`,
module _ {b c : Bytes} (s : SameDone b c) (old new new' : Bytes) (r r' : ℕ) where
  pub done-judged : (rule order : Bytes) → Judges b rule order old new r → Judges c rule order old new' r' → (r ≡ r') × (new ≡ new')
  unfolding judged verdict_of tables_verdict
  done-judged rule order x y =
      let t = done-twins s in
      seen_alike (ap answered (rw (t.reads, t.others) (verdict-alike t rule order))) x y

  -- by `judge_page`,
  pub done-paged : (page : Bytes) → JudgesPage b page old new r → JudgesPage c page old new' r' → (r ≡ r') × (new ≡ new')
  done-paged page x y =
      let e = page-alike (done-twins s) page in (
        x.number ∙ sym (y.number ∙ ap (λ (a : PageAnswer). page_reply (page_lent (length old) a)) e),
        x.bytes ∙ sym (y.bytes ∙ ap (λ (a : PageAnswer). page_after (page_lent (length old) a) old) e),
      )

  -- by `forecast`,
  pub done-foretold : (rule : Bytes) → Forecasts b rule old new r → Forecasts c rule old new' r' → (r ≡ r') × (new ≡ new')
  done-foretold rule x y = seen_alike (forecast-alike s rule) x y

  -- and by `rank_step`, which gives 0 for accepted tables.
  pub done-stepped : GivesStep b r → GivesStep c r' → r ≡ r'
  done-stepped x y =
      x ∙ rank-other b (λ q. accepted-not b s.reads q) ∙ sym (y ∙ rank-other c (λ q. accepted-not c s.others q))
    where
      accepted-not : (d : Bytes) {T : Tables} → tables_of d ≡ taken T → tables_of d ≡ rejected Rank → ⊥
      accepted-not d p q = let z : ◌≡◌ {A = ℕ} 0 1 = cc in absurd (omega arith)

-- "Tables that stop after section 9 are cut short": of whatever tables these are the first nine sections, each call that reads tables returns 65,536 × 1.
module _ (T : Tables) (sound : Sound T) where
  pub nine-judged : (rule order old new : Bytes) (r : ℕ) → Judges (nine_bytes T) rule order old new r → r ≡ 65536 * number_of CutShort
  nine-judged rule order old new r j = (judge-refuses (nine_bytes T) rule order old new r j CutShort).1 (tables_refused (nine-sections T sound))

  pub nine-foretold : (rule old new : Bytes) (r : ℕ) → Forecasts (nine_bytes T) rule old new r → r ≡ 65536 * number_of CutShort
  nine-foretold rule old new r f = (forecast-refuses (nine_bytes T) rule old new r f CutShort).1 (both_tables (nine-sections T sound))

  pub nine-paged : (page old new : Bytes) (r : ℕ) → JudgesPage (nine_bytes T) page old new r → r ≡ 65536 * number_of CutShort + 0
  nine-paged page old new r j = (page-refuses (nine_bytes T) page old new r j CutShort 0 (omega arith)).1 (page_tables (nine-sections T sound))
