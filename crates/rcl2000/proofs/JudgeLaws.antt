-- What `judge` answers where n bytes are lent: exactly where it refuses, and what it writes.
-- Assumes nothing.
use mathlib.Core.Path.{◌≡◌, ap, sym, ◌∙◌}
use mathlib.Core.List.{◌++◌}
use mathlib.Core.Option.{some}
use mathlib.Core.Logic.{◌↔◌}
use Prim.Native.Nat.{ℕ, ◌≤◌}
use native.Mathlib.Omega.{arith}
use lib.ListN.{length, drop, take-append-drop}
use Rattle.answers.specs.Answer.{refused, wrote, lent}
use Rattle.answers.specs.declared.Refusal.{Refusal}
use Rattle.answers.specs.declared.Refusal.TheVariants.{NotAnOrder}
use Rattle.answers.proofs.AnswerLaws.{lent_fits, lent-short, lent-wrote}
use Rattle.tables.specs.Tables.{Tables}
use Rattle.tables.specs.Reading.{rejected}
use Rattle.syntax.specs.Bytes.{Bytes}
use Rattle.syntax.specs.Rule.{Rule}
use Rattle.verdicts.specs.Verdict.{judged}
use Rattle.verdicts.specs.Report.{Admitted, Met, bad_tables, bad_rule, bad_order, good}
use Rattle.verdicts.proofs.JudgedLaws.{tables-rejected, rule-rejected, order-rejected, judged-rejected, met, written-length}
use Rattle.verdicts.proofs.ReportLaws.{judged-reports}
use Rattle.rcl2000.specs.Calls.{Judges, Reported, JudgeRefuses, tables_refused, judged_refused, order_refused, verdict_longer}
use Rattle.rcl2000.proofs.CallLaws.{Short, lent-room, sees-wrote}
use Rattle.rcl2000.proofs.FormulaLaws.{short-lent, stays-refused, same-refused, never-wrote}

module _ (tables rule order : Bytes) where
  pub judged-short : Short (judged tables rule order)
  judged-short w q = omega (arith, written-length tables rule order w q)

  pub judge-refused : (n : ℕ) (e : Refusal) → (lent n (judged tables rule order) ≡ refused e) ↔ JudgeRefuses tables rule order n e
  judge-refused n e = (λ q. there (met tables rule order) q, λ x. back x)
    where
      there : Met tables rule order → lent n (judged tables rule order) ≡ refused e → JudgeRefuses tables rule order n e
      there (bad_tables d t) q =
          let s = same-refused n (judged-rejected tables rule order d (tables-rejected tables rule order d t)) q in
          tables_refused (t ∙ ap rejected s)
      there (bad_rule T d t r) q =
          let s = same-refused n (judged-rejected tables rule order d (rule-rejected tables rule order T d t r)) q in
          judged_refused t (r ∙ ap some s)
      there (bad_order T ρ t r h bad) q =
          let s = same-refused n (judged-rejected tables rule order NotAnOrder (order-rejected tables rule order T ρ t r h bad)) q in
          rw (← s) (order_refused t r h bad)
      there (good T ρ a) q =
          let (b, is, told) = judged-reports a in
          let s = short-lent n b (sym (ap (lent n) is) ∙ q) in
          rw (← s.0) (verdict_longer a (omega (arith, s.1, told.long)))

      back : {e : Refusal} → JudgeRefuses tables rule order n e → lent n (judged tables rule order) ≡ refused e
      back {e} (tables_refused t) = stays-refused n (judged-rejected tables rule order e (tables-rejected tables rule order e t))
      back {e} (judged_refused {T} t r) = stays-refused n (judged-rejected tables rule order e (rule-rejected tables rule order T e t r))
      back (order_refused {T} {ρ} t r h bad) = stays-refused n (judged-rejected tables rule order NotAnOrder (order-rejected tables rule order T ρ t r h bad))
      back (verdict_longer a l) =
          let (b, is, told) = judged-reports a in
          ap (lent n) is ∙ lent-short n b (omega (arith, told.long))

-- An admitted input is answered with 26 bytes that report the verdict, on every output that has room for them.
module _ {tables rule order old new : Bytes} {T : Tables} {ρ : Rule} {r : ℕ} (a : Admitted tables rule order T ρ) (s : Judges tables rule order old new r) where
  pub admitted-reported : 26 ≤ length old → (r ≡ 26) × Reported T ρ order old new
  admitted-reported room =
      let (b, is, told) = judged-reports a in
      let w = sees-wrote s (judged-short tables rule order) (ap (lent (length old)) is ∙ lent_fits (length old) b (omega (arith, told.long))) in
      let n : r ≡ 26 = w.number ∙ told.long in
      let whole : new ≡ b ++ drop r new = sym (take-append-drop r new) ∙ ap (λ (x : Bytes). x ++ drop r new) w.front in
      (n, record { reports = rw whole (told.reports (drop r new)); kept = rw n at w.kept; same = w.same })

-- Whatever was written was written of an admitted input.
pub written-admitted : {tables rule order : Bytes} (n : ℕ) (b : Bytes) → lent n (judged tables rule order) ≡ wrote b
    → (T : Tables) × (ρ : Rule) × Admitted tables rule order T ρ × (26 ≤ n)
written-admitted {tables} {rule} {order} n b q = go (met tables rule order)
  where
    go : Met tables rule order → (T : Tables) × (ρ : Rule) × Admitted tables rule order T ρ × (26 ≤ n)
    go (bad_tables d t) = never-wrote n (judged-rejected tables rule order d (tables-rejected tables rule order d t)) q
    go (bad_rule T d t r) = never-wrote n (judged-rejected tables rule order d (rule-rejected tables rule order T d t r)) q
    go (bad_order T ρ t r h bad) = never-wrote n (judged-rejected tables rule order NotAnOrder (order-rejected tables rule order T ρ t r h bad)) q
    go (good T ρ a) = (T, ρ, a, omega (arith, lent-room n (judged tables rule order) b q, written-length tables rule order b (lent-wrote n (judged tables rule order) b q)))
