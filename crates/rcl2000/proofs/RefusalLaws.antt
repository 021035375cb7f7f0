-- The numbers that each call refuses by: tables' 1 to 10 and 20, rules' 11 to 15, and those of the calls themselves.
-- Assumes nothing.
use mathlib.Core.Path.{◌≡◌, refl}
use mathlib.Core.Logic.{inl, inr, ⊎_elim}
use mathlib.Core.Option.{some}
use Prim.Native.Nat.{ℕ, ◌≤◌}
use Rattle.answers.specs.Refusal.{number_of}
use Rattle.answers.specs.declared.Refusal.{Refusal}
use Rattle.answers.specs.declared.Refusal.TheVariants.{Left, NotAnOrder, Page}
use Rattle.answers.proofs.AnswerLaws.{number-some}
use Rattle.syntax.specs.Bytes.{Bytes}
use Rattle.tables.specs.Tables.{Tables}
use Rattle.tables.specs.Reading.{rejected, tables_of}
use Rattle.tables.proofs.StopLaws.{tables-refusal}
use Rattle.syntax.specs.Rule.{Rule}
use Rattle.rules.specs.Accept.{refusal}
use Rattle.rules.proofs.AcceptLaws.{refused-early}
use Rattle.rcl2000.specs.Calls.{OfTables, OfRules, ReduceNumber, RebuildNumber, BothNumber, BesidesNumber}
use Rattle.rcl2000.specs.Calls.{ReduceRefuses, rule_refused, formula_longer, RebuildRefuses, no_rule, rule_longer}
use Rattle.rcl2000.specs.Calls.{JudgeRefuses, tables_refused, judged_refused, order_refused, verdict_longer}
use Rattle.rcl2000.specs.Calls.{PageRefuses, page_tables, page_unsized, page_line, page_longer, BothRefuses, both_tables, both_rule, both_longer}

pub of-tables : (tables : Bytes) {e : Refusal} → tables_of tables ≡ rejected e → OfTables (number_of e)
of-tables tables {e} t = ⊎_elim (λ (l : number_of e ≤ 10). inl (number-some e, l)) (λ (l : number_of e ≡ number_of Left). inr l) (tables-refusal tables e t)

pub of-rules : (rule : Bytes) {e : Refusal} → refusal rule ≡ some e → OfRules (number_of e)
of-rules rule {e} h = refused-early rule e h

-- Each call's refusals.
pub reduce-own : {rule : Bytes} {n : ℕ} {e : Refusal} → ReduceRefuses rule n e → ReduceNumber (number_of e)
reduce-own {rule} (rule_refused h) = inl (of-rules rule h)
reduce-own (formula_longer f l) = inr refl

pub rebuild-own : {f : Bytes} {n : ℕ} {e : Refusal} → RebuildRefuses f n e → RebuildNumber (number_of e)
rebuild-own (no_rule h) = inl refl
rebuild-own (rule_longer p l) = inr refl

pub both_own : {size : Tables → Rule → ℕ} {tables rule : Bytes} {n : ℕ} {e : Refusal} → BothRefuses size tables rule n e → BothNumber (number_of e)
both_own {tables = tables} (both_tables t) = inl (inl (of-tables tables t))
both_own {rule = rule} (both_rule t r) = inl (inr (of-rules rule r))
both_own (both_longer g l) = inr refl

pub judge-own : {tables rule order : Bytes} {n : ℕ} {e : Refusal} → JudgeRefuses tables rule order n e → BesidesNumber NotAnOrder (number_of e)
judge-own {tables} (tables_refused t) = inl (inl (inl (of-tables tables t)))
judge-own {rule = rule} (judged_refused t r) = inl (inl (inr (of-rules rule r)))
judge-own (order_refused t r h bad) = inr refl
judge-own (verdict_longer a l) = inl (inr refl)

pub page-own : {tables page : Bytes} {n : ℕ} {e : Refusal} {p : ℕ} → PageRefuses tables page n e p → BesidesNumber Page (number_of e)
page-own {tables} (page_tables t) = inl (inl (inl (of-tables tables t)))
page-own (page_unsized t z) = inr refl
page-own (page_line t z f) = inl (inl (inr (of-rules f.line f.refused)))
page-own (page_longer a l) = inl (inr refl)
