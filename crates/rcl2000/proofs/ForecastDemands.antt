-- The demands, and document 02's N5, of what the tracker sees of `forecast`: the number r that it returns and the lent bytes, old before it and new
-- after it. Its contract says `Forecasts` of them. Assumes nothing.
use mathlib.Core.Path.{◌≡◌, ap, sym, ◌∙◌}
use mathlib.Core.List.{[]}
use mathlib.Core.Logic.{◌↔◌}
use Prim.Native.Nat.{ℕ, ◌*◌, ◌^◌, ◌≤◌, ◌<◌}
use native.Mathlib.Omega.{arith}
use lib.ListN.{length, take, drop}
use Rattle.answers.specs.Refusal.{number_of}
use Rattle.answers.specs.Answer.{lent}
use Rattle.answers.proofs.AnswerLaws.{lent_fits}
use Rattle.answers.specs.declared.Refusal.{Refusal}
use Rattle.answers.specs.declared.Refusal.TheVariants.{ShortSheet}
use Rattle.tables.specs.Tables.{Tables}
use Rattle.tables.specs.Reading.{word_from}
use Rattle.syntax.specs.Bytes.{Bytes}
use Rattle.syntax.specs.Rule.{Rule, rule_vars, formula}
use Rattle.values.specs.Ceiling.{ceiling_of}
use Rattle.values.proofs.CeilingLaws.{no-variables}
use Rattle.verdicts.specs.Both.{Given}
use Rattle.forecasts.specs.Forecast.{forecast_size}
use Rattle.forecasts.proofs.ForecastLaws.{full-below, given-fits, given-ceiling}
use Rattle.rcl2000.specs.Calls.{Reduces, Judges, BothNumber, Ends, formula_longer, Forecasts, ForecastRefuses, told_length, told_ceiling, Foretold}
use Rattle.rcl2000.proofs.CallLaws.{through, sees-wrote, refuses-exactly, writes-exactly, call_ends}
use Rattle.rcl2000.proofs.RefusalLaws.{both_own}
use Rattle.rcl2000.proofs.FormulaLaws.{reduced-short, formula-answered}
use Rattle.rcl2000.proofs.ForecastLaws.{forecast-short, forecast-refused, given-formula, given-foretold, written-given}
use Rattle.rcl2000.proofs.Demands.{reduce-refuses, judge-writes}

-- DEMAND 1. "finishes with an answer or a numbered refusal; a refusal carries no result and changes no lent byte".
pub forecast-ends : (tables rule old new : Bytes) (r : ℕ) → Forecasts tables rule old new r → Ends BothNumber old new r
forecast-ends tables rule old new r s = call_ends s BothNumber (forecast-short tables rule) (λ e q. both_own ((forecast-refused tables rule (length old) e).0 q))

-- DEMAND 2. "Refused tables and rules give document 01's numbers."
pub forecast-refuses : (tables rule old new : Bytes) (r : ℕ) → Forecasts tables rule old new r → (e : Refusal)
    → (r ≡ 65536 * number_of e) ↔ ForecastRefuses tables rule (length old) e
forecast-refuses tables rule old new r s e = through (refuses-exactly s (forecast-short tables rule) e) (forecast-refused tables rule (length old) e)

-- A number below 65,536 is returned exactly where something is written, and that is the length and the ceiling of the accepted rule on the accepted
-- tables.
pub forecast-writes : (tables rule old new : Bytes) (r : ℕ) → Forecasts tables rule old new r
    → (r < 65536) ↔ ((T : Tables) × (ρ : Rule) × Given tables rule T ρ × (forecast_size ≤ length old) × (r ≡ forecast_size) × Foretold T ρ old new)
forecast-writes tables rule old new r s = (
  λ q.
      let w = (writes-exactly s (forecast-short tables rule)).0 q in
      let (T, ρ, g, room) = written-given tables rule (length old) w.0 w.1 in
      let (n, told) = given-foretold g s room in
      (T, ρ, g, room, n, told),
  λ (T, ρ, g, room, n, told). omega arith,
)

-- Accepted tables and an accepted rule are told of on every sheet long enough.
pub forecast-told : (tables rule old new : Bytes) (T : Tables) (ρ : Rule) (r : ℕ) → Given tables rule T ρ → forecast_size ≤ length old → Forecasts tables rule old new r
    → (r ≡ forecast_size) × Foretold T ρ old new
forecast-told tables rule old new T ρ r g room s = given-foretold g s room

-- What the two words say, wherever they were written.
module _ (tables rule old new : Bytes) (r : ℕ) (s : Forecasts tables rule old new r) (wrote : r < 65536) where
  -- "the exact length of the formula": `reduce` returns it on every sheet that is as long, and 17 on every other.
  pub length-reduced : (old₂ new₂ : Bytes) (r₂ : ℕ) → Reduces rule old₂ new₂ r₂
      → (told_length new ≤ length old₂ → r₂ ≡ told_length new) × (length old₂ < told_length new → r₂ ≡ 65536 * number_of ShortSheet)
  length-reduced old₂ new₂ r₂ s₂ =
      let (T, ρ, g, room, n, told) = (forecast-writes tables rule old new r s).0 wrote in
      let f = given-formula g in (
        λ l.
            let room₂ : length (formula ρ) ≤ length old₂ = omega (arith, told.size) in
            (sees-wrote s₂ (reduced-short rule) (ap (lent (length old₂)) (formula-answered rule f) ∙ lent_fits (length old₂) (formula ρ) room₂)).number
            ∙ sym told.size,
        λ l. (reduce-refuses rule old₂ new₂ r₂ s₂ ShortSheet).1 (formula_longer f (omega (arith, told.size))),
      )

  -- "Full is never above the ceiling": of no verdict on these tables and this rule, whatever the order.
  pub full-within : (order old₂ new₂ : Bytes) (r₂ : ℕ) → Judges tables rule order old₂ new₂ r₂ → r₂ < 65536 → word_from (take 8 (drop 1 new₂)) ≤ told_ceiling new
  full-within order old₂ new₂ r₂ s₂ judged =
      let (T, ρ, g, room, n, told) = (forecast-writes tables rule old new r s).0 wrote in
      let (T₂, ρ₂, a, room₂, n₂, reported) = (judge-writes tables rule order old₂ new₂ r₂ s₂).0 judged in
      let tables-same : T₂ ≡ T = cc (a.reads, g.reads) in
      let rule-same : ρ₂ ≡ ρ = cc (a.tree, g.tree) in
      rw (reported.reports.fulls, told.most, tables-same, rule-same) (full-below T (given-fits g) ρ)

  -- It is at most 64 ^ 8, so that it fits a word.
  pub ceiling-most : told_ceiling new ≤ 64 ^ 8
  ceiling-most =
      let (T, ρ, g, room, n, told) = (forecast-writes tables rule old new r s).0 wrote in
      rw told.most (given-ceiling g)

  -- "Without variables it is 1."
  pub ceiling-alone : (T : Tables) (ρ : Rule) → Given tables rule T ρ → rule_vars [] ρ ≡ [] → told_ceiling new ≡ 1
  ceiling-alone T ρ g e =
      let (T₂, ρ₂, g₂, room, n, told) = (forecast-writes tables rule old new r s).0 wrote in
      let rule-same : ρ₂ ≡ ρ = cc (g.tree, g₂.tree) in
      told.most ∙ ap (λ (κ : Rule). ceiling_of T₂ (rule_vars [] κ)) rule-same ∙ ap (ceiling_of T₂) e ∙ no-variables T₂
