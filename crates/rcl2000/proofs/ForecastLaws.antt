-- What `forecast` answers where n bytes are lent: exactly where it refuses, and what it writes.
-- Assumes nothing.
use mathlib.Core.Path.{◌≡◌, ap, sym, ◌∙◌}
use mathlib.Core.List.{◌++◌}
use mathlib.Core.Logic.{◌↔◌}
use Prim.Native.Nat.{ℕ, ◌≤◌}
use native.Mathlib.Omega.{arith}
use lib.ListN.{length, drop, take-append-drop}
use Rattle.answers.specs.Answer.{refused, wrote, lent}
use Rattle.answers.specs.declared.Refusal.{Refusal}
use Rattle.answers.proofs.AnswerLaws.{lent_fits}
use Rattle.tables.specs.Tables.{Tables}
use Rattle.syntax.specs.Bytes.{Bytes}
use Rattle.syntax.specs.Rule.{Rule, formula}
use Rattle.rules.specs.Accept.{is_none}
use Rattle.formulas.specs.Formulas.{RuleOf, formula_of}
use Rattle.verdicts.specs.Both.{Given}
use Rattle.forecasts.specs.Forecast.{forecast_size, forecast_bytes, forecast_of}
use Rattle.forecasts.proofs.ForecastLaws.{given-wrote, given-length, told-length, told-ceiling}
use Rattle.rcl2000.specs.Calls.{Forecasts, ForecastRefuses, told_length, told_ceiling, Foretold}
use Rattle.rcl2000.proofs.CallLaws.{Short, sees-wrote}
use Rattle.rcl2000.proofs.BothLaws.{both-short, both-refused, both-written}

module _ (tables rule : Bytes) where
  long : (T : Tables) (ρ : Rule) → Given tables rule T ρ → length (forecast_bytes T ρ) ≡ forecast_size
  long T ρ g = given-length g

  pub forecast-short : Short (forecast_of tables rule)
  unfolding forecast_of
  forecast-short = both-short forecast_bytes (λ T ρ. forecast_size) tables rule long (λ T ρ g. omega arith)

  pub forecast-refused : (n : ℕ) (e : Refusal) → (lent n (forecast_of tables rule) ≡ refused e) ↔ ForecastRefuses tables rule n e
  unfolding forecast_of
  forecast-refused = both-refused forecast_bytes (λ T ρ. forecast_size) tables rule long

  -- Whatever was written was written of accepted tables and an accepted rule.
  pub written-given : (n : ℕ) (b : Bytes) → lent n (forecast_of tables rule) ≡ wrote b → (T : Tables) × (ρ : Rule) × Given tables rule T ρ × (forecast_size ≤ n)
  unfolding forecast_of
  written-given n b q =
      let x = both-written forecast_bytes (λ T ρ. forecast_size) tables rule long n b q in
      (x.T, x.ρ, x.given, omega (arith, x.room, ap length x.bytes, given-length x.given))

-- The rule's formula.
pub given-formula : {tables rule : Bytes} {T : Tables} {ρ : Rule} → Given tables rule T ρ → RuleOf (formula ρ) rule
unfolding formula_of
given-formula g = record { accepts = ap is_none g.accepts; formula = rw (formula_of, g.tree) }

-- Accepted tables and an accepted rule are answered with 16 bytes, on every output that has room for them.
module _ {tables rule old new : Bytes} {T : Tables} {ρ : Rule} {r : ℕ} (g : Given tables rule T ρ) (s : Forecasts tables rule old new r) where
  pub given-foretold : forecast_size ≤ length old → (r ≡ forecast_size) × Foretold T ρ old new
  given-foretold room =
      let w = sees-wrote s (forecast-short tables rule) (ap (lent (length old)) (given-wrote g) ∙ lent_fits (length old) (forecast_bytes T ρ) (omega (arith, given-length g))) in
      let n : r ≡ forecast_size = w.number ∙ given-length g in
      let whole : new ≡ forecast_bytes T ρ ++ drop r new = sym (take-append-drop r new) ∙ ap (λ (x : Bytes). x ++ drop r new) w.front in (
        n,
        record {
          size = ap told_length whole ∙ told-length g (drop r new);
          most = ap told_ceiling whole ∙ told-ceiling g (drop r new);
          kept = rw n at w.kept;
          same = w.same;
        },
      )
