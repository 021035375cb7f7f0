-- Tables that differ in Done alone have the same forecast of every rule.
-- Assumes nothing.
use mathlib.Core.Path.{◌≡◌, refl, ap}
use mathlib.Core.List.{List, []}
use mathlib.Core.Option.{Option, none, some}
use Prim.Native.Nat.{ℕ}
use lib.ListN.{length}
use Rattle.answers.specs.Answer.{wrote}
use Rattle.answers.specs.declared.Refusal.{Refusal}
use Rattle.tables.specs.Tables.{Deed, Tables}
use Rattle.tables.specs.Reading.{taken}
use Rattle.functions.specs.Done.{with_done, SameDone}
use Rattle.syntax.specs.Bytes.{Bytes}
use Rattle.syntax.specs.Rule.{Rule, rule_vars, formula, rule_of}
use Rattle.rules.specs.Accept.{refusal}
use Rattle.values.proofs.DoneLaws.{ceiling-same}
use Rattle.verdicts.specs.Both.{of_both}
use Rattle.forecasts.specs.Forecast.{two_words, forecast_bytes, forecast_of}

rule-same : (T : Tables) (ds : List Deed) (x : Option Refusal) (y : Option Rule)
    → of_both (taken (with_done T ds)) x y (λ T ρ. wrote (forecast_bytes T ρ)) ≡ of_both (taken T) x y (λ T ρ. wrote (forecast_bytes T ρ))
unfolding of_both
rule-same T ds (some e) y = refl
rule-same T ds none none = refl
rule-same T ds none (some ρ) = ap (λ (m : ℕ). wrote (two_words (length (formula ρ)) m)) (ceiling-same T ds (rule_vars [] ρ))

pub forecast-alike : {b c : Bytes} → SameDone b c → (rule : Bytes) → forecast_of c rule ≡ forecast_of b rule
unfolding forecast_of
forecast-alike s rule = rw (s.reads, s.others) (rule-same s.has s.rows (refusal rule) (rule_of rule))
