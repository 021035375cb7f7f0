-- What is told by the words of the tables and a rule's text.
-- Internal: contracts of entry points do not speak of it. Assumes nothing.
use Rattle.std.specs.Prelude.{List, ℕ}
use Rattle.answers.specs.Answer.{wrote}
use Rattle.answers.specs.Written.{Written}
use Rattle.syntax.specs.Bytes.{Bytes}
use Rattle.verdicts.specs.Code.Judging.{AnswersOn}
use Rattle.forecasts.specs.Forecast.{forecast_bytes}

-- Whatever tables the words hold, that is the forecast of the rule on them.
abbrev pub ForecastsOn : List ℕ → Bytes → Bytes → Bytes → Written → Type 0
ForecastsOn ts rule old new w = AnswersOn ts rule (λ T ρ. wrote (forecast_bytes T ρ)) old new w
