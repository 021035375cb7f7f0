-- Document 02, N5: "Before judging, tell the exact length of the formula, without writing it, and a ceiling on full choices."
-- Assumes nothing.
use Rattle.std.specs.Prelude.{[], ◌++◌, ℕ, length}
use Rattle.answers.specs.Answer.{Answer, wrote}
use Rattle.tables.specs.Tables.{Tables}
use Rattle.tables.specs.Bytes.{lowest_first}
use Rattle.syntax.specs.Bytes.{Bytes}
use Rattle.syntax.specs.Rule.{Rule, rule_vars, formula}
use Rattle.values.specs.Ceiling.{ceiling_of}
use Rattle.verdicts.specs.Both.{of_texts}

-- A length and a ceiling as two words of 8 bytes, lowest byte first: L is 16.
abbrev pub forecast_size : ℕ
forecast_size = 16

abbrev pub two_words : ℕ → ℕ → Bytes
two_words size most = lowest_first 8 size ++ lowest_first 8 most

-- "the exact length of the formula" and the ceiling of the rule on the tables.
abbrev pub forecast_bytes : Tables → Rule → Bytes
forecast_bytes T ρ = two_words (length (formula ρ)) (ceiling_of T (rule_vars [] ρ))

-- What `forecast` answers, but for 17: "Refused tables and rules give document 01's numbers", the tables' first.
unfoldable pub forecast_of : Bytes → Bytes → Answer
forecast_of tables rule = of_texts tables rule (λ T ρ. wrote (forecast_bytes T ρ))
