-- Document 01, "Turned back": what a check says.
-- Assumes nothing.
use Rattle.std.specs.Prelude.{ℕ, Result, Ok, Err}
use Rattle.answers.specs.Refusal.{number_of}
use Rattle.answers.specs.declared.Refusal.{Refusal}

-- Nothing where it passes, and otherwise a refusal.
abbrev pub Outcome : Type 0
Outcome = Result (Unit {0}) Refusal

-- "When an answer is an enum, a definition gives this paper's number and values for each of its cases": "A refusal gives its number";
-- "An accepted input has number 0."
abbrev pub outcome_number : Outcome → ℕ
outcome_number (Err e) = number_of e
outcome_number (Ok _) = 0

-- The two cases.
abbrev pub passes : Outcome
passes = Ok tt

abbrev pub refuses : Refusal → Outcome
refuses e = Err e
