-- The number of an answer to a rule text says which case it is.
-- Assumes nothing.
use mathlib.Core.Path.{◌≡◌, refl, ap}
use mathlib.Core.Option.{Option, none, some}
use native.Mathlib.Omega.{arith}
use Rattle.answers.specs.Answer.{number_or_zero}
use Rattle.answers.specs.declared.Refusal.{Refusal}
use Rattle.answers.proofs.AnswerLaws.{number-some, same_number}
use Rattle.answers.specs.Outcome.{Outcome, outcome_number}
use Rattle.std.specs.declared.result.Result.TheVariants.{Ok, Err}
use Rattle.rules.specs.Code.Parsed.{checked_of}

pub checked-case : (o : Option Refusal) (c : Outcome) → outcome_number c ≡ number_or_zero o → c ≡ checked_of o
checked-case none (Ok tt) e = refl
checked-case none (Err r) e = absurd (omega (arith, number-some r))
checked-case (some r) (Ok tt) e = absurd (omega (arith, number-some r))
checked-case (some r) (Err q) e = ap Err (same_number q r e)
