-- `rules::check`: what the parser says, by its number.
-- Assumes nothing.
use mathlib.Core.Path.{refl}
use Rattle.answers.proofs.AnswerLaws.{exit-refused}
use Rattle.rules.proofs.ParseLaws.{as-refused}
use Rattle.rules.proofs.check.Goals as goal

pub returns-in_err-parse : goal.returns-in_err-parse
returns-in_err-parse c = rw (exit-refused c.from_residual.ensures.1, as-refused c.parse.ensures c.in_err-parse.was) refl
