-- `rules::parse`: what was found, with the arrays.
-- Assumes nothing.
use Rattle.answers.proofs.AnswerLaws.{exit-refused}
use Rattle.rules.proofs.ParseLaws.{parse-rejected, parse-found}
use Rattle.rules.proofs.parse.Goals as goal

pub returns-in_err-n : goal.returns-in_err-n
returns-in_err-n c = rw (exit-refused c.from_residual.ensures.1) (parse-rejected c.find.ensures c.in_err-n.was)

pub returns : goal.returns
returns c = parse-found c.find.ensures c.in_ok-n.was
