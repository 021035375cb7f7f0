-- `forecasts::on_tables`: the refusal that was found, or the length and the ceiling of the rule.
-- Assumes nothing.
use Rattle.answers.proofs.AnswerLaws.{exit-refused}
use native.Mathlib.Omega.{arith}
use lib.ListN.{length-take}
use Rattle.rules.proofs.ParseLaws.{as-found}
use Rattle.verdicts.proofs.LoadedLaws.{loaded-whole}
use Rattle.forecasts.proofs.TellingLaws.{told-rejected, told-found}
use Rattle.forecasts.proofs.on_tables.Goals as goal

pub ceiling-requires : goal.ceiling-requires
ceiling-requires c =
    (loaded-whole c.requires, simp length-take (omega (arith, (as-found c.find.ensures c.in_ok-n.was).1.few)))

pub returns-in_err-n : goal.returns-in_err-n
returns-in_err-n c =
    rw (exit-refused c.from_residual.ensures.1) (told-rejected _ c.find.ensures c.in_err-n.was)

pub returns : goal.returns
returns c =
    told-found c.find.ensures c.in_ok-n.was c.formula_length-size.ensures c.ceiling.ensures c.put.ensures
