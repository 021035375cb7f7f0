-- `verdicts::judge` meets its contract, by the word of the verdict.
-- Assumes nothing.
use mathlib.Core.Path.{refl}
use lib.ListN.{length}
use Rattle.verdicts.specs.declared.Outcome.TheVariants.{Refused}
use Rattle.verdicts.specs.Verdict.{answer_by}
use Rattle.answers.proofs.AnswerLaws.{kept-refused}
use Rattle.verdicts.proofs.OutcomeLaws.{judged-by, answer-worded}
use Rattle.verdicts.proofs.judge.Goals as goal

pub returns-in-Refused : goal.returns-in-Refused
unfolding answer_by
returns-in-Refused c =
    rw (← judged-by c.args.tables.now c.args.rule.now c.args.order.now c.decide-found.result (Refused c.in-Refused.e) c.decide-found.ensures c.in-Refused.is)
    (kept-refused (length c.args.out.now) c.args.out.now c.in-Refused.e)

pub returns-in_default : goal.returns-in_default
returns-in_default c =
    rw (← judged-by c.args.tables.now c.args.rule.now c.args.order.now c.decide-found.result c.decide-found.result.outcome c.decide-found.ensures refl, answer-worded c.decide-found.result.outcome c.decide-found.result c.in_default.not-Refused, ← c.word_of.ensures) c.put.ensures
