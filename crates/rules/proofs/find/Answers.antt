-- `rules::find`: the checks 11 to 13 on the text, then those on its tree.
-- Assumes nothing.
use Rattle.answers.proofs.AnswerLaws.{exit-refused}
use Rattle.rules.specs.Code.Parsed.{rejected}
use Rattle.syntax.proofs.FormulaLaws.{as-nothing, as-root}
use Rattle.rules.proofs.AcceptLaws.{refuse-text}
use Rattle.rules.proofs.ParseLaws.{as-turned, as_passed, find-tree}
use Rattle.rules.proofs.find.Goals as goal

pub returns-in_err-check_text : goal.returns-in_err-check_text
returns-in_err-check_text c =
    rw (exit-refused c.from_residual.ensures.1) (rejected (as-turned c.check_text.ensures c.in_err-check_text.was))

pub returns-in_default : goal.returns-in_default
returns-in_default c =
    rejected (refuse-text c.args.s.now (as_passed c.check_text.ensures c.in_ok-check_text.was) (as-nothing c.in_default.ensures))

pub returns : goal.returns
returns c =
    find-tree (as_passed c.check_text.ensures c.in_ok-check_text.was) (as-root c.in-Some.ensures) c.check_tree.ensures
