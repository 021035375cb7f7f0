-- `sessions::step_on`: the rule is refused, the change is, or the next state is written.
-- Assumes nothing.
use Rattle.answers.proofs.AnswerLaws.{exit-refused}
use Rattle.rules.proofs.ParseLaws.{as-parsed, as-refused}
use Rattle.sessions.proofs.LayLaws.{to_end}
use Rattle.sessions.proofs.StepLaws.{on-refused, step-refused, step-changed, step-ready}
use Rattle.sessions.proofs.step_on.Goals as goal

pub returns-in_err-parsed : goal.returns-in_err-parsed
returns-in_err-parsed c =
    rw (exit-refused c.from_residual.ensures.1) (on-refused _ _ _ (as-refused (rw (to_end 28 c.args.front.now) at c.parse.ensures) c.in_err-parsed.was))

pub returns-in_err-due : goal.returns-in_err-due
returns-in_err-due c =
    let P = as-parsed (rw (to_end 28 c.args.front.now) at c.parse.ensures) c.in_ok-parsed.was in
    rw (exit-refused c.from_residual-in_err-due.ensures.1) (step-refused _ c.args.front.now _ _ P c.due.ensures _ c.in_err-due.was)

pub change_on-requires : goal.change_on-requires
change_on-requires c =
    let P = as-parsed (rw (to_end 28 c.args.front.now) at c.parse.ensures) c.in_ok-parsed.was in
    record { ready = step-ready _ c.args.front.now _ _ P c.due.ensures c.in_ok-due.was c.requires.holds; holds = c.requires.holds; front = record { long = c.requires.in_bounds; parses = P } }

pub returns : goal.returns
returns c =
    let P = as-parsed (rw (to_end 28 c.args.front.now) at c.parse.ensures) c.in_ok-parsed.was in
    step-changed _ c.args.front.now _ _ P c.due.ensures c.in_ok-due.was c.change_on.ensures
