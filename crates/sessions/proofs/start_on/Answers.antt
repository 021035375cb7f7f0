-- `sessions::start_on`: the rule is refused, the output is too short, or the parts of a state are written.
-- Assumes nothing.
use Rattle.answers.proofs.AnswerLaws.{exit-refused}
use Rattle.rules.proofs.ParseLaws.{as-parsed, as-refused}
use Rattle.sessions.proofs.LayLaws.{rule-length}
use Rattle.sessions.proofs.StepLaws.{holds-loaded, holds-short, parsed-short, on-refused, start-short, start-written}
use borrow.Author.Rules.{rules}
use Rattle.sessions.proofs.start_on.Goals as goal

pub returns-in_err-parsed : goal.returns-in_err-parsed
returns-in_err-parsed c =
    rw (exit-refused c.from_residual.ensures.1) (on-refused _ _ _ (as-refused c.parse.ensures c.in_err-parsed.was))

pub overflow_add-rule-2 : goal.overflow_add-rule-2
overflow_add-rule-2 c =
    let short = holds-short c.requires in
    let few = parsed-short (as-parsed c.parse.ensures c.in_ok-parsed.was) in
    search rules

pub returns-then-out-rule : goal.returns-then-out-rule
returns-then-out-rule c = start-short c.requires (as-parsed c.parse.ensures c.in_ok-parsed.was) _ c.if-out-rule.true

pub put_current-a-requires : goal.put_current-a-requires
put_current-a-requires c =
    let P = as-parsed c.parse.ensures c.in_ok-parsed.was in
    record { loaded = holds-loaded c.requires; some_rule = record { text = _; parses = P }; in_bounds = search rules }

pub add_rule-b-requires : goal.add_rule-b-requires
add_rule-b-requires c =
    let few = parsed-short (as-parsed c.parse.ensures c.in_ok-parsed.was) in
    (search rules, few)

pub add-requires : goal.add-requires
add-requires c =
    let l = rule-length c.args.rule.now in
    search rules

pub returns : goal.returns
returns c =
    let P = as-parsed c.parse.ensures c.in_ok-parsed.was in
    start-written c.requires P (c.put_current-a.ensures.puts_current _ P) c.add_rule-b.ensures c.add.ensures
