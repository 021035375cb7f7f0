-- `sessions::start`: refused tables give their refusal, accepted ones go on to the rule.
-- Assumes nothing.
use Rattle.answers.proofs.AnswerLaws.{exit-refused}
use Rattle.verdicts.proofs.LoadedLaws.{load-rejected, load-taken}
use Rattle.verdicts.proofs.BothLaws.{both-refused, both-taken}
use Rattle.sessions.specs.State.{started}
use Rattle.sessions.proofs.StepLaws.{bytes-known, took-holds}
use Rattle.sessions.proofs.start.Goals as goal

pub start_on-requires : goal.start_on-requires
start_on-requires c =
    let q = load-taken c.args.tables.now c.load.ensures.value c.load.ensures.words_after c.in_ok-load.was in
    took-holds q (bytes-known _ c.type_inv.tables)

pub returns-in_err-load : goal.returns-in_err-load
unfolding started
returns-in_err-load c =
    rw (exit-refused c.from_residual.ensures.1) (both-refused c.args.tables.now c.args.rule.now _ _ (load-rejected c.args.tables.now c.load.ensures.value c.in_err-load.was))

pub returns : goal.returns
unfolding started
returns c =
    both-taken c.args.tables.now c.args.rule.now _
    (load-taken c.args.tables.now c.load.ensures.value c.load.ensures.words_after c.in_ok-load.was) c.start_on.ensures
