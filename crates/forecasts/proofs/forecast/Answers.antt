-- `forecasts::forecast` meets its contract: refused tables give their refusal, accepted ones go on to the rule.
-- Assumes nothing.
use Rattle.answers.proofs.AnswerLaws.{exit-refused}
use Rattle.verdicts.proofs.LoadedLaws.{load-rejected, load-taken, took-loaded}
use Rattle.verdicts.proofs.BothLaws.{both-refused, both-taken}
use Rattle.forecasts.specs.Forecast.{forecast_of}
use Rattle.forecasts.proofs.forecast.Goals as goal

pub on_tables-requires : goal.on_tables-requires
on_tables-requires c =
    took-loaded (load-taken c.args.tables.now c.load.ensures.value c.load.ensures.words_after c.in_ok-load.was)

pub returns-in_err-load : goal.returns-in_err-load
unfolding forecast_of
returns-in_err-load c =
    rw (exit-refused c.from_residual.ensures.1) (both-refused c.args.tables.now c.args.rule.now _ _ (load-rejected c.args.tables.now c.load.ensures.value c.in_err-load.was))

pub returns : goal.returns
unfolding forecast_of
returns c =
    both-taken c.args.tables.now c.args.rule.now _
    (load-taken c.args.tables.now c.load.ensures.value c.load.ensures.words_after c.in_ok-load.was)
    c.on_tables.ensures
