-- `verdicts::decide` meets its contract: refused tables give their refusal, accepted ones go on to the rule.
-- Assumes nothing.
use mathlib.Core.Path.{sym, ◌∙◌}
use Rattle.verdicts.proofs.OutcomeLaws.{same_gives}
use Rattle.verdicts.proofs.LoadedLaws.{load-rejected, load-taken, took-loaded, took-judged}
use Rattle.verdicts.proofs.JudgedLaws.{tables-rejected}
use Rattle.verdicts.proofs.decide.Goals as goal

pub on_tables-requires : goal.on_tables-requires
on_tables-requires c =
    took-loaded (load-taken c.args.tables.now c.load.ensures.value c.load.ensures.words_after c.in-Ok.is)

pub returns-in-Err : goal.returns-in-Err
returns-in-Err c =
    let said = load-rejected c.args.tables.now c.load.ensures.value c.in-Err.is in
    same_gives (c.refused.ensures ∙ sym (tables-rejected c.args.tables.now c.args.rule.now c.args.order.now c.in-Err.e said))

pub returns-in-Ok : goal.returns-in-Ok
returns-in-Ok c =
    let q = load-taken c.args.tables.now c.load.ensures.value c.load.ensures.words_after c.in-Ok.is in
    same_gives (took-judged q c.args.rule.now c.args.order.now (c.on_tables.ensures q.tables q.holds))
