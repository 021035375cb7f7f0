-- `pages::judge` meets its contract: refused tables give their refusal, accepted ones go on to the page.
-- Assumes nothing.
use Rattle.std.proofs.lemmas.Result.{err_from_is_err_and}
use Rattle.verdicts.proofs.LoadedLaws.{load-rejected, load-taken, took-loaded}
use Rattle.pages.proofs.PageLaws.{refusal-answers, tables-refused, tables-taken}
use Rattle.pages.proofs.judge.Goals as goal

pub returns-in_err-load : goal.returns-in_err-load
returns-in_err-load c =
    let p = err_from_is_err_and c.from_residual.result c.from_residual.ensures.1 in
    rw (p.1, p.2) (refusal-answers _ _ (tables-refused c.args.tables.now _ (load-rejected c.args.tables.now c.load.ensures.value c.in_err-load.was)))

pub on_tables-requires : goal.on_tables-requires
on_tables-requires c =
    took-loaded (load-taken c.args.tables.now c.load.ensures.value c.load.ensures.words_after c.in_ok-load.was)

pub returns : goal.returns
returns c =
    let q = load-taken c.args.tables.now c.load.ensures.value c.load.ensures.words_after c.in_ok-load.was in
    rw (tables-taken c.args.tables.now c.args.page.now q.is) (c.on_tables.ensures q.tables q.holds)
