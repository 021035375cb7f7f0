-- `readers::line` lends the reader's line: refused tables first, then the reader's word, then the line of the cut tables.
-- Assumes nothing.
use Rattle.answers.proofs.AnswerLaws.{exit-refused}
use native.Mathlib.Omega.{arith}
use Rattle.verdicts.proofs.LoadedLaws.{load-rejected, load-taken}
use Rattle.readers.proofs.LineLaws.{line-rejected, took-fits, count-few, cut-loaded, line-beyond, line-lent}
use Rattle.readers.proofs.line.Goals as goal

pub outside-requires : goal.outside-requires
outside-requires c =
    omega (arith, count-few (load-taken c.args.tables.now c.load.ensures.value c.load.ensures.words_after c.in_ok-load.was))

pub returns-then-outside : goal.returns-then-outside
returns-then-outside c =
    let took = load-taken c.args.tables.now c.load.ensures.value c.load.ensures.words_after c.in_ok-load.was in
    line-beyond took c.args.reader c.ranges.reader.fits c.args.rules.now c.args.place c.outside.ensures c.if-outside.true c.args.out.now

pub cut-requires : goal.cut-requires
cut-requires c =
    took-fits (load-taken c.args.tables.now c.load.ensures.value c.load.ensures.words_after c.in_ok-load.was)

pub lend_line-requires : goal.lend_line-requires
lend_line-requires c =
    let took = load-taken c.args.tables.now c.load.ensures.value c.load.ensures.words_after c.in_ok-load.was in
    cut-loaded took c.args.reader c.cut.ensures

pub returns-in_err-load : goal.returns-in_err-load
returns-in_err-load c =
    rw (exit-refused c.from_residual.ensures.1)
    (line-rejected c.args.tables.now (load-rejected c.args.tables.now c.load.ensures.value c.in_err-load.was) c.args.reader c.args.rules.now c.args.place c.args.out.now)

pub returns : goal.returns
returns c =
    let took = load-taken c.args.tables.now c.load.ensures.value c.load.ensures.words_after c.in_ok-load.was in
    line-lent took c.args.reader c.ranges.reader.fits c.args.rules.now c.args.place c.outside.ensures c.if-outside.false c.cut.ensures c.lend_line.ensures
