-- `tables::rows::marked_row`: nine bytes, then the mark, then the word.
-- Assumes nothing.
use native.Mathlib.Omega.{arith}
use Rattle.tables.specs.Code.Reads.{stops}
use Rattle.tables.proofs.ReadLaws.{marked-cut, marked-none, marked-bad, marked_row_lem}
use Rattle.tables.proofs.rows.marked_row.Goals as goal

pub returns-then-bytes-at-lt9 : goal.returns-then-bytes-at-lt9
returns-then-bytes-at-lt9 c =
    stops (marked-cut c.args.bytes.now c.args.at c.args.highest c.args.n c.if-bytes-at-lt9.true)

pub returns-then-mark-eq0 : goal.returns-then-mark-eq0
returns-then-mark-eq0 c =
    stops (marked-none c.args.bytes.now c.args.at c.args.highest c.args.n (omega (arith, c.requires)) c.if-mark-eq0.true)

pub returns-then-highest-mark : goal.returns-then-highest-mark
returns-then-highest-mark c =
    stops (marked-bad c.args.bytes.now c.args.at c.args.highest c.args.n (omega (arith, c.requires)) c.if-highest-mark.true)

pub returns : goal.returns
returns c =
    marked_row_lem c.args.bytes.now c.args.at c.args.highest c.args.n (omega (arith, c.requires)) c.if-mark-eq0.false c.if-highest-mark.false c.word_within.ensures
