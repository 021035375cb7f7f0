-- `tables::rows::word_row`: eight bytes, then the word that they are.
-- Assumes nothing.
use native.Mathlib.Omega.{arith}
use Rattle.tables.specs.Code.Reads.{stops}
use Rattle.tables.proofs.ReadLaws.{word-row-cut, word_row_lem}
use Rattle.tables.proofs.rows.word_row.Goals as goal

pub returns-then-bytes-at-lt8 : goal.returns-then-bytes-at-lt8
returns-then-bytes-at-lt8 c =
    stops (word-row-cut c.args.bytes.now c.args.at c.args.n c.if-bytes-at-lt8.true)

pub returns : goal.returns
returns c =
    rw (word_row_lem c.args.bytes.now c.args.at c.args.n (omega (arith, c.requires))) c.word_within.ensures
