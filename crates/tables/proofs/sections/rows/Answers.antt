-- `tables::sections::rows`: the rows read so far are stored, and what is read from here on is the rest.
-- Assumes nothing.
use native.Mathlib.Omega.{arith}
use Rattle.tables.specs.Code.Reads.{row_of}
use Rattle.tables.proofs.ReadLaws.{as-took, as-stop, stops_as}
use Rattle.tables.proofs.RowsLaws.{words-none, words_more, storing-all, along-stop}
use Rattle.tables.proofs.sections.rows.Goals as goal

pub loop-i-init : goal.loop-i-init
loop-i-init c =
    words-none (row_of c.args.kind) c.args.n c.args.to c.args.bytes.now c.args.at c.args.words.now c.requires.at_in_bounds

pub returns-in_err-read : goal.returns-in_err-read
returns-in_err-read c =
    stops_as c.from_residual.ensures.1 (along-stop (row_of c.args.kind) c.args.n c.loop-i.invariant.along (omega arith) (as-stop c.in_err-read.ensures))

pub loop-i-preserved : goal.loop-i-preserved
loop-i-preserved c =
    words_more (row_of c.args.kind) c.args.n c.args.to c.loop-i.invariant (omega arith) (as-took c.in_ok-read.ensures)

pub returns : goal.returns
returns c =
    storing-all (row_of c.args.kind) c.args.n c.loop-i.invariant (omega arith)
