-- `tables::sections::done_rows`: the rows of Done read so far are stored in three lists, and what is read from here on is the rest.
-- Assumes nothing.
use native.Mathlib.Omega.{arith}
use Rattle.tables.specs.Reading.{done_row}
use Rattle.tables.proofs.ReadLaws.{as-took, as-stop, stops_as}
use Rattle.tables.proofs.RowsLaws.{deeds-none, deeds-more, storing-all, along-stop}
use Rattle.tables.proofs.sections.done_rows.Goals as goal

pub loop-i-init : goal.loop-i-init
loop-i-init c =
    deeds-none (done_row c.args.users c.args.operations c.args.objects) c.args.n c.args.bytes.now c.args.at c.args.words.now c.requires.at_in_bounds

pub returns-in_err-row : goal.returns-in_err-row
returns-in_err-row c =
    stops_as c.from_residual.ensures.1
    (along-stop (done_row c.args.users c.args.operations c.args.objects) c.args.n c.loop-i.invariant.along (omega arith)
    (as-stop c.in_err-row.ensures))

pub loop-i-preserved : goal.loop-i-preserved
loop-i-preserved c =
    let got = as-took c.in_ok-row.ensures in
    rw c.store_deed.ensures
    (deeds-more (done_row c.args.users c.args.operations c.args.objects) c.args.n c.loop-i.invariant (omega arith) c.requires.n_le_room got)

pub returns : goal.returns
returns c =
    storing-all (done_row c.args.users c.args.operations c.args.objects) c.args.n c.loop-i.invariant (omega arith)
