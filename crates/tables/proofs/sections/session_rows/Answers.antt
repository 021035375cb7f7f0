-- `tables::sections::session_rows`: the sessions read so far are stored in two lists, and what is read from here on is the rest.
-- Assumes nothing.
use native.Mathlib.Omega.{arith}
use Rattle.tables.specs.Reading.{session_row}
use Rattle.tables.proofs.ReadLaws.{as-took, as-stop, stops_as}
use Rattle.tables.proofs.RowsLaws.{sessions-none, sessions-more, storing-all, along-stop}
use Rattle.tables.proofs.sections.session_rows.Goals as goal

pub loop-i-init : goal.loop-i-init
loop-i-init c =
    sessions-none (session_row c.args.users c.args.roles) c.args.n c.args.bytes.now c.args.at c.args.words.now c.requires.at_in_bounds

pub returns-in_err-row : goal.returns-in_err-row
returns-in_err-row c =
    stops_as c.from_residual.ensures.1 (along-stop (session_row c.args.users c.args.roles) c.args.n c.loop-i.invariant.along (omega arith) (as-stop c.in_err-row.ensures))

pub loop-i-preserved : goal.loop-i-preserved
loop-i-preserved c =
    sessions-more (session_row c.args.users c.args.roles) c.args.n c.loop-i.invariant (omega arith) c.requires.n_le_room.0 c.item.ensures
    (as-took c.in_ok-row.ensures)

pub returns : goal.returns
returns c =
    storing-all (session_row c.args.users c.args.roles) c.args.n c.loop-i.invariant (omega arith)
