-- `tables::sections::user_rows`: the rows read so far are stored, the word of those present is kept, and what is read from here on is the rest.
-- Assumes nothing.
use mathlib.Core.Path.{ap, ◌∙◌}
use native.Mathlib.Omega.{arith}
use lib.ListN.{drop}
use Rattle.words.specs.Words.{join_of}
use Rattle.tables.specs.Reading.{user_row}
use Rattle.tables.proofs.ReadLaws.{as-took, as-stop, stops_as}
use Rattle.tables.proofs.PageLaws.{user-stops}
use Rattle.tables.proofs.RowsLaws.{user-got, users-none, users-in, users-out, users-all, along-stop}
use Rattle.tables.proofs.sections.user_rows.Goals as goal
use Rattle.tables.proofs.sections.user_rows.Goals.{then-bytes-from-eq-ENTERED, else-bytes-from-eq-ENTERED}

pub loop-i-init : goal.loop-i-init
loop-i-init c =
    users-none (user_row c.args.roles) c.args.n c.args.bytes.now c.args.at c.args.words.now c.requires.at_in_bounds

pub returns-in_err-row : goal.returns-in_err-row
returns-in_err-row c =
    let stopped = user-stops c.args.roles (drop c.loop-i.from c.args.bytes.now) (as-stop c.in_err-row.ensures) in
    stops_as c.from_residual.ensures.1 (along-stop (user_row c.args.roles) c.args.n c.loop-i.invariant.rows.along (omega arith) stopped)

pub loop-i-preserved : goal.loop-i-preserved
loop-i-preserved c =
    let got = user-got c.args.bytes.now c.loop-i.from c.args.roles (as-took c.in_ok-row.ensures) in
    elim c.if-bytes-from-eq-ENTERED.branch [
      | then-bytes-from-eq-ENTERED w ↦ users-in (user_row c.args.roles) c.args.n c.loop-i.invariant (omega arith) c.requires.n_le_room.0 got w.if-bytes-from-eq-ENTERED.true
          (w.present-is ∙ w.join-present.ensures ∙ ap (join_of c.loop-i.present) w.item.ensures)
      | else-bytes-from-eq-ENTERED w ↦ users-out (user_row c.args.roles) c.args.n c.loop-i.invariant (omega arith) got w.if-bytes-from-eq-ENTERED.false w.present-is
    ]

pub returns : goal.returns
returns c =
    users-all (user_row c.args.roles) c.args.n c.loop-i.invariant (omega arith)
