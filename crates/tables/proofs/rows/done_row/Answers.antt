-- `tables::rows::done_row`: three bytes, then the user, the operation and the object.
-- Assumes nothing.
use native.Mathlib.Omega.{arith}
use Rattle.tables.specs.Code.Reads.{stops}
use Rattle.tables.proofs.ReadLaws.{done-cut, done-no-user, done-no-operation, done-no-object, done-row}
use Rattle.tables.proofs.rows.done_row.Goals as goal

pub returns-then-bytes-at-lt3 : goal.returns-then-bytes-at-lt3
returns-then-bytes-at-lt3 c =
    stops (done-cut c.args.bytes.now c.args.at c.args.users c.args.operations c.args.objects c.if-bytes-at-lt3.true)

pub returns-then-users-user : goal.returns-then-users-user
returns-then-users-user c =
    stops (done-no-user c.args.bytes.now c.args.at c.args.users c.args.operations c.args.objects (omega (arith, c.requires)) (omega (arith, c.from-user.ensures)))

pub returns-then-operations-from : goal.returns-then-operations-from
returns-then-operations-from c =
    stops (done-no-operation c.args.bytes.now c.args.at c.args.users c.args.operations c.args.objects (omega (arith, c.requires))
    (omega (arith, c.from-user.ensures)) (omega (arith, c.from.ensures)))

pub returns-then-objects-from : goal.returns-then-objects-from
returns-then-objects-from c =
    stops (done-no-object c.args.bytes.now c.args.at c.args.users c.args.operations c.args.objects (omega (arith, c.requires))
    (omega (arith, c.from-user.ensures)) (omega (arith, c.from.ensures)) (omega (arith, c.from-2.ensures)))

pub returns : goal.returns
returns c =
    done-row c.args.bytes.now c.args.at c.args.users c.args.operations c.args.objects (omega (arith, c.requires))
    (omega (arith, c.from-user.ensures)) (omega (arith, c.from.ensures)) (omega (arith, c.from-2.ensures))
