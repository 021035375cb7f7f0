-- `tables::rows::count` reads a byte and refuses one above the limit.
-- Assumes nothing.
use mathlib.Core.Path.{refl}
use Rattle.tables.specs.Code.Reads.{stops, takes}
use Rattle.tables.proofs.ReadLaws.{as-took, as-stop, stops_as, count-stop, count-over, count-took}
use Rattle.tables.proofs.rows.count.Goals as goal

pub returns-in_err-read : goal.returns-in_err-read
returns-in_err-read c =
    stops_as c.from_residual.ensures.1 (count-stop c.args.bytes.now c.args.at c.args.limit (as-stop c.in_err-read.ensures))

pub returns-then-limit-read : goal.returns-then-limit-read
returns-then-limit-read c =
    stops (count-over c.args.bytes.now c.args.at c.args.limit (as-took c.in_ok-read.ensures) c.if-limit-read.true)

pub returns : goal.returns
returns c =
    let g = as-took c.in_ok-read.ensures in
    takes (count-took c.args.bytes.now c.args.at c.args.limit g c.if-limit-read.false) g.within (record { is = refl; few = c.if-limit-read.false })
