-- `tables::sections::collections`: sections 7 to 9.
-- Assumes nothing.
use Rattle.tables.proofs.ReadLaws.{as-took, as-stop, stops_as}
use Rattle.tables.proofs.SectionsLaws.{collections-stop, collections-stop-2, collections-all}
use Rattle.tables.proofs.sections.collections.Goals as goal

pub returns-in_err-cr : goal.returns-in_err-cr
returns-in_err-cr c =
    stops_as c.from_residual.ensures.1 (collections-stop c.args.bytes.now c.args.at c.args.roles c.args.users c.args.permissions (as-stop c.in_err-cr.ensures))

pub returns-in_err-cu : goal.returns-in_err-cu
returns-in_err-cu c =
    let f = as-took c.in_ok-cr.ensures in
    stops_as c.from_residual-in_err-cu.ensures.1 (collections-stop-2 c.args.bytes.now c.args.at c.args.roles c.args.users c.args.permissions f (as-stop c.in_err-cu.ensures))

pub returns : goal.returns
returns c =
    let f = as-took c.in_ok-cr.ensures in
    let g = as-took c.in_ok-cu.ensures in
    collections-all c.args.bytes.now c.args.at c.args.roles c.args.users c.args.permissions f g c.section-3.ensures
