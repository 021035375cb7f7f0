-- `tables::sections::permissions`: section 6, the permissions.
-- Assumes nothing.
use mathlib.Core.Path.{◌∙◌}
use native.Mathlib.Omega.{arith}
use Rattle.tables.specs.Code.Layout.{permission_count_at, permission_rows_at}
use Rattle.tables.proofs.ReadLaws.{as-took, as-stop, stops_as, reads_as}
use Rattle.tables.specs.Code.Reads.{stops, rows_from}
use Rattle.tables.proofs.SectionLaws.{permissions-stop, permissions-wrong, permissions-on, counted}
use Rattle.tables.proofs.sections.permissions.Goals as goal

pub returns-in_err-count : goal.returns-in_err-count
returns-in_err-count c =
    stops_as c.from_residual.ensures.1
    (permissions-stop c.args.bytes.now c.args.at c.args.product c.args.roles (as-stop c.in_err-count.ensures))

pub returns-then-count-product : goal.returns-then-count-product
returns-then-count-product c =
    stops (permissions-wrong c.args.bytes.now c.args.at c.args.product c.args.roles (as-took c.in_ok-count.ensures) c.if-count-product.true)

pub returns : goal.returns
returns c =
    let g = as-took c.in_ok-count.ensures in
    permissions-on c.args.bytes.now c.args.at c.args.product c.args.roles g c.if-count-product.false
    (reads_as c.rows.ensures (λ xs v x. record { section = counted (rows_from permission_rows_at) c.args.words.now permission_count_at _ (omega (arith, c.if-count-product.false, c.requires)) x; all = x.all ∙ c.if-count-product.false }))
