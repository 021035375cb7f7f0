-- `tables::sections::rights`: sections 4 to 6, and the names of the permissions.
-- Assumes nothing.
use mathlib.Core.Path.{◌∙◌}
use native.Mathlib.Nat.{mul-le-mul_right}
use lib.ListN.{length-set}
use Rattle.tables.proofs.ReadLaws.{as-took, as-stop, stops_as}
use Rattle.tables.proofs.SectionsLaws.{product-few, rights-stop, rights-stop-2, rights-stop-3, rights-all}
use Rattle.tables.proofs.sections.rights.Goals as goal

pub returns-in_err-operations : goal.returns-in_err-operations
returns-in_err-operations c =
    stops_as c.from_residual.ensures.1 (rights-stop c.args.bytes.now c.args.at c.args.roles (as-stop c.in_err-operations.ensures))

pub returns-in_err-objects : goal.returns-in_err-objects
returns-in_err-objects c =
    let f = as-took c.in_ok-operations.ensures in
    stops_as c.from_residual-in_err-objects.ensures.1 (rights-stop-2 c.args.bytes.now c.args.at c.args.roles f (as-stop c.in_err-objects.ensures))

pub permissions-requires : goal.permissions-requires
permissions-requires c =
    let f = as-took c.in_ok-operations.ensures in
    let g = as-took c.in_ok-objects.ensures in
    record { at_in_bounds = g.within; product_bound = (product-few f.holds.few g.holds.few, c.requires.roles_bound.0, simp length-set c.requires.roles_bound.1) }

pub returns-in_err-named : goal.returns-in_err-named
returns-in_err-named c =
    let f = as-took c.in_ok-operations.ensures in
    let g = as-took c.in_ok-objects.ensures in
    stops_as c.from_residual-in_err-named.ensures.1 (rights-stop-3 c.args.bytes.now c.args.at c.args.roles f g (as-stop c.in_err-named.ensures))

pub name_permissions-requires : goal.name_permissions-requires
name_permissions-requires c =
    let f = as-took c.in_ok-operations.ensures in
    let h = as-took c.in_ok-named.ensures in
    record { n_le_room = (h.holds.section.few, rw h.holds.all (mul-le-mul_right _ f.holds.few)); whole = c.permissions.auto.words ∙ simp length-set c.requires.roles_bound.1 }

pub returns : goal.returns
returns c =
    let f = as-took c.in_ok-operations.ensures in
    let g = as-took c.in_ok-objects.ensures in
    let h = as-took c.in_ok-named.ensures in
    rights-all c.args.bytes.now c.args.at c.args.roles f g h c.name_permissions.ensures
