-- `tables::sections::sections`: the ten sections, front to back.
-- Assumes nothing.
use mathlib.Core.Path.{◌∙◌}
use Rattle.tables.proofs.ReadLaws.{as-took, as-stop, stops_as}
use Rattle.tables.proofs.SectionsLaws.{sections-stop, sections-stop-2, sections-stop-3, sections-stop-4, sections-stop-5, sections-all}
use Rattle.tables.proofs.sections.sections.Goals as goal

pub returns-in_err-roles : goal.returns-in_err-roles
returns-in_err-roles c =
    stops_as c.from_residual.ensures.1 (sections-stop c.args.bytes.now (as-stop c.in_err-roles.ensures))

pub returns-in_err-users : goal.returns-in_err-users
returns-in_err-users c =
    let f = as-took c.in_ok-roles.ensures in
    stops_as c.from_residual-in_err-users.ensures.1 (sections-stop-2 c.args.bytes.now f (as-stop c.in_err-users.ensures))

pub returns-in_err-sessions : goal.returns-in_err-sessions
returns-in_err-sessions c =
    let f = as-took c.in_ok-roles.ensures in
    let g = as-took c.in_ok-users.ensures in
    stops_as c.from_residual-in_err-sessions.ensures.1 (sections-stop-3 c.args.bytes.now f g (as-stop c.in_err-sessions.ensures))

pub rights-requires : goal.rights-requires
rights-requires c =
    let f = as-took c.in_ok-roles.ensures in
    let h = as-took c.in_ok-sessions.ensures in
    record { at_in_bounds = h.within; roles_bound = (f.holds.few, c.sessions.auto.words ∙ c.users.auto.words ∙ c.roles.auto.words ∙ c.requires) }

pub returns-in_err-rights : goal.returns-in_err-rights
returns-in_err-rights c =
    let f = as-took c.in_ok-roles.ensures in
    let g = as-took c.in_ok-users.ensures in
    let h = as-took c.in_ok-sessions.ensures in
    stops_as c.from_residual-in_err-rights.ensures.1 (sections-stop-4 c.args.bytes.now f g h (as-stop c.in_err-rights.ensures))

pub collections-requires : goal.collections-requires
collections-requires c =
    let f = as-took c.in_ok-roles.ensures in
    let g = as-took c.in_ok-users.ensures in
    let t = as-took c.in_ok-rights.ensures in
    record { at_in_bounds = t.within; roles_bound = (f.holds.few, g.holds.few, t.holds.few); whole = c.rights.auto.words ∙ c.sessions.auto.words ∙ c.users.auto.words ∙ c.roles.auto.words ∙ c.requires }

pub returns-in_err-held : goal.returns-in_err-held
returns-in_err-held c =
    let f = as-took c.in_ok-roles.ensures in
    let g = as-took c.in_ok-users.ensures in
    let h = as-took c.in_ok-sessions.ensures in
    let t = as-took c.in_ok-rights.ensures in
    stops_as c.from_residual-in_err-held.ensures.1 (sections-stop-5 c.args.bytes.now f g h t (as-stop c.in_err-held.ensures))

pub returns : goal.returns
returns c =
    let f = as-took c.in_ok-roles.ensures in
    let g = as-took c.in_ok-users.ensures in
    let h = as-took c.in_ok-sessions.ensures in
    let t = as-took c.in_ok-rights.ensures in
    let z = as-took c.in_ok-held.ensures in
    let whole = c.sessions.auto.words ∙ c.users.auto.words ∙ c.roles.auto.words ∙ c.requires in
    sections-all c.args.bytes.now f g h t z whole c.done.ensures
