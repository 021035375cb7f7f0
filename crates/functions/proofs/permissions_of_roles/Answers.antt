-- `functions::permissions_of_roles` meets its contract: one step back.
-- Assumes nothing.
use mathlib.Core.Path.{◌∙◌}
use Rattle.functions.proofs.FunctionsLaws.{permissions-of-roles, counted-permissions}
use Rattle.functions.proofs.permissions_of_roles.Goals as goal

pub returns : goal.returns
returns c = λ T fits e. c.preimage.ensures T e (counted-permissions T) ∙ permissions-of-roles T c.args.w
