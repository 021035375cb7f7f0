-- `functions::user_of_roles` meets its contract: one step back.
-- Assumes nothing.
use mathlib.Core.Path.{◌∙◌}
use Rattle.functions.proofs.FunctionsLaws.{user-of-roles, counted-users}
use Rattle.functions.proofs.user_of_roles.Goals as goal

pub returns : goal.returns
returns c = λ T fits e. c.preimage.ensures T e (counted-users T) ∙ user-of-roles T c.args.w
