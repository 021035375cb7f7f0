-- `functions::roles_of_users` meets its contract: one step forth.
-- Assumes nothing.
use mathlib.Core.Path.{◌∙◌}
use Rattle.functions.proofs.FunctionsLaws.{roles-of-users}
use Rattle.functions.proofs.roles_of_users.Goals as goal

pub returns : goal.returns
returns c = λ T fits e. c.image.ensures T e ∙ roles-of-users T c.args.w
