-- `functions::roles_of_permissions` meets its contract: one step forth.
-- Assumes nothing.
use mathlib.Core.Path.{◌∙◌}
use Rattle.functions.proofs.FunctionsLaws.{roles-of-permissions}
use Rattle.functions.proofs.roles_of_permissions.Goals as goal

pub returns : goal.returns
returns c = λ T fits e. c.image.ensures T e ∙ roles-of-permissions T c.args.w
