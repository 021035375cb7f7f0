-- `functions::objects_of_permissions` meets its contract: one step forth.
-- Assumes nothing.
use mathlib.Core.Path.{◌∙◌}
use Rattle.functions.proofs.FunctionsLaws.{objects-of-permissions}
use Rattle.functions.proofs.objects_of_permissions.Goals as goal

pub returns : goal.returns
returns c = λ T fits e. c.image.ensures T e ∙ objects-of-permissions T fits c.args.w
