-- `functions::roles_of_sessions` meets its contract: one step forth.
-- Assumes nothing.
use mathlib.Core.Path.{◌∙◌}
use Rattle.functions.proofs.FunctionsLaws.{roles-of-sessions}
use Rattle.functions.proofs.roles_of_sessions.Goals as goal

pub returns : goal.returns
returns c = λ T fits e. c.image.ensures T e ∙ roles-of-sessions T c.args.w
