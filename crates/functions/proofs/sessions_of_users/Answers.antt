-- `functions::sessions_of_users` meets its contract: one step back.
-- Assumes nothing.
use mathlib.Core.Path.{◌∙◌}
use Rattle.functions.proofs.FunctionsLaws.{sessions-of-users, counted-sessions}
use Rattle.functions.proofs.sessions_of_users.Goals as goal

pub returns : goal.returns
returns c = λ T fits e. c.preimage.ensures T e (counted-sessions T) ∙ sessions-of-users T c.args.w
