-- `cuts::users`: the users' rows, and who of them is present.
-- Assumes nothing.
use mathlib.Core.Path.{◌∙◌}
use Rattle.cuts.proofs.TurnLaws.{users-turned}
use Rattle.cuts.proofs.users.Goals as goal

pub returns : goal.returns
returns c = λ T F e. c.replace.ensures ∙ users-turned _ c.ranges.reader.fits T F e c.part.ensures c.keep_rows.ensures c.meet.ensures
