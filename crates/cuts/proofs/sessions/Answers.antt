-- `cuts::sessions`: the sessions' roles and users are closed up, and counted.
-- Assumes nothing.
use mathlib.Core.Path.{refl}
use Rattle.cuts.proofs.TurnLaws.{sessions-turned}
use Rattle.cuts.proofs.sessions.Goals as goal

pub returns : goal.returns
returns c = λ T F e. sessions-turned _ c.ranges.reader.fits T F e refl c.close_up.ensures c.close_up-k.ensures
