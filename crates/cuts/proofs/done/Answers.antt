-- `cuts::done`: the objects, operations and users of the rows of Done are closed up, and counted.
-- Assumes nothing.
use mathlib.Core.Path.{refl}
use Rattle.cuts.proofs.TurnLaws.{done-turned}
use Rattle.cuts.proofs.done.Goals as goal

pub returns : goal.returns
returns c = λ T F e. done-turned _ c.ranges.reader.fits T F e refl c.close_up.ensures c.close_up-2.ensures c.close_up-k.ensures
