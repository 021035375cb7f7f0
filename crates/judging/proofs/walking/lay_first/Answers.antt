-- `judging::walking::lay_first` meets its contract.
-- Assumes nothing.
use mathlib.Core.Path.{refl}
use Rattle.judging.proofs.WalkingLaws.{laid-along}
use Rattle.judging.proofs.walking.lay_first.Goals as goal

pub returns-else-many-ge-SEARCHED_FROM-clause-lays : goal.returns-else-many-ge-SEARCHED_FROM-clause-lays
returns-else-many-ge-SEARCHED_FROM-clause-lays c = laid-along c.requires.0 c.requires.1 c.lay_along.ensures refl
