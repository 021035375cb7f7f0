-- `judging::walking::Guide::descend` meets its contract. The invariant: the choice has the items of the first breaking choice that were found, and all is ready.
-- Assumes nothing.
use Rattle.judging.specs.Code.Walking.{Stands, Descends}
use Rattle.judging.proofs.walking.Guide.descend.Given as goal

abbrev pub invariant-loop-depth : goal.invariant-loop-depth
invariant-loop-depth l = Stands l.t l.walk l.depth l.depth l.at l.choice l.self l.kept × Descends l.t l.walk l.depth l.choice
