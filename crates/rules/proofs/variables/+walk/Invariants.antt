-- `rules::variables::walk`: each way out is one of those of a walk; the index falls at each call.
-- Assumes nothing.
use Rattle.rules.proofs.variables.+walk.Given as goal

abbrev pub decreases-walk : goal.decreases-walk
decreases-walk l = l.k
