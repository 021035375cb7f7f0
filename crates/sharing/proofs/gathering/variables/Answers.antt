-- `variables` walks over one clause after the other: the loop has the variables of the clauses before k.
-- Assumes nothing.
use Rattle.sharing.proofs.GatheringLaws.{varied-start, varied-next}
use Rattle.sharing.proofs.gathering.variables.Goals as goal

pub loop-k-init : goal.loop-k-init
loop-k-init c = varied-start c.requires.vars_len

pub loop-k-preserved : goal.loop-k-preserved
loop-k-preserved c = varied-next c.loop-k.invariant c.walk-count.ensures
