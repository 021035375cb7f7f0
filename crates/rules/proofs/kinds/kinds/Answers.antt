-- `rules::kinds::kinds` fills the list of kinds from the front: the nodes below k have theirs.
-- Assumes nothing.
use native.Mathlib.Omega.{arith}
use Rattle.rules.proofs.KindLaws.{kind-step}
use Rattle.rules.proofs.kinds.kinds.Goals as goal

pub loop-k-preserved : goal.loop-k-preserved
loop-k-preserved c = kind-step c.args.nodes.now c.loop-k.kinds c.loop-k.k c.loop-k.invariant c.kind_of.ensures (omega arith)
