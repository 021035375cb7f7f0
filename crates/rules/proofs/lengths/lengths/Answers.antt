-- `rules::lengths::lengths` fills the list of lengths from the front: the nodes below k have theirs.
-- Assumes nothing.
use native.Mathlib.Omega.{arith}
use Rattle.rules.proofs.LengthLaws.{measured-next}
use Rattle.rules.proofs.lengths.lengths.Goals as goal

pub loop-k-preserved : goal.loop-k-preserved
loop-k-preserved c = λ σ w. measured-next c.requires.tidy.apart (omega arith) w (c.loop-k.invariant σ w) c.length_of.ensures (omega arith)
