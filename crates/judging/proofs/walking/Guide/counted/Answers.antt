-- `judging::walking::Guide::counted` meets its contract.
-- Assumes nothing.
use native.Mathlib.Omega.{arith}
use Rattle.judging.proofs.DescendLaws.{standing-in, stands-counted, counted-none, counted-some}
use Rattle.judging.proofs.walking.Guide.counted.Goals as goal

pub below-sum-requires : goal.below-sum-requires
below-sum-requires c = standing-in c.requires.0 c.requires.1 _ (omega arith)

pub returns-then-sum-eq0 : goal.returns-then-sum-eq0
returns-then-sum-eq0 c = counted-none c.requires.0 c.requires.1 c.below-sum.ensures c.if-sum-eq0.true

pub descend-requires : goal.descend-requires
descend-requires c = (c.requires.0, stands-counted c.requires.0 c.requires.1 c.below-sum.ensures)

pub returns : goal.returns
returns c = counted-some c.requires.0 c.requires.1 c.below-sum.ensures (omega (arith, c.if-sum-eq0.false)) c.descend.result c.descend.ensures c.bytes-first.result c.bytes-first.ensures
