-- `texts::seek` finds where piece k starts. The invariant: behind the separators that were passed it is a piece of that many less.
-- Assumes nothing.
use native.Mathlib.Omega.{arith}
use Rattle.texts.proofs.SpansLaws.{sought, along-next, along-none, along-start}
use Rattle.texts.proofs.seek.Goals as goal

pub returns-then-end-s : goal.returns-then-end-s
returns-then-end-s c = along-none c.loop.invariant.1 (sought c.loop.invariant.0 c.find-end.ensures.is c.find-end.ensures.within) c.if-end-s.true (omega arith)

pub loop-preserved : goal.loop-preserved
loop-preserved c = (omega (arith, c.if-end-s.false, c.find-end.ensures.within), along-next c.loop.invariant.1 (sought c.loop.invariant.0 c.find-end.ensures.is c.find-end.ensures.within) c.if-end-s.false (omega arith))

pub returns : goal.returns
returns c = along-start c.loop.invariant.0 c.loop.invariant.1 (omega arith)
