-- `texts::scan::find`: the byte that it stops at is the first c, or none of the part is.
-- Assumes nothing.
use native.Mathlib.Omega.{arith}
use Rattle.texts.proofs.ScanLaws.{first-at, free-part}
use Rattle.texts.proofs.scan.find.Goals as goal

pub returns-then-s-at-clause-is : goal.returns-then-s-at-clause-is
returns-then-s-at-clause-is c = first-at _ _ _ _ c.requires.0 c.requires.1 c.loop-at.at c.loop-at.auto.at c.loop-at-test.true c.loop-at.invariant c.if-s-at.true

pub returns-clause-is : goal.returns-clause-is
returns-clause-is c = free-part _ _ _ _ c.requires.0 c.requires.1 (λ k h. c.loop-at.invariant k (omega (arith, h, c.loop-at-test.false)))
