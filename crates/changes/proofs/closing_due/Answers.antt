-- `changes::closing_due`: a number is open where it is below the count of sessions.
-- Assumes nothing.
use native.Mathlib.Omega.{arith}
use Rattle.changes.proofs.CountLaws.{counts_of}
use Rattle.changes.proofs.DueLaws.{due-closed, due-open}
use Rattle.changes.proofs.closing_due.Goals as goal

pub bounds-t-3 : goal.bounds-t-3
bounds-t-3 c = omega (arith, (counts_of c.requires.holds).long)

pub returns-then-t-number : goal.returns-then-t-number
returns-then-t-number c = due-closed _ c.if-t-number.true

pub returns : goal.returns
returns c = due-open _ c.if-t-number.false
