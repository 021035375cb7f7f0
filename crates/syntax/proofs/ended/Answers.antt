-- `ended` takes what was read only where nothing is left.
-- Assumes nothing.
use Rattle.syntax.proofs.ReadingLaws.{as_none, as_some}
use Rattle.syntax.proofs.FormulaLaws.{ended-none, ended-left, ended_here}
use Rattle.syntax.proofs.ended.Goals as goal

pub returns-in_err-node : goal.returns-in_err-node
returns-in_err-node c = λ ns₀ ns o h. rw c.from_residual.ensures (ended-none (as_none (rw c.in_err-node.was at h)))

pub returns-then-next-s : goal.returns-then-next-s
returns-then-next-s c = λ ns₀ ns o h. ended-left (as_some (rw c.in_ok-node.was at h)) c.if-next-s.true

pub returns : goal.returns
returns c = λ ns₀ ns o h. ended_here (as_some (rw c.in_ok-node.was at h)) c.if-next-s.false
