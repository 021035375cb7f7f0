-- `judging::planning::starts` meets its contract.
-- Assumes nothing.
use borrow.Author.Rules.{rules}
use Rattle.judging.proofs.PlanningLaws.{filled-as}
use Rattle.judging.proofs.planning.starts.Goals as goal

pub returns : goal.returns
returns c = filled-as c.fill.ensures (λ i w l p. search rules)
