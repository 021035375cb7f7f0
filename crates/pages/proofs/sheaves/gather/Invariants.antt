-- `pages::sheaves::gather` meets its contract. The invariant: the lines that were gone through are gathered, as many as fitted.
-- Assumes nothing.
use Rattle.pages.proofs.GatherLaws.{Going}
use Rattle.pages.proofs.sheaves.gather.Given as goal

abbrev pub invariant-loop-rest : goal.invariant-loop-rest
invariant-loop-rest l = Going l.page l.wanted l.nodes l.list l.vars l.starts l.members l.size l.lines l.rest

abbrev pub decreases-loop-rest : goal.decreases-loop-rest
decreases-loop-rest l = l.rest
