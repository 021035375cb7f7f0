-- `pages::sheaves::spread` meets its contract. The invariant: the counts of the first l gathered lines are in their places.
-- Assumes nothing.
use Rattle.pages.specs.Code.Sheaves.{Spreads}
use Rattle.pages.proofs.sheaves.spread.Given as goal

abbrev pub invariant-loop-l : goal.invariant-loop-l
invariant-loop-l l = Spreads l.members l.l l.full l.counts l.initial.fulls l.initial.breakings l.fulls l.breakings l.known
