-- `judging::planning::contexts` meets its contract. The invariant: the first ones are filled in.
-- Assumes nothing.
use lib.ListN.{drop}
use Rattle.values.specs.Code.Plan.{levels_from}
use Rattle.judging.specs.Code.Planning.{contexts_from, Filled, ContextWord}
use Rattle.judging.proofs.planning.contexts.Given as goal

abbrev pub invariant-loop-at : goal.invariant-loop-at
invariant-loop-at l = Filled l.initial.plan l.plan contexts_from l.at (λ e w. ContextWord l.names (drop levels_from l.initial.plan) l.scopes l.order l.many e w)
