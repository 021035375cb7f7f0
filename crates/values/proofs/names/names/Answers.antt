-- `values::names::names` meets its contract.
-- Assumes nothing.
use Rattle.values.proofs.names.names.Goals as goal

pub returns : goal.returns
returns c =
    λ σ w. c.sets.ensures _ _ c.terms.ensures c.requires.3 σ w
