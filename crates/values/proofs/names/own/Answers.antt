-- `values::names::own` meets its contract: the place that is found is the variable.
-- Assumes nothing.
use mathlib.Core.Path.{ap, ◌∙◌}
use Rattle.words.specs.Words.{item_of}
use Rattle.rules.proofs.VariableLaws.{placed}
use Rattle.values.proofs.names.own.Goals as goal

pub returns : goal.returns
returns c = c.item.ensures ∙ ap item_of (placed c.seek.ensures)
