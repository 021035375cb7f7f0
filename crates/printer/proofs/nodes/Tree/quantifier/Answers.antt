-- `quantifier`: the beginning, the set and the closing bracket.
-- Assumes nothing.
use mathlib.Core.Path.{refl}
use Rattle.printer.proofs.PrintsLaws.{add-appends, appends-add}
use Rattle.printer.proofs.RulePrintsLaws.{appends-quantifier}
use Rattle.printer.proofs.nodes.Tree.quantifier.Goals as goal

pub returns : goal.returns
returns c = appends-quantifier _ refl (appends-add (add-appends c.bound.ensures c.term.ensures) c.put.ensures)
