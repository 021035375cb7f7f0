-- `sheets::is_foot` finds the place straight behind the lines: it is 1, or there is a line before it.
-- Assumes nothing.
use mathlib.Core.Path.{◌∙◌}
use Rattle.sheets.proofs.SheetLaws.{first-foot, next-foot}
use Rattle.sheets.proofs.is_foot.Goals as goal

pub returns : goal.returns
returns c = c.is_some.ensures ∙ next-foot _ _ c.requires c.line.ensures c.if-place-eq1.false
