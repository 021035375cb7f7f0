-- `sheets::refused_tables` writes `tables refused N` at place 1 and nothing elsewhere.
-- Assumes nothing.
use Rattle.sheets.proofs.SheetLaws.{nothing-made, one-made}
use Rattle.sheets.proofs.refused_tables.Goals as goal

pub returns-then-place-ne1 : goal.returns-then-place-ne1
returns-then-place-ne1 c = nothing-made _ _ _ c.if-place-ne1.true

pub returns : goal.returns
returns c =
    one-made c.if-place-ne1.false (rw c.from.ensures at c.labelled.ensures)
