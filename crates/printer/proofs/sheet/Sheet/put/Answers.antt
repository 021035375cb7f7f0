-- `put` copies as much as has room.
-- Assumes nothing.
use mathlib.Core.Path.{refl}
use native.Mathlib.Omega.{arith}
use Rattle.printer.proofs.PrintedLaws.{adds-put}
use Rattle.printer.proofs.sheet.Sheet.put.Goals as goal

pub returns : goal.returns
returns c = adds-put c.min-n.ensures (omega arith) c.copy_from_slice.ensures.after refl refl refl
