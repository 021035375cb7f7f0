-- `sharing::laying::lay` meets its contract. The invariant: the words of the first l lines are laid.
-- Assumes nothing.
use mathlib.Core.Path.{◌≡◌}
use lib.ListN.{length}
use Rattle.sharing.specs.Code.Lines.{lines_length}
use Rattle.sharing.proofs.LayingLaws.{LaidTo}
use Rattle.sharing.proofs.laying.lay.Given as goal

abbrev pub invariant-loop-l : goal.invariant-loop-l
invariant-loop-l l = (length l.lines ≡ lines_length) × LaidTo l.plan l.scopes l.sets l.starts l.l l.lines
