-- `sharing::lines::add` meets its contract. The invariant: each line that was gone over has its summand, the others none yet.
-- Assumes nothing.
use mathlib.Core.Path.{◌≡◌}
use lib.ListN.{length}
use Rattle.sharing.proofs.LineLaws.{Going}
use Rattle.sharing.proofs.AddedLaws.{Added, Same}
use Rattle.sharing.proofs.lines.add.Given as goal

abbrev pub invariant-loop-rest : goal.invariant-loop-rest
invariant-loop-rest l = (length l.breaking ≡ length l.initial.breaking) × Going l.active l.rest (Added l.closed l.full l.under l.initial.breaking l.breaking) (Same l.initial.breaking l.breaking)

abbrev pub decreases-loop-rest : goal.decreases-loop-rest
decreases-loop-rest l = l.rest
