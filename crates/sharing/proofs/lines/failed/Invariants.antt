-- `sharing::lines::failed` meets its contract. The invariant: of the lines that were gone over, those found have a false clause; no other line is found.
-- Assumes nothing.
use Prim.Native.Nat.{◌^◌, ◌<◌}
use Rattle.sharing.proofs.LineLaws.{Going}
use Rattle.sharing.proofs.FailedLaws.{Told, Untold}
use Rattle.sharing.proofs.lines.failed.Given as goal

abbrev pub invariant-loop-rest : goal.invariant-loop-rest
invariant-loop-rest l = (l.found < 2 ^ 64) × Going l.initial.rest l.rest (Told l.plan l.lines l.cache l.level l.found) (Untold l.found)

abbrev pub decreases-loop-rest : goal.decreases-loop-rest
decreases-loop-rest l = l.rest
