-- `sharing::lines::looked` meets its contract. The invariant: of the lines that were gone over, each has its kept count or is missing.
-- Assumes nothing.
use mathlib.Core.Path.{◌≡◌}
use Prim.Native.Nat.{◌-◌, ◌^◌, ◌<◌}
use lib.ListN.{length}
use Rattle.sharing.proofs.LineLaws.{Going}
use Rattle.sharing.proofs.LookedLaws.{Seen, Unseen}
use Rattle.sharing.proofs.lines.looked.Given as goal

abbrev pub invariant-loop-rest : goal.invariant-loop-rest
invariant-loop-rest l = (l.missing < 2 ^ 64) × (length l.breaking ≡ length l.initial.breaking)
    × Going l.initial.rest l.rest (Seen l.lines l.kept l.at.many (l.d - 1) l.at.choice l.initial.breaking l.breaking l.missing) (Unseen l.lines l.kept l.at.many (l.d - 1) l.at.choice l.initial.breaking l.breaking l.missing)

abbrev pub decreases-loop-rest : goal.decreases-loop-rest
decreases-loop-rest l = l.rest
