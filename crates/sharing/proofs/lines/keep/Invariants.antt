-- `sharing::lines::keep` meets its contract. The invariant: the counts of the lines that were gone over are kept, and what was kept is still right.
-- Assumes nothing.
use Prim.Native.Nat.{◌-◌}
use Rattle.sharing.specs.Code.Lines.{KeepsFor}
use Rattle.sharing.proofs.LineLaws.{Going}
use Rattle.sharing.proofs.LineLaws.{Any}
use Rattle.sharing.proofs.lines.keep.Given as goal

abbrev pub invariant-loop-rest : goal.invariant-loop-rest
invariant-loop-rest l = Going l.initial.rest l.rest Any Any × KeepsFor l.lines l.at.many (l.d - 1) l.initial.rest l.at.choice l.full l.breaking l.initial.kept l.kept

abbrev pub decreases-loop-rest : goal.decreases-loop-rest
decreases-loop-rest l = l.rest
