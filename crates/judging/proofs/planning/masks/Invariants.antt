-- `judging::planning::masks` meets its contract. The invariant: the first ones are filled in.
-- Assumes nothing.
use Prim.Native.Nat.{◌+◌}
use lib.ListN.{get_or}
use Rattle.walks.specs.Code.Kept.{Masks}
use Rattle.judging.specs.Code.Planning.{contexts_from, masks_from, Filled}
use Rattle.judging.proofs.planning.masks.Given as goal

abbrev pub invariant-loop-j : goal.invariant-loop-j
invariant-loop-j l = Filled l.initial.plan l.plan masks_from l.j (λ e w. Masks (get_or l.initial.plan (contexts_from + e) 0) w)
