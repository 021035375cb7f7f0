-- `sharing::laying::line` meets its contract. The invariant: the masks of the depths below d are laid.
-- Assumes nothing.
use Prim.Native.Nat.{◌*◌}
use lib.ListN.{get_or}
use Rattle.judging.specs.Code.Planning.{Filled}
use Rattle.sharing.specs.Code.Laying.{MaskFor}
use Rattle.sharing.proofs.laying.line.Given as goal

abbrev pub invariant-loop-d : goal.invariant-loop-d
invariant-loop-d l = Filled l.initial.lines l.lines (16 * l.range.line) l.d (λ e w. MaskFor l.plan l.scopes (get_or l.sets e 0) l.range.from l.range.to e w)
