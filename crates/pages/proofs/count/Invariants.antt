-- `pages::count` counts the lines as far as a page may have. The invariant: the lines counted and those to come are all lines.
-- Assumes nothing.
use Prim.Native.Nat.{suc, ◌-◌}
use lib.ListN.{length}
use Rattle.pages.specs.Code.Parts.{Counting}
use Rattle.pages.proofs.count.Given as goal

abbrev pub invariant-loop-at : goal.invariant-loop-at
invariant-loop-at l = Counting l.page l.at l.n

abbrev pub decreases-loop-at : goal.decreases-loop-at
decreases-loop-at l = suc (length l.page) - l.at
