-- The writers of terms call each other on nodes below their own: three times the index falls, a helper one below its caller.
-- Assumes nothing.
use Prim.Native.Nat.{◌+◌, ◌*◌}
use Rattle.printer.proofs.nodes.Tree.+terms.Given as goal

abbrev pub decreases-closed : goal.decreases-closed
decreases-closed l = 3 * l.i + 3

abbrev pub decreases-one : goal.decreases-one
decreases-one l = 3 * l.k + 1

abbrev pub decreases-others : goal.decreases-others
decreases-others l = 3 * l.i + 3

abbrev pub decreases-term : goal.decreases-term
decreases-term l = 3 * l.k + 2

abbrev pub decreases-two : goal.decreases-two
decreases-two l = 3 * l.k + 1
