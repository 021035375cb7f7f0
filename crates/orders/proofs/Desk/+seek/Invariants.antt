-- The proof of the cycle of calls {seek}. The measure is the number of places left.
-- Assumes nothing.
use Prim.Native.Nat.{◌-◌}
use Rattle.orders.proofs.Desk.+seek.Given as goal

abbrev pub decreases-seek : goal.decreases-seek
decreases-seek l = l.n - l.d
