-- `pages::writing::write_from` writes the lines from line k on, and gives their word and counts. The measure is how many are left.
-- Assumes nothing.
use Prim.Native.Nat.{◌-◌}
use Rattle.pages.proofs.writing.+write_from.Given as goal

abbrev pub decreases-write_from : goal.decreases-write_from
decreases-write_from l = l.many - l.k
