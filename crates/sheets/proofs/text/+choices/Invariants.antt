-- `sheets::text::choices` writes the choices from variable k on, up to the first that is unused. The measure is how many are left.
-- Assumes nothing.
use lib.ListN.{length}
use Prim.Native.Nat.{◌-◌}
use Rattle.sheets.proofs.text.+choices.Given as goal

abbrev pub decreases-choices : goal.decreases-choices
decreases-choices l = length l.first.now - l.k
