-- `tables::checks::covered`. Invariant: the rest without what the roles left dominate is what is to be empty in the end.
-- The measure is what is left, as a number. Assumes nothing.
use Prim.Native.Nat.{◌<◌, ◌^◌}
use mathlib.Core.Path.{◌≡◌}
use Rattle.words.specs.Words.{less_of, image_of}
use Rattle.tables.proofs.checks.covered.Given as goal

abbrev pub invariant-loop-rest : goal.invariant-loop-rest
invariant-loop-rest l = (l.left < 2 ^ 64) × (l.rest < 2 ^ 64) × (less_of l.rest (image_of l.rows l.left) ≡ less_of l.over (image_of l.rows l.own))

abbrev pub decreases-loop-rest : goal.decreases-loop-rest
decreases-loop-rest l = l.left
