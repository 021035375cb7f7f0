-- `words::image` meets its contract. Invariant: what was found, joined with the image of what is left, is the image of w.
-- The measure is what is left, as a number. Assumes nothing.
use Prim.Native.Nat.{◌<◌, ◌^◌}
use mathlib.Core.Path.{◌≡◌}
use Rattle.words.specs.Words.{join_of, image_of}
use Rattle.words.proofs.image.Given as goal

abbrev pub invariant-loop-left : goal.invariant-loop-left
invariant-loop-left l = (l.left < 2 ^ 64) × (l.found < 2 ^ 64) × (join_of l.found (image_of l.rows l.left) ≡ image_of l.rows l.w)

abbrev pub decreases-loop-left : goal.decreases-loop-left
decreases-loop-left l = l.left
