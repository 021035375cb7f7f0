-- `words::preimage` meets its contract. Invariant: what was found are those of the first i items whose row meets w.
-- The measure is what is left of the rows. Assumes nothing.
use Prim.Native.Nat.{◌≤◌}
use mathlib.Core.Path.{◌≡◌}
use Rattle.words.specs.Words.{word_of}
use Rattle.words.proofs.LoopLaws.{meets}
use Rattle.words.proofs.preimage.Given as goal

abbrev pub invariant-loop-i : goal.invariant-loop-i
invariant-loop-i l = (l.i ≤ l.n) × (l.found ≡ word_of l.i (meets l.rows l.w))
