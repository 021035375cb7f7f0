-- `texts::seek` finds where piece k starts. The invariant: behind the separators that were passed it is a piece of that many less.
-- Assumes nothing.
use Prim.Native.Nat.{◌≤◌, ◌-◌}
use lib.ListN.{length}
use Rattle.texts.proofs.SpansLaws.{Along}
use Rattle.texts.proofs.seek.Given as goal

abbrev pub invariant-loop : goal.invariant-loop
invariant-loop l = (l.at ≤ length l.s) × Along l.c l.k l.s l.at (l.k - l.counter)
