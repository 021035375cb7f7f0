-- `stands_in` tries each place: the answer from there on is the answer.
-- Assumes nothing.
use Rattle.mentions.proofs.StandsLaws.{Onward}
use Rattle.mentions.proofs.stands_in.Given as goal

abbrev pub invariant-loop-i : goal.invariant-loop-i
invariant-loop-i l = Onward l.p l.s l.i
