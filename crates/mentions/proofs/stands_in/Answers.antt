-- `stands_in` tries each place: the answer from there on is the answer.
-- Assumes nothing.
use native.Mathlib.Omega.{arith}
use Rattle.mentions.proofs.StandsLaws.{onward-hit, onward-next, onward-none}
use Rattle.mentions.proofs.stands_in.Goals as goal

pub returns-then-stands : goal.returns-then-stands
returns-then-stands c = onward-hit c.loop-i.invariant (omega arith) c.stands.ensures c.if-stands.true

pub loop-i-preserved : goal.loop-i-preserved
loop-i-preserved c = onward-next c.loop-i.invariant (omega arith) c.stands.ensures c.if-stands.false

pub returns : goal.returns
returns c = onward-none c.loop-i.invariant (omega arith)
