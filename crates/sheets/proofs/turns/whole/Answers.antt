-- `sheets::turns::whole` counts all lines. The invariant: the total is that of the lines so far.
-- Assumes nothing.
use native.Mathlib.Omega.{arith}
use Rattle.sheets.proofs.TurnLaws.{none-sofar, total-whole}
use Rattle.sheets.proofs.turns.whole.Goals as goal

pub loop-at-init : goal.loop-at-init
loop-at-init c = rw c.no_lines-total.ensures (none-sofar _ _ c.requires.rules_len_bound)

pub judge_at-judged-requires : goal.judge_at-judged-requires
judge_at-judged-requires c = record { loaded = c.requires.loaded; sofar_on = c.loop-at.invariant; at_in_bounds = c.loop-at-test.true }

pub loop-at-smaller : goal.loop-at-smaller
loop-at-smaller c = omega (arith, c.judge_at-judged.ensures.onward.further, c.loop-at-test.true)

pub loop-at-preserved : goal.loop-at-preserved
loop-at-preserved c = c.judge_at-judged.ensures.onward.on

pub returns : goal.returns
returns c = total-whole c.loop-at.invariant c.loop-at-test.false
