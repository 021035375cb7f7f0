-- `sessions::state::rule_end`: the two tests of a cut state.
-- Assumes nothing.
use native.Mathlib.Omega.{arith}
use Rattle.sessions.proofs.SplitLaws.{cut-front, cut-rule, whole-rule}
use Rattle.sessions.proofs.state.rule_end.Goals as goal

pub returns-then-state-lt-FRONT : goal.returns-then-state-lt-FRONT
returns-then-state-lt-FRONT c = cut-front _ c.if-state-lt-FRONT.true

pub returns-then-state-end : goal.returns-then-state-end
returns-then-state-end c = cut-rule _ c.if-state-lt-FRONT.false (omega (arith, c.from_le_bytes.ensures)) c.if-state-end.true

pub returns : goal.returns
returns c = whole-rule _ c.if-state-lt-FRONT.false (omega (arith, c.from_le_bytes.ensures)) c.if-state-end.false
