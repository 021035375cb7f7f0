-- `sheets::turns::judge_at` judges the rule of the line at a byte, up to its byte 10, and counts it.
-- Assumes nothing.
use Rattle.sheets.proofs.TurnLaws.{judged-next, judged-onward}
use Rattle.sheets.proofs.turns.judge_at.Goals as goal

pub returns : goal.returns
returns c =
    record { judges_next = λ T H. judged-next c.requires.sofar_on c.line_end-to.ensures c.requires.at_in_bounds T H (c.in_turn-verdict.ensures T H); onward = judged-onward c.requires.sofar_on c.line_end-to.ensures c.requires.at_in_bounds c.in_turn-verdict.ensures c.count-total.ensures }
