-- `sheets::turns::next_line` writes the line behind those so far: the total where the rules end, else that of the rule that it judges.
-- Assumes nothing.
use Rattle.sheets.proofs.TurnLaws.{total-next, total-last}
use Rattle.sheets.proofs.turns.next_line.Goals as goal

pub returns-then-rules-at : goal.returns-then-rules-at
returns-then-rules-at c =
    record { writes_next = total-next c.requires.sofar_on c.if-rules-at.true c.write-n.ensures; turns = total-last c.requires.sofar_on c.if-rules-at.true }

pub returns : goal.returns
returns c =
    record { writes_next = λ T H. rw (c.judge_at-judged.ensures.judges_next T H) at c.line_of-n.ensures; turns = c.judge_at-judged.ensures.onward }
