-- `verdicts::in_turn` meets its contract: the rule is parsed once, and judged in turn.
-- Assumes nothing.
use Rattle.verdicts.proofs.in_turn.Goals as goal

pub returns : goal.returns
returns c = c.parsed_in_turn.ensures _ c.parse.ensures
