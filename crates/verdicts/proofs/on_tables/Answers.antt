-- `verdicts::on_tables` meets its contract: the rule is parsed once.
-- Assumes nothing.
use Rattle.verdicts.proofs.on_tables.Goals as goal

pub returns : goal.returns
returns c = c.of_parsed.ensures _ c.parse.ensures
