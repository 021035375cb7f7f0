-- `sheets::text::counts` writes the word and the two counts.
-- Assumes nothing.
use Rattle.sheets.specs.Line.{counts_of}
use Rattle.sheets.proofs.text.counts.Goals as goal

pub returns : goal.returns
unfolding counts_of
returns c = c.two.ensures
