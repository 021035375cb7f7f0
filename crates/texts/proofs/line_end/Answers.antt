-- `texts::line_end` finds the next byte 10, or the end.
-- Assumes nothing.
use Rattle.texts.proofs.SpansLaws.{sought}
use Rattle.texts.proofs.line_end.Goals as goal

pub returns : goal.returns
returns c = sought c.requires c.find.ensures.is c.find.ensures.within
