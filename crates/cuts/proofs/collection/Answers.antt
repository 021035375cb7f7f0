-- `cuts::collection`: the words of CU are cut, and counted.
-- Assumes nothing.
use mathlib.Core.Path.{◌∙◌}
use Rattle.cuts.proofs.TurnLaws.{words-turned}
use Rattle.cuts.proofs.collection.Goals as goal

pub returns : goal.returns
returns c = λ T F e. c.replace.ensures ∙ words-turned _ c.ranges.reader.fits T F e c.part.ensures c.cut_words-n.ensures
