-- `words::contains` meets its contract: the test is the definition's.
-- Assumes nothing.
use mathlib.Core.Path.{refl}
use Rattle.words.specs.Words.{has}
use Rattle.words.proofs.contains.Goals as goal

pub returns : goal.returns
unfolding has
returns c = refl
