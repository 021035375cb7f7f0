-- `words::outside`: what is left of a word shifted by n.
-- Assumes nothing.
use Rattle.words.proofs.OutsideLaws.{outside-shift}
use Rattle.words.proofs.outside.Goals as goal

pub returns-then-n-lt64 : goal.returns-then-n-lt64
returns-then-n-lt64 c = outside-shift c.args.w c.args.n
