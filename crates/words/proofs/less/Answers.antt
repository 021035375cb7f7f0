-- `words::less` meets its contract, bit by bit.
-- Assumes nothing.
use Rattle.words.proofs.BitsLaws.{and-not-less}
use Rattle.words.proofs.less.Goals as goal

pub returns : goal.returns
returns c = and-not-less c.args.a c.args.b c.ranges.a.fits c.ranges.b.fits
