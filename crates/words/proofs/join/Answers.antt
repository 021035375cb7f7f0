-- `words::join` meets its contract, bit by bit.
-- Assumes nothing.
use Rattle.words.proofs.BitsLaws.{or-join}
use Rattle.words.proofs.join.Goals as goal

pub returns : goal.returns
returns c = or-join c.args.a c.args.b c.ranges.a.fits c.ranges.b.fits
