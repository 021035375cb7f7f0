-- `words::meet` meets its contract, bit by bit.
-- Assumes nothing.
use Rattle.words.proofs.BitsLaws.{and-meet}
use Rattle.words.proofs.meet.Goals as goal

pub returns : goal.returns
returns c = and-meet c.args.a c.args.b c.ranges.a.fits c.ranges.b.fits
