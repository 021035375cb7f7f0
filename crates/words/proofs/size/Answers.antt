-- `words::size` meets its contract: the count of ones is the number of items.
-- Assumes nothing.
use Rattle.words.proofs.BitsLaws.{ones-size}
use Rattle.words.proofs.size.Goals as goal

pub returns : goal.returns
returns c = ones-size c.args.w c.ranges.w.fits
