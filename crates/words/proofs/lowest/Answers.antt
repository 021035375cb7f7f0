-- `words::lowest` meets its contract: the zeros below the lowest set bit are the items that are not there.
-- Assumes nothing.
use Rattle.words.proofs.BitsLaws.{trailing-lowest}
use Rattle.words.proofs.lowest.Goals as goal

pub returns : goal.returns
returns c = trailing-lowest c.args.w
