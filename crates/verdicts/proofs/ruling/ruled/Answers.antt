-- `verdicts::ruling::ruled` meets its contract.
-- Assumes nothing.
use Rattle.walks.proofs.ShareLaws.{is_share, one-share}
use Rattle.verdicts.proofs.ruling.ruled.Goals as goal

pub returns : goal.returns
returns c = rw (c.outcome.ensures, one-share c.share.ensures (is_share _ _ c.requires.0))
