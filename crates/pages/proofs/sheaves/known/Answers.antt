-- `pages::sheaves::known` meets its contract. The invariant: the lines that were found have their counts.
-- Assumes nothing.
use Rattle.pages.proofs.SheafLaws.{known-none}
use Rattle.pages.proofs.sheaves.known.Goals as goal

pub loop-k-init : goal.loop-k-init
loop-k-init c =
    known-none _ _ _ _ c.requires.fulls_len.0 c.requires.fulls_len.1
