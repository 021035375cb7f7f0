-- `pages::sheaves::known` meets its contract. The invariant: the lines that were found have their counts.
-- Assumes nothing.
use Rattle.pages.specs.Code.Sheaves.{KnownLines}
use Rattle.pages.proofs.sheaves.known.Given as goal

abbrev pub invariant-loop-k : goal.invariant-loop-k
invariant-loop-k l = KnownLines l.words l.page l.fulls l.breakings l.found
