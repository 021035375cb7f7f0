-- `pages::sheaves::alike` meets its contract. The invariant: what was found are lines.
-- Assumes nothing.
use Rattle.pages.specs.Code.Sheaves.{LinesOf}
use Rattle.pages.proofs.sheaves.alike.Given as goal

abbrev pub invariant-loop-j : goal.invariant-loop-j
invariant-loop-j l = LinesOf l.found l.many
