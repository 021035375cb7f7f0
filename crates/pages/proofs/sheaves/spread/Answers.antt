-- `pages::sheaves::spread` meets its contract. The invariant: the counts of the first l gathered lines are in their places.
-- Assumes nothing.
use mathlib.Core.Path.{ap, ◌∙◌}
use Rattle.words.specs.Words.{join_of}
use Rattle.pages.proofs.SheafLaws.{spreads-none, spreads-next}
use Rattle.pages.proofs.sheaves.spread.Goals as goal

pub loop-l-init : goal.loop-l-init
loop-l-init c = spreads-none _ _ _ _ _

pub loop-l-preserved : goal.loop-l-preserved
loop-l-preserved c =
    let next = spreads-next c.requires c.loop-l.invariant c.loop-l-test.true in
    rw (c.join-known.ensures ∙ ap (join_of c.loop-l.known) c.item.ensures) next
