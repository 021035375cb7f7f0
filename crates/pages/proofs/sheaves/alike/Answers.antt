-- `pages::sheaves::alike` meets its contract. The invariant: what was found are lines.
-- Assumes nothing.
use mathlib.Core.Path.{ap, ◌∙◌}
use Rattle.words.specs.Words.{join_of}
use Rattle.pages.proofs.SheafLaws.{lines_none, lines-add}
use Rattle.pages.proofs.sheaves.alike.Goals as goal
use Rattle.pages.proofs.sheaves.alike.Goals.{then-groups-j+then-not-contains, else-groups-j}

pub loop-j-init : goal.loop-j-init
loop-j-init c = lines_none _

pub loop-j-preserved : goal.loop-j-preserved
loop-j-preserved c =
    let more = lines-add c.loop-j.j c.loop-j.invariant c.requires.0 c.loop-j-test.true in
    elim c.if-groups-j.branch [
      | then-groups-j+then-not-contains w ↦ rw (w.found-is ∙ w.join-found.ensures ∙ ap (join_of c.loop-j.found) w.item.ensures) more
      | else-groups-j w ↦ rw w.found-is c.loop-j.invariant
    ]
