-- `pages::parts::part_at` is `part_of` on line k.
-- Assumes nothing.
use Rattle.pages.proofs.LineLaws.{line-is, line-there}
use Rattle.pages.proofs.parts.part_at.Goals as goal

pub returns-in_default : goal.returns-in_default
returns-in_default c =
    line-there _ _ c.in_default.ensures c.requires.k_in_bounds

pub returns : goal.returns
returns c =
    rw (line-is _ _ c.in-Some.ensures) c.part_of.ensures
