-- `pages::parts::part_length` finds the first `:` of a formula; a text without one is taken whole.
-- Assumes nothing.
use Rattle.pages.proofs.PartLaws.{ends-behind, ends-whole}
use Rattle.pages.proofs.parts.part_length.Goals as goal

pub returns-then-at-formula : goal.returns-then-at-formula
returns-then-at-formula c = ends-whole _ c.find-at.ensures.is c.find-at.ensures.within c.if-at-formula.true

pub returns : goal.returns
returns c = ends-behind _ c.find-at.ensures.is c.find-at.ensures.within c.if-at-formula.false
