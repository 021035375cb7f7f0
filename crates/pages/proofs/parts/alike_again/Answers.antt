-- `pages::parts::alike_again` compares the parts that were found again.
-- Assumes nothing.
use mathlib.Core.Path.{sym, ap₂, ◌∙◌}
use Rattle.syntax.specs.Bytes.{same}
use Rattle.formulas.proofs.WrittenLaws.{same-pointwise}
use Rattle.pages.proofs.PartLaws.{says-ends}
use Rattle.pages.proofs.parts.alike_again.Goals as goal

pub returns : goal.returns
returns c =
    let first = says-ends c.part_at.ensures c.in-Ok.is in
    let second = says-ends c.part_at-2.ensures c.in-Ok-part_at.is in
    c.eq.ensures ∙ sym (same-pointwise _ _) ∙ ap₂ same first.text second.text
