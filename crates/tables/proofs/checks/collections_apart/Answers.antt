-- `tables::checks::collections_apart`: twins, by the parts of the flat tables.
-- Assumes nothing.
use mathlib.Core.Path.{ap, ◌∙◌}
use native.Mathlib.Omega.{arith}
use Rattle.tables.specs.Checks.{apart}
use Rattle.tables.proofs.PartLaws.{cr-part, cu-part, cp-part}
use Rattle.tables.proofs.checks.collections_apart.Goals as goal
use Rattle.tables.proofs.checks.collections_apart.Goals.{then-apart, else-apart}

pub returns-then-apart-2 : goal.returns-then-apart-2
returns-then-apart-2 c = λ T f e.
    let one = c.apart.ensures ∙ ap apart (cr-part T f e c.part.ensures) in
    let three = c.apart-then-apart-2.ensures ∙ ap apart (cp-part T f e c.part-then-apart-2.ensures) in
    elim c.if-apart.branch [
      | then-apart w ↦
          let two = w.apart-then-apart.ensures ∙ ap apart (cu-part T f e w.part-then-apart.ensures) in
          grind (arith, one, two, three, c.if-apart-2.true, w.value-is, w.if-apart.true)
      | else-apart w ↦ grind (arith, one, three, c.if-apart-2.true, w.value-is)
    ]

pub returns-else-apart-2 : goal.returns-else-apart-2
returns-else-apart-2 c = λ T f e.
    let one = c.apart.ensures ∙ ap apart (cr-part T f e c.part.ensures) in
    elim c.if-apart.branch [
      | then-apart w ↦
          let two = w.apart-then-apart.ensures ∙ ap apart (cu-part T f e w.part-then-apart.ensures) in
          grind (arith, one, two, c.if-apart-2.false, w.value-is, w.if-apart.true)
      | else-apart w ↦ grind (arith, one, c.if-apart-2.false, w.value-is, w.if-apart.false)
    ]
