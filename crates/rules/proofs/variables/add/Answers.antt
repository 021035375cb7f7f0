-- `rules::variables::add`: each way out is one of those of `Added`.
-- Assumes nothing.
use native.Mathlib.Omega.{arith}
use Rattle.rules.specs.Code.Variables.{many, known, over, new}
use Rattle.rules.proofs.variables.add.Goals as goal
use Rattle.rules.proofs.variables.add.Goals.{then-count-gt-CHOICES_LIMIT-via-then-count-gt-CHOICES_LIMIT, then-count-gt-CHOICES_LIMIT-via-else-count-gt-CHOICES_LIMIT+then-seek-count}

pub returns-then-count-gt-CHOICES_LIMIT : goal.returns-then-count-gt-CHOICES_LIMIT
returns-then-count-gt-CHOICES_LIMIT c =
    elim c.then-count-gt-CHOICES_LIMIT.branch [
      | then-count-gt-CHOICES_LIMIT-via-then-count-gt-CHOICES_LIMIT w ↦ many w.if-count-gt-CHOICES_LIMIT.true
      | then-count-gt-CHOICES_LIMIT-via-else-count-gt-CHOICES_LIMIT+then-seek-count w ↦ known w.if-count-gt-CHOICES_LIMIT.false w.seek.ensures w.if-seek-count.true
    ]

pub returns-then-count-eq-CHOICES_LIMIT : goal.returns-then-count-eq-CHOICES_LIMIT
returns-then-count-eq-CHOICES_LIMIT c = over c.if-count-eq-CHOICES_LIMIT.true c.seek.ensures c.if-seek-count.false

pub returns : goal.returns
returns c = new (omega arith) c.seek.ensures c.if-seek-count.false
