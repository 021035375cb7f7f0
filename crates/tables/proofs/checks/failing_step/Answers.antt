-- `tables::checks::failing_step`: the hierarchy test on the role rows of the flat tables.
-- Assumes nothing.
use Rattle.tables.proofs.PartLaws.{rank-part}
use Rattle.tables.proofs.checks.failing_step.Goals as goal

pub returns : goal.returns
returns c = λ T f b e. rank-part T f e b c.part.ensures c.first_failing.ensures
