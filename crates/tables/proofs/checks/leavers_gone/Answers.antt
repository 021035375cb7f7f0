-- `tables::checks::leavers_gone`: 20, by the parts of the flat tables.
-- Assumes nothing.
use mathlib.Core.Path.{sym, ap, ◌∙◌}
use lib.Dec.{eqb}
use Rattle.tables.proofs.PartLaws.{leavers-part, present-part}
use Rattle.tables.proofs.checks.leavers_gone.Goals as goal

pub returns-then-present-all : goal.returns-then-present-all
returns-then-present-all c =
    λ T f b e. sym (present-part T f e (c.if-present-all.true ∙ c.all.ensures))

pub returns : goal.returns
returns c =
    λ T f b e. ap (λ w. eqb w 0) c.less.ensures ∙ leavers-part T f e b c.part-rows.ensures c.part-theirs.ensures c.part-cu.ensures c.users_met.ensures
