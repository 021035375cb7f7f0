-- `tables::checks::reaches`: overreach, by the parts of the flat tables.
-- Assumes nothing.
use mathlib.Core.Path.{sym, ◌∙◌}
use native.Mathlib.Omega.{arith}
use Rattle.tables.specs.Code.Layout.{session_users_at, session_roles_at}
use Rattle.tables.proofs.PartLaws.{part_length, reach-part}
use Rattle.tables.proofs.checks.reaches.Goals as goal

pub in_reach-requires : goal.in_reach-requires
in_reach-requires c =
    part_length c.args.words.now session_users_at _ c.requires.whole (omega arith) c.requires.sessions c.part-theirs.ensures
    ∙ sym (part_length c.args.words.now session_roles_at _ c.requires.whole (omega arith) c.requires.sessions c.part-active.ensures)

pub returns : goal.returns
returns c =
    λ T f b ok e. c.in_reach.ensures ∙ reach-part T f e b ok c.part-rows.ensures c.part-assigned.ensures c.part-theirs.ensures c.part-active.ensures
