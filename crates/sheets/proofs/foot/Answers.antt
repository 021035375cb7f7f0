-- `sheets::foot` writes the total at the place straight behind the lines, and nothing further.
-- Assumes nothing.
use Rattle.sheets.proofs.JudgedLaws.{total_made, beyond-made}
use mathlib.Core.Path.{ap}
use mathlib.Core.Bool.{not}
use Rattle.sheets.proofs.foot.Goals as goal

pub returns-then-not-is_foot : goal.returns-then-not-is_foot
returns-then-not-is_foot c =
    λ T H. beyond-made T _ _ _ c.requires.rules_len_bound.0 c.requires.rules_len_bound.1 c.is_foot.ensures (ap not c.if-not-is_foot.true)

pub returns : goal.returns
returns c =
    λ T H. total_made T _ _ c.requires.rules_len_bound.0 c.is_foot.ensures (ap not c.if-not-is_foot.false) (c.whole.ensures T H) c.write.ensures
