-- `tables::hierarchy::antisymmetric`: where the steps before hold, two roles that dominate each other have the same row.
-- Assumes nothing.
use mathlib.Core.Path.{◌∙◌}
use Rattle.tables.proofs.RankLaws.{rows_apart}
use Rattle.tables.proofs.hierarchy.antisymmetric.Goals as goal

pub returns : goal.returns
returns c = λ below self along. c.apart.ensures ∙ rows_apart c.args.rows.now below self along
