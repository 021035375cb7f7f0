-- `between_at`: its table has the signs between two terms.
-- Assumes nothing.
use mathlib.Core.Path.{refl}
use Rattle.syntax.specs.Rule.{spell_between, betweens}
use Rattle.syntax.specs.Code.Arena.{alike_op}
use Rattle.syntax.specs.Code.Reading.{between_op}
use Rattle.syntax.proofs.NameLaws.{retold}
use Rattle.syntax.proofs.names.between_at.Goals as goal

pub returns : goal.returns
unfolding betweens spell_between between_op alike_op
returns c = retold spell_between betweens refl c.first.ensures
