-- `cmp_at`: its table has the comparisons.
-- Assumes nothing.
use mathlib.Core.Path.{refl}
use Rattle.syntax.specs.Rule.{spell_cmp, cmps}
use Rattle.syntax.specs.Code.Arena.{cmp_number}
use Rattle.syntax.proofs.NameLaws.{retold}
use Rattle.syntax.proofs.names.cmp_at.Goals as goal

pub returns : goal.returns
unfolding cmps spell_cmp cmp_number
returns c = retold spell_cmp cmps refl c.first.ensures
