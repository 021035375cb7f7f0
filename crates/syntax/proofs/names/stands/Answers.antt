-- `stands` compares the bytes in front.
-- Assumes nothing.
use mathlib.Core.Path.{◌∙◌}
use Rattle.syntax.proofs.Slices.{begins-part}
use Rattle.syntax.proofs.names.stands.Goals as goal

pub returns : goal.returns
returns c = record { is = c.starts_with.ensures.value ∙ begins-part _ _ _ c.requires }
