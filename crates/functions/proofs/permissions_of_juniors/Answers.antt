-- `functions::permissions_of_juniors` meets its contract: one step forth and one back.
-- Assumes nothing.
use mathlib.Core.Path.{ap, ◌∙◌}
use Rattle.words.specs.Words.{preimage_of}
use Rattle.tables.specs.Code.Layout.{permission_rows_at, section_at}
use Rattle.functions.proofs.FunctionsLaws.{permissions-of-juniors, counted-permissions}
use Rattle.functions.proofs.permissions_of_juniors.Goals as goal

pub returns : goal.returns
returns c = λ T fits e.
    c.preimage.ensures T e (counted-permissions T) ∙ ap (preimage_of (section_at T permission_rows_at)) (c.image-down.ensures T e) ∙ permissions-of-juniors T c.args.w
