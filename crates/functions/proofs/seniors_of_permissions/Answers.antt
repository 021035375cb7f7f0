-- `functions::seniors_of_permissions` meets its contract: one step forth and one back.
-- Assumes nothing.
use mathlib.Core.Path.{ap, ◌∙◌}
use Rattle.words.specs.Words.{preimage_of}
use Rattle.tables.specs.Code.Layout.{role_rows_at, section_at}
use Rattle.functions.proofs.FunctionsLaws.{seniors-of-permissions, counted-roles}
use Rattle.functions.proofs.seniors_of_permissions.Goals as goal

pub returns : goal.returns
returns c = λ T fits e.
    c.preimage.ensures T e (counted-roles T) ∙ ap (preimage_of (section_at T role_rows_at)) (c.image-holders.ensures T e) ∙ seniors-of-permissions T c.args.w
