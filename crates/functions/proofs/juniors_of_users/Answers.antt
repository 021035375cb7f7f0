-- `functions::juniors_of_users` meets its contract: two steps forth.
-- Assumes nothing.
use mathlib.Core.Path.{ap, ◌∙◌}
use Rattle.words.specs.Words.{image_of}
use Rattle.tables.specs.Code.Layout.{role_rows_at, section_at}
use Rattle.functions.proofs.FunctionsLaws.{juniors-of-users}
use Rattle.functions.proofs.juniors_of_users.Goals as goal

pub returns : goal.returns
returns c = λ T fits e.
    c.image.ensures T e ∙ ap (image_of (section_at T role_rows_at)) (c.image-own.ensures T e) ∙ juniors-of-users T c.args.w
