-- `tables::checks::users_met`: a preimage and two images, joined.
-- Assumes nothing.
use mathlib.Core.Path.{ap, ap₂, ◌∙◌}
use Rattle.words.specs.Words.{join_of, image_of, preimage_of}
use Rattle.tables.specs.Code.Reads.{users_met}
use Rattle.tables.proofs.checks.users_met.Goals as goal

pub returns : goal.returns
unfolding users_met
returns c =
    let roled = c.preimage-roled.ensures ∙ ap (preimage_of c.args.rows.now) c.all.ensures in
    let busy = c.image-busy.ensures ∙ ap (image_of c.args.theirs.now) c.all-2.ensures in
    let named = c.image-named.ensures ∙ ap (image_of c.args.cu.now) c.all-3.ensures in
    c.join-2.ensures ∙ ap₂ join_of roled (c.join.ensures ∙ ap₂ join_of busy named)
