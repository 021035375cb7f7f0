-- `functions::done_by` meets its contract: rows of these users and on the object, two steps back, and forth to their operations.
-- Assumes nothing.
use mathlib.Core.Path.{ap, ap₂, ◌∙◌}
use Rattle.words.specs.Words.{image_of, meet_of}
use Rattle.tables.specs.Code.Layout.{done_operations_at, section_at}
use Rattle.functions.proofs.FunctionsLaws.{done-by, counted-done-users, counted-done-objects}
use Rattle.functions.proofs.done_by.Goals as goal

pub returns : goal.returns
returns c = λ T fits e.
    let theirs = c.preimage-theirs.ensures T e (counted-done-users T) in
    let on = c.preimage-on.ensures T e (counted-done-objects T) in
    c.image.ensures T e ∙ ap (image_of (section_at T done_operations_at)) (c.meet.ensures ∙ ap₂ meet_of theirs on)
    ∙ done-by T c.args.w c.args.o
