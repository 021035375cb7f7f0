-- `functions::operations_on` meets its contract: permissions held and on the object, two steps back, and forth to their operations.
-- Assumes nothing.
use mathlib.Core.Path.{ap, ap₂, ◌∙◌}
use Rattle.words.specs.Words.{image_of, meet_of}
use Rattle.tables.specs.Code.Layout.{operation_rows_at, section_at}
use Rattle.functions.proofs.FunctionsLaws.{operations-on, counted-permissions, counted-objects}
use Rattle.functions.proofs.operations_on.Goals as goal

pub returns : goal.returns
returns c = λ T fits e.
    let held = c.preimage-held.ensures T e (counted-permissions T) in
    let on = c.preimage-on.ensures T e (counted-objects T) in
    c.image.ensures T e ∙ ap (image_of (section_at T operation_rows_at)) (c.meet.ensures ∙ ap₂ meet_of held on)
    ∙ operations-on T fits c.args.w c.args.o
