-- `functions::image` meets its contract: the rest of the words from the section's start has the section's rows.
-- Assumes nothing.
use Prim.Native.Nat.{◌-◌}
use mathlib.Core.Path.{◌∙◌}
use native.Mathlib.Omega.{arith}
use lib.ListN.{length}
use Rattle.functions.proofs.SectionLaws.{image-section}
use Rattle.functions.proofs.image.Goals as goal

pub returns : goal.returns
returns c = λ T e.
    c.image.ensures ∙ image-section T c.args.at (length c.args.t.now - c.args.at) c.requires.1.0 (omega (arith, c.requires)) c.args.w e
