-- `functions::preimage` meets its contract: as many words from the section's start as its count have the section's rows.
-- Assumes nothing.
use Prim.Native.Nat.{ℕ, ◌+◌, ◌-◌}
use mathlib.Core.Path.{◌≡◌, ap, ◌∙◌}
use mathlib.Core.List.{List}
use native.Mathlib.Omega.{arith}
use lib.ListN.{get_or}
use Rattle.tables.specs.Flat.{counts}
use Rattle.tables.proofs.FlatLaws.{count_at}
use Rattle.functions.proofs.SectionLaws.{preimage-section}
use Rattle.functions.proofs.preimage.Goals as goal

pub returns : goal.returns
returns c = λ T e h.
    let n : ℕ = c.min.result in
    let same : get_or c.args.t.now c.args.count 0 ≡ get_or (counts T) c.args.count 0 =
    ap (λ (l : List ℕ). get_or l c.args.count 0) e ∙ count_at T c.args.count (omega (arith, c.requires)) in
    c.preimage.ensures ∙ preimage-section T c.args.at (c.args.at + n - c.args.at) c.requires.1.0 (omega (arith, c.min.ensures)) c.args.w e
