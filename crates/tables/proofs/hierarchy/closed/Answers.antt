-- `tables::hierarchy::closed`: nothing is left of what lies below r without what r dominates.
-- Assumes nothing.
use mathlib.Core.Path.{ap, ◌∙◌}
use Prim.Native.Nat.{ℕ}
use lib.Dec.{eqb}
use lib.ListN.{get_or}
use Rattle.words.specs.Words.{less_of, image_of}
use Rattle.tables.specs.Code.Reads.{closed_at}
use Rattle.tables.proofs.hierarchy.closed.Goals as goal

pub returns : goal.returns
unfolding closed_at
returns c =
    let w : ℕ = get_or c.args.rows.now c.args.r 0 in
    ap (λ (x : ℕ). eqb x 0)
    (c.less-2.ensures
    ∙ ap (λ (b : ℕ). less_of b w)
    (c.image-below.ensures ∙ ap (image_of c.args.rows.now) (c.less.ensures ∙ ap (less_of w) c.item.ensures)))
