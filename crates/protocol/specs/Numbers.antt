-- A number as a field: decimal digits of a number that is at most so much.
-- Assumes nothing.
use Rattle.std.specs.Prelude.{Bool, true, false, ◌&&◌, List, [], ◌∷◌, ℕ, ◌+◌, ◌*◌, ◌-◌, leb}
use Rattle.std.proofs.Math.Option.{Option, none, some}

abbrev pub if_fits : Bool → Option ℕ → Option ℕ
if_fits true r = r
if_fits false r = none

-- The digits s, behind digits that stand for n.
unfoldable pub value_on : ℕ → ℕ → List ℕ → Option ℕ
value_on most n [] = some n
value_on most n (c ∷ s) = if_fits (leb 48 c && (leb c 57 && leb (10 * n + (c - 48)) most)) (value_on most (10 * n + (c - 48)) s)

unfoldable pub value_of : ℕ → List ℕ → Option ℕ
value_of most [] = none
value_of most (c ∷ s) = value_on most 0 (c ∷ s)
