-- Document 02, N3: the quantifier part of a formula.
-- Assumes nothing.
use Rattle.std.specs.Prelude.{Bool, true, false, [], ◌∷◌, ℕ, eqb}
use Rattle.syntax.specs.Bytes.{Bytes}

-- "quantifier parts .. (a formula through its `:`; a lone `:` is one)": up to the first `:`, and with it.
abbrev pub colon : ℕ
colon = 58

abbrev pub up_to : Bool → Bytes → Bytes
up_to true s = []
up_to false s = s

unfoldable pub quantifier_part : Bytes → Bytes
quantifier_part [] = []
quantifier_part (x ∷ s) = x ∷ up_to (eqb x colon) (quantifier_part s)
