-- Bytes as a field: two lowercase hexadecimal digits for each, and `-` for no bytes.
-- Assumes nothing.
use Rattle.std.specs.Prelude.{Bool, true, false, ◌&&◌, List, [], ◌∷◌, ℕ, ◌+◌, ◌*◌, ◌-◌, ◌/◌, ◌%◌, eqb, ltb, leb}
use Rattle.std.proofs.Math.Option.{Option, none, some}

abbrev pub pick : Bool → ℕ → ℕ → ℕ
pick true a b = a
pick false a b = b

-- The digit of a number below 16: `0` to `9`, then `a` to `f`.
unfoldable pub hex_digit : ℕ → ℕ
hex_digit d = pick (ltb d 10) (48 + d) (87 + d)

-- What a digit stands for, and 16 for any other byte.
unfoldable pub hex_value : ℕ → ℕ
hex_value c = pick (leb 48 c && leb c 57) (c - 48) (pick (leb 97 c && leb c 102) (c - 87) 16)

unfoldable pub hex_of : List ℕ → List ℕ
hex_of [] = []
hex_of (b ∷ s) = hex_digit (b / 16) ∷ hex_digit (b % 16) ∷ hex_of s

-- The field of some bytes.
unfoldable pub field_of : List ℕ → List ℕ
field_of [] = 45 ∷ []
field_of (b ∷ s) = hex_of (b ∷ s)

-- One byte more, if its two digits are digits.
abbrev pub onto : Bool → ℕ → Option (List ℕ) → Option (List ℕ)
onto true b none = none
onto true b (some s) = some (b ∷ s)
onto false b r = none

unfoldable pub pairs : List ℕ → Option (List ℕ)
pairs [] = some []
pairs (a ∷ []) = none
pairs (a ∷ b ∷ s) = onto (ltb (hex_value a) 16 && ltb (hex_value b) 16) (16 * hex_value a + hex_value b) (pairs s)

abbrev pub if_dash : Bool → Option (List ℕ)
if_dash true = some []
if_dash false = none

-- The bytes of a field; an empty field is none.
unfoldable pub from_hex : List ℕ → Option (List ℕ)
from_hex [] = none
from_hex (a ∷ []) = if_dash (eqb a 45)
from_hex (a ∷ b ∷ s) = pairs (a ∷ b ∷ s)
