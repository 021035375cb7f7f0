-- The pieces of a text between separators: lines and fields.
-- Assumes nothing.
use Rattle.std.specs.Prelude.{Bool, true, false, List, [], ◌∷◌, ℕ, eqb}

-- x at the front of the first piece, which it begins where there is none.
abbrev pub on_first : ℕ → List (List ℕ) → List (List ℕ)
on_first x [] = (x ∷ []) ∷ []
on_first x (w ∷ ws) = (x ∷ w) ∷ ws

abbrev pub cut : Bool → ℕ → List (List ℕ) → List (List ℕ)
cut true x ws = [] ∷ ws
cut false x ws = on_first x ws

-- The pieces of a text that the byte c separates; `final` is what the empty text has.
unfoldable pub split : ℕ → List (List ℕ) → List ℕ → List (List ℕ)
split c final [] = final
split c final (x ∷ s) = cut (eqb x c) x (split c final s)

-- "Lines end at byte 10, the last one also at the file's end, and nothing after a final byte 10 is no line."
abbrev pub lines : List ℕ → List (List ℕ)
lines s = split 10 [] s

-- Fields separated by one blank each.
abbrev pub fields : List ℕ → List (List ℕ)
fields s = split 32 ([] ∷ []) s
