-- Document 01, "Formula": the choices of a rule text, found in its bytes alone, from front to back. `ChoosingLaws.choices-read` says that
-- they are those of the rule's tree. Assumes nothing.
use Rattle.std.specs.Prelude.{List, [], ◌∷◌, ◌++◌, Bool, true, false, ◌||◌, cond, ℕ, ◌-◌, eqb, length, take}
use Rattle.syntax.specs.Bytes.{Bytes, ascii, same}

-- A bracket that was opened: whether it is that of an `OE` or `AO`, and the bytes behind it.
pub record Bracket : Type 0 where
  pub chooses : Bool
  pub behind : Bytes

-- Whether x and y, the last two bytes before a bracket, are `OE` or `AO`.
unfoldable pub chooser : ℕ → ℕ → Bool
chooser x y = same (x ∷ y ∷ []) (ascii "OE") || same (x ∷ y ∷ []) (ascii "AO")

-- "Equal argument texts choose the same element; different texts choose separately": a text comes behind the others unless it is one of them.
unfoldable pub among : List Bytes → Bytes → Bool
among [] w = false
among (x ∷ xs) w = same x w || among xs w

unfoldable pub noted : List Bytes → Bytes → List Bytes
noted xs w = cond (among xs w) xs (xs ++ (w ∷ []))

-- The argument text of a bracket that is closed where s begins.
unfoldable pub argument : Bracket → Bytes → Bytes
argument b s = take (length b.behind - length s) b.behind

-- The brackets still open and the texts noted where s begins with a closing bracket.
unfoldable pub outer : List Bracket → List Bracket
outer [] = []
outer (b ∷ bs) = bs

unfoldable pub closing : List Bracket → List Bytes → Bytes → List Bytes
closing [] xs s = xs
closing (b ∷ bs) xs s = cond b.chooses (noted xs (argument b s)) xs

-- "Choices are numbered v1, v2, .. in the order in which the closing bracket of their first OE or AO is read": the argument texts noted when s
-- is read, where x and y are the last two bytes before it, the brackets bs are open and the texts xs are noted. (The bytes 40 and 41 are `(` and `)`.)
unfoldable pub choices_from : ℕ → ℕ → List Bracket → List Bytes → Bytes → List Bytes
choices_from x y bs xs [] = xs
choices_from x y bs xs (c ∷ s) =
    elim (eqb c 40) [
      | true ↦ choices_from y c (record { chooses = chooser x y; behind = s } ∷ bs) xs s
      | false ↦ elim (eqb c 41) [ true ↦ choices_from y c (outer bs) (closing bs xs (c ∷ s)) s | false ↦ choices_from y c bs xs s ]
    ]

unfoldable pub choices_in : Bytes → List Bytes
choices_in s = choices_from 0 0 [] [] s
