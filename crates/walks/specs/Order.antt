-- Document 01, "Verdict": "An order lists the variable numbers, one byte each, once each, every variable after those its set names."
-- Assumes nothing.
use Rattle.std.specs.Prelude.{Bool, true, not, ◌&&◌, List, [], ◌∷◌, ℕ, zero, suc, ◌+◌, eqb, ltb, get_or}
use Rattle.words.specs.Words.{gate, has}

-- The variable that a byte of an order numbers: v1 is the variable 0, and no byte 0 numbers a variable.
abbrev pub variable_of : ℕ → ℕ
variable_of zero = 255
variable_of (suc v) = v

unfoldable pub variables_of : List ℕ → List ℕ
variables_of [] = []
variables_of (b ∷ bs) = variable_of b ∷ variables_of bs

-- Each is below n.
unfoldable pub is_small : ℕ → List ℕ → Bool
is_small n [] = true
is_small n (v ∷ vs) = ltb v n && is_small n vs

-- How often u stands in the list.
unfoldable pub count : ℕ → List ℕ → ℕ
count u [] = 0
count u (v ∷ vs) = gate (eqb u v) 1 + count u vs

-- Each number below k stands there once.
unfoldable pub is_once : ℕ → List ℕ → Bool
is_once zero vs = true
is_once (suc k) vs = is_once k vs && eqb (count k vs) 1

-- The set of v names none of the list.
unfoldable pub is_free : (ℕ → ℕ → Bool) → ℕ → List ℕ → Bool
is_free names v [] = true
is_free names v (w ∷ ws) = not (names v w) && is_free names v ws

-- No set names its own variable or one that comes later.
unfoldable pub is_after : (ℕ → ℕ → Bool) → List ℕ → Bool
is_after names [] = true
is_after names (v ∷ vs) = is_free names v (v ∷ vs) && is_after names vs

-- An order of n variables, where `names v u` says that the set of v names u.
unfoldable pub is_order : (ℕ → ℕ → Bool) → ℕ → List ℕ → Bool
is_order names n vs = is_small n vs && (is_once n vs && is_after names vs)

-- What words say: the set of v names u where u is in the word of v.
abbrev pub named_by : List ℕ → ℕ → ℕ → Bool
named_by words v u = has (get_or words v 0) u

-- k, k + 1, .., n of them. "The order is 1, 2, ..": `up_from 1 n` for n variables.
unfoldable pub up_from : ℕ → ℕ → List ℕ
up_from k zero = []
up_from k (suc n) = k ∷ up_from (suc k) n
