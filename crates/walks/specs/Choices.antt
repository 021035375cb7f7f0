-- Document 01, "Verdict": choices, and how many of them are full. No order is spoken of here.
-- Assumes nothing.
use Rattle.std.specs.Prelude.{Bool, true, ◌&&◌, List, [], ◌∷◌, ℕ, zero, suc, ◌+◌, ◌*◌, get_or, set, replicate}
use Rattle.words.specs.Words.{gate, has}

-- A choice is a list of items by variable number (v1 at place 0), "255 where unused": here nothing is chosen yet.
abbrev pub nothing_chosen : List ℕ
nothing_chosen = replicate 8 255

-- "A choice gives each variable one item of its sort": the items of the variable v, as a word.
abbrev pub Items : Type 0
Items = ℕ → ℕ

-- What the sets of the variables are: whether the item x is in the set of the variable v under a choice.
abbrev pub Sets : Type 0
Sets = ℕ → List ℕ → ℕ → Bool

-- f 0 + f 1 + .. + f (k - 1)
unfoldable pub sum_to : ℕ → (ℕ → ℕ) → ℕ
sum_to zero f = 0
sum_to (suc k) f = sum_to k f + f k

-- f 0 * f 1 * .. * f (k - 1)
unfoldable pub product_to : ℕ → (ℕ → ℕ) → ℕ
product_to zero f = 1
product_to (suc k) f = product_to k f * f k

-- f added over the items of the word w.
unfoldable pub sum_over : ℕ → (ℕ → ℕ) → ℕ
sum_over w f = sum_to 64 (λ x. gate (has w x) (f x))

-- g added over all ways to give each variable of the list one of its items; c has the items of the others.
unfoldable pub total : Items → List ℕ → (List ℕ → ℕ) → List ℕ → ℕ
total items [] g c = g c
total items (v ∷ vs) g c = sum_over (items v) (λ x. total items vs g (set c v x))

-- The variables n - 1, .., 1, 0.
unfoldable pub variables : ℕ → List ℕ
variables zero = []
variables (suc n) = n ∷ variables n

-- "It is full when every variable lies in its set", each set read under the same choice.
unfoldable pub full_on : Sets → List ℕ → List ℕ → Bool
full_on s [] c = true
full_on s (v ∷ vs) c = s v c (get_or c v 0) && full_on s vs c

-- The full choices of n variables, the choice c counted g c times: "fullness knows no order".
unfoldable pub count_full : Items → Sets → (List ℕ → ℕ) → ℕ → List ℕ → ℕ
count_full items s g n base = total items (variables n) (λ c. gate (full_on s (variables n) c) (g c)) base

-- The weights of the two counts: "full", and "breaking (full choices that make the rule false)".
abbrev pub each : List ℕ → ℕ
each c = 1

abbrev pub if_breaks : (List ℕ → Bool) → List ℕ → ℕ
if_breaks b c = gate (b c) 1
