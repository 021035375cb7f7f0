-- A number as text: its decimal digits without leading zeros.
-- Assumes nothing.
use Rattle.std.specs.Prelude.{Bool, true, false, List, [], ◌∷◌, ◌++◌, ℕ, zero, suc, ◌+◌, ◌/◌, ◌%◌, ltb}

-- One digit, or those of n / 10 and then the last one.
abbrev pub last_digit : Bool → ℕ → List ℕ → List ℕ
last_digit true n w = (48 + n) ∷ []
last_digit false n w = w ++ ((48 + n % 10) ∷ [])

-- The digits of n, where at most k are needed.
unfoldable pub digits_to : ℕ → ℕ → List ℕ
digits_to zero n = []
digits_to (suc k) n = last_digit (ltb n 10) n (digits_to k (n / 10))

-- Twenty digits hold every number below 2 ^ 64.
abbrev pub decimal_of : ℕ → List ℕ
decimal_of n = digits_to 20 n
