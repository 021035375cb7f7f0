-- Document 02, N7: "Share becomes the nearest whole per cent, and an exact half takes the even neighbour. .. The contract compares whole
-- numbers only." Document 01, "Verdict": "share = 100 × breaking / full ..; 255 if idle". Assumes nothing.
use Rattle.std.specs.Prelude.{◌≡◌, Bool, ◌&&◌, ◌||◌, cond, ℕ, zero, suc, ◌+◌, ◌*◌, ◌-◌, ◌%◌, ◌<◌, ◌≤◌, eqb, ltb}

-- Twice the distance of s × full from 100 × breaking, on either side.
abbrev pub twice_apart : ℕ → ℕ → ℕ → ℕ
twice_apart full breaking s = 2 * ((s * full - 100 * breaking) + (100 * breaking - s * full))

-- s is that share.
pub record IsShare (full breaking s : ℕ) : Type 0 where
  pub idle : full ≡ 0 → s ≡ 255  -- "255 if idle"
  pub nearest : 0 < full → twice_apart full breaking s ≤ full  -- "the nearest whole per cent"
  pub even : 0 < full → twice_apart full breaking s ≡ full → s % 2 ≡ 0  -- "an exact half takes the even neighbour"

-- The last two as a test, of full choices, one at least,
unfoldable pub is_nearest : ℕ → ℕ → ℕ → Bool
is_nearest full breaking s = ltb (twice_apart full breaking s) full || (eqb (twice_apart full breaking s) full && eqb (s % 2) 0)

-- and the one of 0 to k that passes it: that up to 100 there is one, and no other, are laws (`ShareLaws.is_share`, `one-share`).
unfoldable pub nearest_to : ℕ → ℕ → ℕ → ℕ
nearest_to zero full breaking = 0
nearest_to (suc k) full breaking = cond (is_nearest full breaking (suc k)) (suc k) (nearest_to k full breaking)

unfoldable pub share_of : ℕ → ℕ → ℕ
share_of full breaking = cond (eqb full 0) 255 (nearest_to 100 full breaking)
