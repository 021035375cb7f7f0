-- The running bracket surplus as a whole number, which may fall below zero.
-- Internal: contracts of entry points do not speak of it. Assumes nothing.
use Rattle.std.specs.Prelude.{◌≡◌, cond, List, ℕ, ◌+◌, ◌≤◌, eqb, ℤ, pos, ◌+ℤ◌, ◌-ℤ◌, drop}
use Rattle.std.proofs.Math.IntN.{sub_ℕ}
use Rattle.rules.specs.Accept.{depth_limit, deep}

-- No text that is checked has more bytes: "No formula passes 4,096 bytes."
abbrev pub text_room : ℕ
text_room = 4096

-- The surplus after one byte more.
unfoldable pub stepped : ℕ → ℤ → ℤ
stepped b z = cond (eqb b 40) (z +ℤ pos 1) (cond (eqb b 41) (z -ℤ pos 1) z)

-- z is the surplus after i bytes of s, which passed the limit nowhere so far.
pub record Read (s : List ℕ) (i : ℕ) (z : ℤ) : Type 0 where
  pub opened : ℕ
  pub closed : ℕ
  pub is : z ≡ sub_ℕ opened closed
  pub few : opened + closed ≤ i
  pub low : opened ≤ closed + depth_limit
  pub same : deep opened closed (drop i s) ≡ deep 0 0 s
