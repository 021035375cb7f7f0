-- A word that has a bit at or above n: what is left of it shifted by n.
-- Assumes nothing.
use mathlib.Core.Path.{◌≡◌, refl}
use mathlib.Core.Bool.{Bool, true, false}
use Prim.Native.Nat.{ℕ, ◌/◌, ◌^◌, ◌≤◌, ◌<◌}
use native.Mathlib.Omega.{arith}
use lib.Dec.{ltb, leb}
use native.Mathlib.Nat.{div-lt_iff_lt-mul, le-div_iff_mul-le}
use lib.Pow.{pow_pos}
use borrow.Author.Tests.{lt-ltb, le-ltb, leb-true, leb-false}

-- A word shifted by n is not 0 exactly where the word is 2 ^ n or more.
pub outside-shift : (w n : ℕ) → ltb 0 (w / 2 ^ n) ≡ leb (2 ^ n) w
outside-shift w n = go (leb (2 ^ n) w) refl
  where
    go : (b : Bool) → leb (2 ^ n) w ≡ b → ltb 0 (w / 2 ^ n) ≡ leb (2 ^ n) w
    go false e =
        let h = leb-false (2 ^ n) w e in
        let q : w / 2 ^ n < 1 = (div-lt_iff_lt-mul (pow_pos n)).1 (omega arith) in
        rw (e, le-ltb 0 (w / 2 ^ n) (omega arith))
    go true e =
        let h = leb-true (2 ^ n) w e in
        let q : 1 ≤ w / 2 ^ n = (le-div_iff_mul-le (pow_pos n)).1 (omega arith) in
        rw (e, lt-ltb 0 (w / 2 ^ n) (omega arith))
