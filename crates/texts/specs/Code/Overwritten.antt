-- Internal: what a function that writes a text over the beginning of its lent bytes leaves there.
-- Assumes nothing.
use Rattle.std.specs.Prelude.{◌≡◌, List, ◌++◌, ℕ, ◌+◌, ◌≤◌, length, drop}

-- w, and behind it the old bytes.
abbrev pub over : List ℕ → List ℕ → List ℕ
over w old = w ++ drop (length w) old

-- The n bytes w were written over the beginning of old, which gives new.
pub record Overwritten (w old new : List ℕ) (n : ℕ) : Type 0 where
  pub count : n ≡ length w
  pub bytes : new ≡ over w old
  pub fits : length w ≤ length old

-- Whatever the n bytes v in front were written over, w stands behind them now.
abbrev pub Behind : ℕ → List ℕ → List ℕ → List ℕ → Type 0
Behind n w mid new = (v old : List ℕ) → Overwritten v old mid n → Overwritten (v ++ w) old new (n + length w)

-- The bytes w were written behind the first n, up to the place r.
abbrev pub Added : ℕ → List ℕ → List ℕ → List ℕ → ℕ → Type 0
Added n w mid new r = (r ≡ n + length w) × Behind n w mid new
