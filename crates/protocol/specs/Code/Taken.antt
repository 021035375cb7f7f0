-- Internal: what the readers of a field answer.
-- Assumes nothing.
use Rattle.std.specs.Prelude.{Option as Maybe, Some, None, ◌≡◌, List, ℕ, ◌<◌, ◌≤◌}
use Rattle.std.proofs.Math.Option.{Option, none, some}
use Rattle.texts.specs.Code.Overwritten.{Overwritten}

-- The bytes b, if any, were written over the beginning of old.
pub data Bytes (b : Option (List ℕ)) (old new : List ℕ) : Maybe ℕ → Type 0 where
  no_bytes : b ≡ none → Bytes b old new None
  some_bytes : {w : List ℕ} {n : ℕ} → b ≡ some w → Overwritten w old new n → Bytes b old new (Some n)

-- A digit stands for v, which is 16 where it is none.
abbrev pub Digit : ℕ → Maybe ℕ → Type 0
Digit v None = 16 ≤ v
Digit v (Some d) = (d ≡ v) × (v < 16)

abbrev pub took : Option ℕ → Maybe ℕ
took none = None
took (some n) = Some n

-- A number that was taken is at most so much.
abbrev pub AtMost : ℕ → Maybe ℕ → Type 0
AtMost most None = Unit {0}
AtMost most (Some n) = n ≤ most
