-- Document 01, "Turned back": what a call that writes answers, its number for the tracker, and the lent bytes after it.
-- Assumes nothing.
use Rattle.std.specs.Prelude.{List, ◌++◌, Bool, true, false, ℕ, ◌*◌, leb, length, drop}
use Rattle.std.proofs.Math.Option.{Option, none, some}
use Rattle.answers.specs.Refusal.{number_of}
use Rattle.answers.specs.declared.Refusal.{Refusal}
use Rattle.answers.specs.declared.Refusal.TheVariants.{ShortSheet}

-- A refusal, or the bytes to be written.
pub data Answer : Type 0 where
  refused : Refusal → Answer
  wrote : List ℕ → Answer

-- "An accepted input has number 0."
abbrev pub number_or_zero : Option Refusal → ℕ
number_or_zero none = 0
number_or_zero (some r) = number_of r

-- "A refusal gives its number, length 0"; "Success writes the first L bytes, returns L".
abbrev pub answer_number : Answer → ℕ
answer_number (refused r) = number_of r
answer_number (wrote b) = 0

abbrev pub answer_length : Answer → ℕ
answer_length (refused r) = 0
answer_length (wrote b) = length b

-- "short sheet: lent output shorter than L": what is answered where the lent output has n bytes.
abbrev pub if_room : Bool → List ℕ → Answer
if_room true b = wrote b
if_room false b = refused ShortSheet

unfoldable pub lent : ℕ → Answer → Answer
lent n (refused r) = refused r
lent n (wrote b) = if_room (leb (length b) n) b

-- "Calls from the tracker return one number: L, or 65,536 × the refusal number."
unfoldable pub reply : Answer → ℕ
reply (refused r) = 65536 * number_of r
reply (wrote b) = length b

-- "lent bytes keep their contents"; "Success writes the first L bytes, returns L, keeps the rest."
unfoldable pub output_after : Answer → List ℕ → List ℕ
output_after (refused r) old = old
output_after (wrote b) old = b ++ drop (length b) old
