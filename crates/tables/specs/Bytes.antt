-- Document 01, "Tables": bytes, words as bytes, and the marks of rows.
-- Assumes nothing.
use Rattle.std.specs.Prelude.{List, [], ◌∷◌, ℕ, zero, suc, ◌+◌, ◌*◌, ◌/◌, ◌%◌, ◌<◌, get_or}

abbrev pub Bytes : Type 0
Bytes = List ℕ

-- The numbers are bytes.
unfoldable pub AreBytes : Bytes → Type 0
AreBytes b = (i : ℕ) → get_or b i 0 < 256

-- "A word is 8 bytes, lowest byte first": the word of bytes, and the n lowest bytes of a word.
unfoldable pub word_from : Bytes → ℕ
word_from [] = 0
word_from (b ∷ s) = b + 256 * word_from s

unfoldable pub lowest_first : ℕ → ℕ → Bytes
lowest_first zero w = []
lowest_first (suc n) w = w % 256 ∷ lowest_first n (w / 256)

-- "a mark byte (1 entered, 0 never entered)"; document 02, N6: "Mark 2 in a user row means left."
abbrev pub entered : ℕ
entered = 1

abbrev pub left : ℕ
left = 2
