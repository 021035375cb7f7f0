-- Document 01, "Formula": "Xi is the set of vi; it names the variables written in it", on the bytes of the set as the formula has it.
-- `NamingLaws.names-written` says that these are the variables that the tree names. Assumes nothing.
use Rattle.std.specs.Prelude.{[], ◌∷◌, ◌++◌, Bool, false, ◌||◌, ℕ, ◌+◌}
use Rattle.syntax.specs.Bytes.{Bytes, ascii, begins}

-- Whether the variable of index u, `v` and its digit, stands somewhere in s.
unfoldable pub writes : ℕ → Bytes → Bool
writes u [] = false
writes u (c ∷ s) = begins (ascii "v" ++ ((49 + u) ∷ [])) (c ∷ s) || writes u s
