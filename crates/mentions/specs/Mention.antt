-- Document 02, N9: which rules mention sessions.
-- Assumes nothing.
use Rattle.std.specs.Prelude.{Bool, false, ◌||◌, [], ◌∷◌}
use Rattle.syntax.specs.Bytes.{Bytes, ascii, begins}

-- The text p, which is not empty, stands somewhere in s.
unfoldable pub stands : Bytes → Bytes → Bool
stands p [] = false
stands p (x ∷ s) = begins p (x ∷ s) || stands p s

-- "For a rule that mentions neither S nor `sessions`": neither name stands in its text. (No other name has either in it.)
unfoldable pub mentions : Bytes → Bool
mentions rule = stands (ascii "S") rule || stands (ascii "sessions") rule
