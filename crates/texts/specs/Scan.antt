-- Where a byte stands in a text.
-- Assumes nothing.
use Rattle.std.specs.Prelude.{Bool, true, false, List, [], ◌∷◌, ℕ, suc, eqb, take, drop}

-- The bytes of s from place a to before place b.
unfoldable pub slice : ℕ → ℕ → List ℕ → List ℕ
slice a b s = drop a (take b s)

abbrev pub index_after : Bool → ℕ → ℕ
index_after true n = 0
index_after false n = suc n

-- How many bytes stand before the first c; all where there is none.
unfoldable pub index_of : ℕ → List ℕ → ℕ
index_of c [] = 0
index_of c (x ∷ s) = index_after (eqb x c) (index_of c s)
