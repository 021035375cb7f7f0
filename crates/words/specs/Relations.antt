-- Relations between items, and where a set leads along one.
-- Assumes nothing.
use Rattle.std.specs.Prelude.{◌≡◌, Bool, ◌&&◌, ℕ}
use Rattle.words.specs.Words.{has, word_of, any_to, item_of, join_of}

abbrev pub Relation : Type 0
Relation = ℕ → ℕ → Bool

-- f holds of some item of w.
abbrev pub some_in : ℕ → (ℕ → Bool) → Bool
some_in w f = any_to 64 (λ i. has w i && f i)

-- The items that some item of w is related to.
unfoldable pub reach : Relation → ℕ → ℕ
reach R w = word_of 64 (λ x. some_in w (λ i. R i x))

-- The other way round; along the first and then along the second.
abbrev pub back : Relation → Relation
back R x i = R i x

abbrev pub composed : Relation → Relation → Relation
composed R Q i x = any_to 64 (λ j. R i j && Q j x)

-- Document 01, "Functions": "on a set, the union over its members". What f gives of w is what it gives of w's members one by one, and so of a union the union.
pub record Unites (f : ℕ → ℕ) : Type 0 where
  pub members : (w : ℕ) → f w ≡ reach (λ i x. has (f (item_of i)) x) w
  pub unions : (v w : ℕ) → f (join_of v w) ≡ join_of (f v) (f w)
