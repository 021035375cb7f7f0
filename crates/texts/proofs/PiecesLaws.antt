-- Laws of `split`: a text has its bytes up to the first separator, and then the pieces of the rest; without a separator it is one piece.
-- Assumes nothing.
use mathlib.Core.Path.{◌≡◌, refl, ap}
use mathlib.Core.Bool.{Bool, true, false, not, ◌&&◌}
use mathlib.Core.List.{List, [], ◌∷◌, ◌++◌}
use Prim.Native.Nat.{ℕ, suc, ◌≤◌, ◌<◌}
use native.Mathlib.Omega.{arith}
use borrow.Author.Tests.{eq-eqb}
use lib.Dec.{eqb}
use lib.ListN.{length, take, drop}
use Rattle.texts.specs.Scan.{index_of, index_after}
use Rattle.texts.specs.Pieces.{split, cut, on_first}

module _ (c : ℕ) (final : List (List ℕ)) where
  pub split-first : (s : List ℕ) → index_of c s < length s → split c final s ≡ take (index_of c s) s ∷ split c final (drop (suc (index_of c s)) s)
  unfolding split index_of index_after
  split-first [] h = absurd (omega arith)
  split-first (x ∷ s) h = go (eqb x c) (λ k. split-first s k) h
    where
      go : (b : Bool) → (index_of c s < length s → split c final s ≡ take (index_of c s) s ∷ split c final (drop (suc (index_of c s)) s)) → index_after b (index_of c s) < suc (length s) → cut b x (split c final s) ≡ take (index_after b (index_of c s)) (x ∷ s) ∷ split c final (drop (suc (index_after b (index_of c s))) (x ∷ s))
      go true f h = refl
      go false f h = ap (on_first x) (f (omega arith))

  -- Without a separator there is one piece at most.
  pub split-few : (s : List ℕ) → length final ≤ 1 → length s ≤ index_of c s → length (split c final s) ≤ 1
  unfolding split index_of index_after
  split-few [] f h = f
  split-few (x ∷ s) f h = go (eqb x c) (split c final s) (λ k. split-few s f k) h
    where
      go : (b : Bool) (ws : List (List ℕ)) → (length s ≤ index_of c s → length ws ≤ 1) → suc (length s) ≤ index_after b (index_of c s) → length (cut b x ws) ≤ 1
      go true ws g h = absurd (omega arith)
      go false [] g h = omega arith
      go false (w ∷ ws) g h = omega (arith, g (omega arith))

-- A text of bytes other than the separator is itself the one piece.
pub split_one : (c : ℕ) (final : List (List ℕ)) (s : List ℕ) → ((x : ℕ) → on_first x final ≡ (x ∷ []) ∷ []) → 0 < length s → length s ≤ index_of c s → split c final s ≡ s ∷ []
unfolding split index_of index_after
split_one c final [] o p h = absurd (omega arith)
split_one c final (x ∷ []) o p h = go (eqb x c) h
  where
    go : (b : Bool) → 1 ≤ index_after b 0 → cut b x final ≡ (x ∷ []) ∷ []
    go true h = absurd (omega arith)
    go false h = o x
split_one c final (x ∷ y ∷ s) o p h = go (eqb x c) (λ k. split_one c final (y ∷ s) o (omega arith) k) h
  where
    go : (b : Bool) → (length (y ∷ s) ≤ index_of c (y ∷ s) → split c final (y ∷ s) ≡ (y ∷ s) ∷ []) → suc (length (y ∷ s)) ≤ index_after b (index_of c (y ∷ s)) → cut b x (split c final (y ∷ s)) ≡ (x ∷ y ∷ s) ∷ []
    go true f h = absurd (omega arith)
    go false f h = ap (on_first x) (f (omega arith))

-- The separator c does not stand in s.
unfoldable pub free : ℕ → List ℕ → Bool
free c [] = true
free c (x ∷ s) = not (eqb x c) && free c s

module _ (c : ℕ) where
  pub free-append : (a b : List ℕ) → free c a ≡ true → free c b ≡ true → free c (a ++ b) ≡ true
  unfolding free
  free-append [] b h k = k
  free-append (x ∷ a) b h k = go (eqb x c) h (λ i. free-append a b i k)
    where
      go : (y : Bool) → (not y && free c a) ≡ true → (free c a ≡ true → free c (a ++ b) ≡ true) → (not y && free c (a ++ b)) ≡ true
      go true h f = h
      go false h f = f h

  -- A piece without the separator, the separator, and the other pieces.
  pub split-free : (final : List (List ℕ)) (a s : List ℕ) → free c a ≡ true → split c final (a ++ c ∷ s) ≡ a ∷ split c final s
  unfolding free split
  split-free final [] s h = rw (eq-eqb c c refl)
  split-free final (x ∷ a) s h = go (eqb x c) h (λ i. split-free final a s i)
    where
      go : (y : Bool) → (not y && free c a) ≡ true → (free c a ≡ true → split c final (a ++ c ∷ s) ≡ a ∷ split c final s) → cut y x (split c final (a ++ c ∷ s)) ≡ (x ∷ a) ∷ split c final s
      go true h f = cc
      go false h f = ap (on_first x) (f h)
