-- Laws of a section that is written over the words.
-- Assumes nothing.
use mathlib.Core.Path.{◌≡◌, refl, ap, ◌∙◌}
use mathlib.Core.List.{List, [], ◌∷◌, ◌++◌}
use Prim.Native.Nat.{ℕ, zero, suc, ◌+◌, ◌≤◌}
use native.Mathlib.Omega.{arith}
use lib.ListN.{length, set, drop}
use borrow.Rule.Slice.PartMut.{put_mid}
use Rattle.tables.specs.Code.Reads.{put}

put-cons : (w : ℕ) (ws : List ℕ) (k : ℕ) (xs : List ℕ) → w ∷ put ws k xs ≡ put (w ∷ ws) (suc k) xs
unfolding put
put-cons w ws k [] = refl
put-cons w ws k (x ∷ xs) = put-cons w (set ws k x) (suc k) xs

put-front : (ws xs : List ℕ) → length xs ≤ length ws → xs ++ drop (length xs) ws ≡ put ws 0 xs
unfolding put
put-front ws [] l = refl
put-front [] (x ∷ xs) l = absurd (omega arith)
put-front (w ∷ ws) (x ∷ xs) l = ap (λ (v : List ℕ). x ∷ v) (put-front ws xs (omega arith)) ∙ put-cons x ws 0 xs

pub put-over : (ws : List ℕ) (at : ℕ) (xs : List ℕ) → at + length xs ≤ length ws → put_mid at (length xs) ws xs ≡ put ws at xs
put-over ws zero xs l = put-front ws xs (omega arith)
put-over [] (suc k) xs l = absurd (omega arith)
put-over (w ∷ ws) (suc k) xs l = ap (λ (v : List ℕ). w ∷ v) (put-over ws k xs (omega arith)) ∙ put-cons w ws k xs
