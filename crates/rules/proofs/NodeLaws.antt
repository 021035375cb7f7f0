-- The parts of a node: its operation and the indexes of what stands below it.
-- Assumes nothing.
use mathlib.Core.Path.{◌≡◌, refl}
use mathlib.Core.List.{List, [], ◌∷◌}
use Prim.Native.Nat.{ℕ, zero, suc, ◌+◌, ◌<◌, ◌≤◌}
use lib.Dec.{ltb}
use lib.ListN.{length, get_or, set}
use lib.Seq.{get_or-set_same, get_or-set_other}
use borrow.Author.Tests.{ltb-true, ltb-false}
use mathlib.Core.Bool.{Bool, true, false}
use mathlib.Core.Logic.{◌⊎◌, inl, inr, ⊎_elim}
use native.Mathlib.Nat.{le_of_suc-le-suc, not-suc-le-zero, eq-or-lt_of_le}
use native.Mathlib.Omega.{arith}
use Rattle.syntax.specs.Code.Arena.{has_two, Down, Tidy}
use Rattle.syntax.specs.Code.Nodes.{first_call, op_at, left_at, right_at}

-- What stands within a list does not hang on what is taken past its end.
pub get_d_any : (l : List ℕ) (i d e : ℕ) → i < length l → get_or l i d ≡ get_or l i e
get_d_any [] i d e h = absurd (not-suc-le-zero h)
get_d_any (x ∷ l) zero d e h = refl
get_d_any (x ∷ l) (suc i) d e h = get_d_any l i d e (le_of_suc-le-suc h)

pub lt-or-le : (a b : ℕ) → (a < b) ⊎ (b ≤ a)
lt-or-le a b = go (ltb a b) refl
  where
    go : (t : Bool) → ltb a b ≡ t → (a < b) ⊎ (b ≤ a)
    go true e = inl (ltb-true a b e)
    go false e = inr (ltb-false a b e)

-- What a node has below it stands before it.
module _ {ns : List ℕ} {n k : ℕ} (tidy : Tidy ns n) (h : k < n) {o : ℕ} (op : o ≡ op_at ns k) where
  pub left_below : {i : ℕ} → i ≡ left_at ns k → first_call ≤ o → i < k
  unfolding Down
  left_below e l = rw e ((tidy.down k h).left (rw op at l))

  pub right-below : {j : ℕ} → j ≡ right_at ns k → has_two o ≡ true → j < k
  unfolding Down
  right-below e t = rw e ((tidy.down k h).right (rw op at t))

-- What holds of the first k places of a list holds of one more, once that is set.
pub more-at : (P : ℕ → ℕ → Type 0) (l : List ℕ) (k r d : ℕ) → k < length l → ((j : ℕ) → j < k → P j (get_or l j d)) → P k r
    → (j : ℕ) → j < k + 1 → P j (get_or (set l k r) j d)
more-at P l k r d h below here j m =
    ⊎_elim
    (λ (q : j ≡ k). rw (q, get_or-set_same l k r d h) here)
    (λ (q : j < k). rw (get_or-set_other l k j r d (omega arith)) (below j q))
    (eq-or-lt_of_le (at_most m))
  where
    at_most : j < k + 1 → j ≤ k
    at_most q = omega arith
