-- Lists that hold the same numbers as often: what does not change with the order.
-- Assumes nothing.
use mathlib.Core.Path.{◌≡◌, refl, ap, ◌∙◌}
use mathlib.Core.Bool.{Bool, true, false, ◌&&◌}
use mathlib.Core.List.{List, [], ◌∷◌}
use Prim.Native.Nat.{ℕ}
use native.Mathlib.Decide.{ℕ_discrete}
use lib.Seq.{set_comm}
use lib.ListN.{set, get_or}
use Rattle.walks.specs.Choices.{Sets, full_on}
use Rattle.walks.specs.Code.Among.{total_among}
use Rattle.walks.proofs.SumLaws.{sum-ext, sum-swap}

pub data Perm : List ℕ → List ℕ → Type 0 where
  none : Perm [] []
  keep : (v : ℕ) {a b : List ℕ} → Perm a b → Perm (v ∷ a) (v ∷ b)
  swap : (v w : ℕ) (a : List ℕ) → Perm (v ∷ w ∷ a) (w ∷ v ∷ a)
  then : {a b d : List ℕ} → Perm a b → Perm b d → Perm a d

module _ (m : ℕ) (g : List ℕ → ℕ) where
  total-swap : (v w : ℕ) (a : List ℕ) (c : List ℕ) → Dec (v ≡ w) → total_among m (v ∷ w ∷ a) g c ≡ total_among m (w ∷ v ∷ a) g c
  unfolding total_among
  total-swap v w a c (yes e) = rw e
  total-swap v w a c (no ne) =
      sum-swap m m (λ x y. total_among m a g (set (set c v x) w y))
      ∙ sum-ext m _ _ (λ y. sum-ext m _ _ (λ x. ap (total_among m a g) (set_comm c v w x y ne)))

  pub total-perm : {a b : List ℕ} → Perm a b → (c : List ℕ) → total_among m a g c ≡ total_among m b g c
  unfolding total_among
  total-perm none c = refl
  total-perm (keep v p) c = sum-ext m _ _ (λ x. total-perm p (set c v x))
  total-perm (swap v w a) c = total-swap v w a c (ℕ_discrete v w)
  total-perm (then p q) c = total-perm p c ∙ total-perm q c

and-left-comm : (a b c : Bool) → (a && (b && c)) ≡ (b && (a && c))
and-left-comm true b c = refl
and-left-comm false true c = refl
and-left-comm false false c = refl

pub full-perm : (s : Sets) {a b : List ℕ} → Perm a b → (c : List ℕ) → full_on s a c ≡ full_on s b c
unfolding full_on
full-perm s none c = refl
full-perm s (keep v p) c = ap (λ (t : Bool). s v c (get_or c v 0) && t) (full-perm s p c)
full-perm s (swap v w a) c = and-left-comm (s v c (get_or c v 0)) (s w c (get_or c w 0)) (full_on s a c)
full-perm s (then p q) c = full-perm s p c ∙ full-perm s q c
