-- The levels of nodes, and how long what a cache has of them stays right.
-- Assumes nothing.
use mathlib.Core.Path.{◌≡◌, sym, ap, ◌∙◌}
use mathlib.Core.Bool.{Bool, true}
use mathlib.Core.Logic.{⊎_elim}
use Prim.Native.Nat.{ℕ, ◌+◌, ◌-◌, ◌<◌, ◌≤◌}
use native.Mathlib.Nat.{eq-or-lt_of_le}
use native.Mathlib.Omega.{arith}
use lib.ListN.{length, get_or}
use Rattle.std.proofs.Common.{Iter, List, [], ◌∷◌, reverse}
use Rattle.std.proofs.lemmas.List.{length-reverse, reverse-append}
use Rattle.std.proofs.lemmas.Iterator.{YieldsList}
use Rattle.std.proofs.lemmas.Iterator.Consumers.{YieldsList-from_shown}
use Rattle.std.specs.Slice.Iter.{iter_rest, iter_steps_back}
use Rattle.values.specs.Sets.{names_in}
use Rattle.values.specs.Code.Levels.{Level, Levels}
use Rattle.values.specs.Code.Cache.{Stored}
use Rattle.values.proofs.ReadsLaws.{value-reads}

-- What a slice gives from its end.
pub from-the-back : {s : Iter ℕ} (order : List ℕ) → iter_rest s ≡ order → YieldsList iter_steps_back (λ y. y.now) s (reverse order)
from-the-back {s} order e = rw (← e) (YieldsList-from_shown iter_steps_back (λ y. y.now) (λ u. reverse (iter_rest u)) (λ u t p. length-reverse _ ∙ p.0)
    (λ u x t p. ap reverse p ∙ reverse-append (iter_rest t) (x.now ∷ [])) s)

-- What names no more has no higher level.
pub level-below : (order : List ℕ) (p q : ℕ → Bool) (r s : ℕ) → Level order p r → Level order q s → ((u : ℕ) → p u ≡ true → q u ≡ true) → r ≤ s
level-below order p q r s l m h =
    ⊎_elim
    (λ (z : 0 ≡ r). omega arith)
    (λ (z : 0 < r). let b = m.above (r - 1) (omega (arith, l.within)) (h (get_or order (r - 1) 0) (l.met z)) in omega arith)
    (eq-or-lt_of_le (least r))
  where
    least : (i : ℕ) → 0 ≤ i
    least i = omega arith

-- What is chosen for the variable after the first l of the order leaves the values of the levels up to l.
pub stored_other : {ts ns : List ℕ} {n : ℕ} {ks vs c cache levels : List ℕ} (order : List ℕ) (l v : ℕ) (d : List ℕ) → l < length order → get_or order l 0 ≡ v
    → Levels ns n vs order levels → ((u : ℕ) → (u ≡ v → ⊥) → get_or c u 0 ≡ get_or d u 0) → Stored ts ns n ks vs c cache levels (l + 1)
    → Stored ts ns n ks vs d cache levels (l + 1)
stored_other {c = c} order l v d m is lev agree F = record {
  long = F.long;
  holds = λ k h low T σ w a y.
      F.holds k h low T σ w a y
      ∙ value-reads T σ c d a
      (λ u e. agree u (λ same. let z = (lev.each k h σ w.variables a y).above l m (ap (names_in σ a) (is ∙ sym same) ∙ e) in absurd (omega (arith, z, low))));
}
