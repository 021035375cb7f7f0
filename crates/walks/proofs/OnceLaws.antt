-- An order that lists each variable once is a rearrangement of the variables, and has no variable twice.
-- Assumes nothing.
use mathlib.Core.Path.{◌≡◌, refl, sym, ap, subst, ◌∙◌}
use mathlib.Core.List.{List, [], ◌∷◌}
use Prim.Native.Nat.{ℕ, zero, suc, ◌+◌, ◌<◌, ◌≤◌}
use native.Mathlib.Decide.{ℕ_discrete, dec_lt}
use native.Mathlib.Omega.{arith}
use lib.ListN.{length}
use lib.Dec.{eqb}
use borrow.Author.Tests.{eq-eqb, ne_eqb}
use Rattle.words.specs.Words.{gate}
use Rattle.walks.specs.Choices.{variables}
use Rattle.walks.specs.Order.{count}
use Rattle.walks.specs.Meaning.{Every, Once}
use Rattle.walks.proofs.PermLaws.{Perm, none, keep, swap, then}

pub hit_same : (u v : ℕ) → u ≡ v → gate (eqb u v) 1 ≡ 1
hit_same u v e = rw (eq-eqb u v e)

pub hit_other : (u v : ℕ) → (u ≡ v → ⊥) → gate (eqb u v) 1 ≡ 0
hit_other u v ne = rw (ne_eqb u v ne)

pub count-perm : (u : ℕ) {a b : List ℕ} → Perm a b → count u a ≡ count u b
unfolding count
count-perm u none = refl
count-perm u (keep v p) = omega (arith, count-perm u p)
count-perm u (swap v w a) = omega arith
count-perm u (then p q) = count-perm u p ∙ count-perm u q

pub perm-refl : (a : List ℕ) → Perm a a
perm-refl [] = none
perm-refl (v ∷ a) = keep v (perm-refl a)

pub perm-sym : {a b : List ℕ} → Perm a b → Perm b a
perm-sym none = none
perm-sym (keep v p) = keep v (perm-sym p)
perm-sym (swap v w a) = swap w v a
perm-sym (then p q) = then (perm-sym q) (perm-sym p)

-- a member can be brought to the front
front-step : (u v : ℕ) (a : List ℕ) → Dec (u ≡ v) → 0 < count u (v ∷ a) → (0 < count u a → (b : List ℕ) × Perm a (u ∷ b)) → (b : List ℕ) × Perm (v ∷ a) (u ∷ b)
unfolding count
front-step u v a (yes e) h ih = (a, subst (λ (w : ℕ). Perm (v ∷ a) (w ∷ a)) (sym e) (perm-refl (v ∷ a)))
front-step u v a (no ne) h ih =
    let r = ih (omega (arith, hit_other u v ne)) in
    (v ∷ r.0, then (keep v r.1) (swap v u r.0))

front : (u : ℕ) (a : List ℕ) → 0 < count u a → (b : List ℕ) × Perm a (u ∷ b)
unfolding count
front u [] h = absurd (omega arith)
front u (v ∷ a) h = front-step u v a (ℕ_discrete u v) h (front u a)

-- lists with equal counts are rearrangements of each other
pub same : (b a : List ℕ) → ((u : ℕ) → count u a ≡ count u b) → Perm a b
unfolding count
same [] [] h = none
same [] (v ∷ a) h = absurd (omega (arith, h v, hit_same v v refl))
same (v ∷ b) a h =
    let r = front v a (omega (arith, h v, hit_same v v refl)) in
    then r.1 (keep v (same b r.0 (λ u. omega (arith, h u, count-perm u r.1))))

pub count-variables : (n u : ℕ) → (u < n → count u (variables n) ≡ 1) × (n ≤ u → count u (variables n) ≡ 0)
unfolding count variables
count-variables zero u = (λ h. absurd (omega arith), λ h. refl)
count-variables (suc n) u = (low (ℕ_discrete u n) (count-variables n u), λ h. omega (arith, hit_other u n (omega arith), (count-variables n u).1 (omega arith)))
  where
    low : Dec (u ≡ n) → (u < n → count u (variables n) ≡ 1) × (n ≤ u → count u (variables n) ≡ 0) → u < suc n → gate (eqb u n) 1 + count u (variables n) ≡ 1
    low (yes e) ih h = omega (arith, hit_same u n e, ih.1 (omega arith))
    low (no ne) ih h = omega (arith, hit_other u n ne, ih.0 (omega arith))

pub once-count : (n : ℕ) (vs : List ℕ) → Once n vs → (u : ℕ) → count u vs ≡ count u (variables n)
once-count n vs o u = go (dec_lt u n)
  where
    go : Dec (u < n) → count u vs ≡ count u (variables n)
    go (yes h) = (o u).0 h ∙ sym ((count-variables n u).0 h)
    go (no h) = (o u).1 (omega arith) ∙ sym ((count-variables n u).1 (omega arith))

pub once-perm : (n : ℕ) (vs : List ℕ) → Once n vs → Perm vs (variables n)
once-perm n vs o = same (variables n) vs (once-count n vs o)

-- no variable twice
abbrev pub Distinct : List ℕ → Type 0
Distinct [] = Unit {0}
Distinct (v ∷ vs) = Every (λ w. w ≡ v → ⊥) vs × Distinct vs

-- what does not stand in a list differs from each member
pub absent : (u : ℕ) (vs : List ℕ) → count u vs ≡ 0 → Every (λ w. w ≡ u → ⊥) vs
unfolding count
absent u [] h = tt
absent u (v ∷ vs) h = (λ e. omega (arith, hit_same u v (sym e)), absent u vs (omega arith))

pub absent-back : (u : ℕ) (vs : List ℕ) → Every (λ w. w ≡ u → ⊥) vs → count u vs ≡ 0
unfolding count
absent-back u [] h = refl
absent-back u (v ∷ vs) h = omega (arith, hit_other u v (λ e. h.0 (sym e)), absent-back u vs h.1)

distinct : (vs : List ℕ) → ((u : ℕ) → count u vs ≤ 1) → Distinct vs
unfolding count
distinct [] h = tt
distinct (v ∷ vs) h = (absent v vs (omega (arith, h v, hit_same v v refl)), distinct vs (λ u. omega (arith, h u)))

pub once-distinct : (n : ℕ) (vs : List ℕ) → Once n vs → Distinct vs
once-distinct n vs o = distinct vs (λ u. go u (dec_lt u n))
  where
    go : (u : ℕ) → Dec (u < n) → count u vs ≤ 1
    go u (yes h) = omega (arith, (o u).0 h)
    go u (no h) = omega (arith, (o u).1 (omega arith))

-- each variable of an order is below n
pub below : (n : ℕ) (vs : List ℕ) → ((u : ℕ) → n ≤ u → count u vs ≡ 0) → Every (λ w. w < n) vs
unfolding count
below n [] h = tt
below n (v ∷ vs) h = (go (dec_lt v n), below n vs (λ u g. omega (arith, h u g)))
  where
    go : Dec (v < n) → v < n
    go (yes g) = g
    go (no g) = absurd (omega (arith, h v (omega arith), hit_same v v refl))

length-perm : {a b : List ℕ} → Perm a b → length a ≡ length b
length-perm none = refl
length-perm (keep v p) = ap suc (length-perm p)
length-perm (swap v w a) = refl
length-perm (then p q) = length-perm p ∙ length-perm q

length-variables : (n : ℕ) → length (variables n) ≡ n
unfolding variables
length-variables zero = refl
length-variables (suc n) = ap suc (length-variables n)

-- an order of n variables has n entries
pub once-length : (n : ℕ) (vs : List ℕ) → Once n vs → length vs ≡ n
once-length n vs o = length-perm (once-perm n vs o) ∙ length-variables n
