-- Laws of texts: taking apart a reading that gave something, and reading a fixed text that was written.
-- Assumes nothing.
use mathlib.Core.Path.{◌≡◌, refl}
use mathlib.Core.List.{List, [], ◌∷◌, ◌++◌}
use mathlib.Core.Bool.{Bool, true, false, and-eq-true_iff}
use Prim.Native.Nat.{ℕ}
use native.Mathlib.Omega.{arith}
use borrow.Author.Tests.{eqb-true, eq-eqb}
use lib.Dec.{eqb}
use Rattle.syntax.specs.Bytes.{Bytes, Read, fail, got, Reader, next, only_if, skip, branch, either, scan, same}

-- The laws: taking a reading that gave something apart.

pub never : {A C : Type 0} {a : A} {s : Bytes} → fail ≡ got a s → C
never e = let z : ◌≡◌ {A = ℕ} 0 1 = cc in absurd (omega arith)

pub next-case : {A B C : Type 0} {b : B} {r : Bytes} (m : Read A) (f : A → Reader B) → next m f ≡ got b r → ((a : A) (s : Bytes) → m ≡ got a s → f a s ≡ got b r → C) → C
unfolding next
next-case fail f e k = never e
next-case (got a s) f e k = k a s refl e

pub skip-gives : (p s : Bytes) {u : Unit {0}} {r : Bytes} → skip p s ≡ got u r → s ≡ p ++ r
unfolding skip
skip-gives [] s e = cc
skip-gives (x ∷ p) [] e = never e
skip-gives (x ∷ p) (y ∷ s) {u} {r} e = go (λ h. skip-gives p s h) (eqb x y) refl e
  where
    go : (skip p s ≡ got u r → s ≡ p ++ r) → (t : Bool) → eqb x y ≡ t → only_if t (skip p) s ≡ got u r → y ∷ s ≡ x ∷ p ++ r
    go ih true q e = cc (eqb-true x y q, ih e)
    go ih false q e = never e

pub either-case : {A C : Type 0} {a : A} {r : Bytes} (p : Bytes) (m n : Reader A) (s : Bytes) → either p m n s ≡ got a r → ((w : Bytes) → s ≡ p ++ w → m w ≡ got a r → C) → (n s ≡ got a r → C) → C
unfolding either
either-case {A} {C} {a} {r} p m n s e k l = go (skip p s) refl e
  where
    go : (o : Read (Unit {0})) → skip p s ≡ o → branch o m n s ≡ got a r → C
    go fail q e = l e
    go (got u w) q e = k w (skip-gives p s q) e

pub scan-gives : {A : Type 0} (sp : A → Bytes) (xs : List A) (s : Bytes) {x : A} {r : Bytes} → scan sp xs s ≡ got x r → s ≡ sp x ++ r
unfolding scan
scan-gives sp [] s e = never e
scan-gives sp (y ∷ ys) s e = either-case (sp y) (λ w. got y w) (scan sp ys) s e (λ w p q. cc) (λ q. scan-gives sp ys s q)

-- A fixed text that was written is read.

pub skip-own : (p s : Bytes) → skip p (p ++ s) ≡ got tt s
unfolding skip
skip-own [] s = refl
skip-own (x ∷ p) s = rw (eq-eqb x x refl) (skip-own p s)

pub either-own : {A : Type 0} (p : Bytes) (m n : Reader A) (s : Bytes) → either p m n (p ++ s) ≡ m s
unfolding either
either-own p m n s = rw (skip-own p s)

pub either-on : {A : Type 0} (p : Bytes) (m n : Reader A) (s : Bytes) → skip p s ≡ fail → either p m n s ≡ n s
unfolding either
either-on p m n s e = rw e

-- Two ways to go on that agree on what was read.
pub next_agree : {A B : Type 0} (m : Read A) (f g : A → Reader B) → ((a : A) (s : Bytes) → m ≡ got a s → f a s ≡ g a s) → next m f ≡ next m g
unfolding next
next_agree fail f g h = refl
next_agree (got a s) f g h = h a s refl

-- Reading on twice.
pub next-next : {A B C : Type 0} (m : Read A) (f : A → Reader B) (g : B → Reader C) → next (next m f) g ≡ next m (λ a s. next (f a s) g)
unfolding next
next-next fail f g = refl
next-next (got a s) f g = refl

pub same-own : (s : Bytes) → same s s ≡ true
unfolding same
same-own [] = refl
same-own (x ∷ s) = rw (eq-eqb x x refl) (same-own s)

pub same_gives : (s t : Bytes) → same s t ≡ true → s ≡ t
unfolding same
same_gives [] [] e = refl
same_gives [] (y ∷ t) e = cc
same_gives (x ∷ s) [] e = cc
same_gives (x ∷ s) (y ∷ t) e =
    let w : (eqb x y ≡ true) × (same s t ≡ true) = (and-eq-true_iff (eqb x y) (same s t)).0 e in
    cc (eqb-true x y w.0, same_gives s t w.1)

pub not_same : (s t : Bytes) → (s ≡ t → ⊥) → same s t ≡ false
not_same s t h = go (same s t) refl
  where
    go : (b : Bool) → same s t ≡ b → same s t ≡ false
    go false e = e
    go true e = absurd (h (same_gives s t e))
