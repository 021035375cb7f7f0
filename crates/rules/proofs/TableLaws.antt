-- A rule over a table, or over all small numbers, proved at every entry by one test that is computed.
-- Assumes nothing.
use mathlib.Core.Path.{◌≡◌, refl, subst, sym, ◌∙◌}
use mathlib.Core.Bool.{Bool, true, false, not, ◌&&◌, cond}
use mathlib.Core.List.{List, [], ◌∷◌}
use Prim.Native.Nat.{ℕ, zero, suc, ◌+◌, ◌<◌}
use native.Mathlib.Nat.{add-zero, zero-add, add-suc, suc-add, le_of_suc-le-suc, not-suc-le-zero, eq-or-lt_of_le}
use mathlib.Core.Logic.{⊎_elim}
use lib.Dec.{T}
use lib.ListN.{length, get_or}

pub left-of-and : (a b : Bool) → T (a && b) → T a
left-of-and true b t = tt
left-of-and false b t = t

pub right-of-and : (a b : Bool) → T (a && b) → T b
right-of-and true b t = t
right-of-and false b t = absurd t

-- The test f passes at each entry of a list and its place, counted from i.
abbrev pub every : (ℕ → ℕ → Bool) → ℕ → List ℕ → Bool
every f i [] = true
every f i (x ∷ xs) = f i x && every f (suc i) xs

from : (f : ℕ → ℕ → Bool) (xs : List ℕ) (i : ℕ) → T (every f i xs) → (k : ℕ) → k < length xs → T (f (i + k) (get_or xs k 0))
from f [] i t k h = absurd (not-suc-le-zero h)
from f (x ∷ xs) i t zero h = subst (λ (m : ℕ). T (f m x)) (sym (add-zero i)) (left-of-and (f i x) (every f (suc i) xs) t)
from f (x ∷ xs) i t (suc k) h =
    subst (λ (m : ℕ). T (f m (get_or xs k 0))) (suc-add i k ∙ sym (add-suc i k))
    (from f xs (suc i) (right-of-and (f i x) (every f (suc i) xs) t) k (le_of_suc-le-suc h))

pub entry : (f : ℕ → ℕ → Bool) (xs : List ℕ) → T (every f 0 xs) → (k : ℕ) → k < length xs → T (f k (get_or xs k 0))
entry f xs t k h = subst (λ (m : ℕ). T (f m (get_or xs k 0))) (zero-add k) (from f xs 0 t k h)

-- The test f passes at each number below n, and at each pair of them.
abbrev pub upto : (ℕ → Bool) → ℕ → Bool
upto f zero = true
upto f (suc n) = f n && upto f n

pub below : (f : ℕ → Bool) (n : ℕ) → T (upto f n) → (k : ℕ) → k < n → T (f k)
below f zero t k h = absurd (not-suc-le-zero h)
below f (suc n) t k h =
    ⊎_elim
    (λ (e : k ≡ n). subst (λ (m : ℕ). T (f m)) (sym e) (left-of-and (f n) (upto f n) t))
    (λ (l : k < n). below f n (right-of-and (f n) (upto f n) t) k l)
    (eq-or-lt_of_le (le_of_suc-le-suc h))

pub pair : (f : ℕ → ℕ → Bool) (n : ℕ) → T (upto (λ a. upto (f a) n) n) → (a b : ℕ) → a < n → b < n → T (f a b)
pair f n t a b h l = below (f a) n (below (λ a. upto (f a) n) n t a h) b l

-- Two tests agree at each number below n, and at each pair of them.
abbrev pub same_bool : Bool → Bool → Bool
same_bool a b = cond a b (not b)

same_bool_lem : (a b : Bool) → T (same_bool a b) → a ≡ b
same_bool_lem true true t = refl
same_bool_lem true false t = absurd t
same_bool_lem false true t = absurd t
same_bool_lem false false t = refl

pub same-below : (f g : ℕ → Bool) (n : ℕ) → T (upto (λ a. same_bool (f a) (g a)) n) → (a : ℕ) → a < n → f a ≡ g a
same-below f g n t a h = same_bool_lem (f a) (g a) (below (λ a. same_bool (f a) (g a)) n t a h)

pub same-pair : (f g : ℕ → ℕ → Bool) (n : ℕ) → T (upto (λ a. upto (λ b. same_bool (f a b) (g a b)) n) n) → (a b : ℕ) → a < n → b < n → f a b ≡ g a b
same-pair f g n t a b h l = same_bool_lem (f a b) (g a b) (pair (λ a b. same_bool (f a b) (g a b)) n t a b h l)
