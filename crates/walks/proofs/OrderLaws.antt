-- The test of an order holds exactly of the lists that have each variable once, after those that its set names.
-- Assumes nothing.
use mathlib.Core.Path.{◌≡◌, refl, sym, ap, ap₂, subst}
use mathlib.Core.Bool.{Bool, true, false, not, ◌&&◌}
use mathlib.Core.List.{List, [], ◌∷◌}
use mathlib.Core.Logic.{◌↔◌}
use Prim.Native.Nat.{ℕ, zero, suc, ◌+◌, ◌<◌, ◌≤◌}
use native.Mathlib.Omega.{arith}
use native.Mathlib.Numerals.{add-one}
use native.Mathlib.Decide.{ℕ_discrete}
use lib.ListN.{length, get_or, drop}
use lib.Seq.{drop-cons}
use lib.Dec.{ltb, lit<}
use borrow.Author.Tests.{eq-eqb, eqb-true, ltb-true, lt-ltb}
use Rattle.walks.specs.Order.{variables_of, is_small, count, is_once, is_free, is_after, is_order}
use Rattle.walks.specs.Meaning.{Every, Once, After, Admissible}
use Rattle.walks.proofs.OnceLaws.{once-length, hit_other, below}
use Rattle.words.proofs.WordsLaws.{and-true}

not-eq : (a : Bool) → not a ≡ true → a ≡ false
not-eq true e = sym e
not-eq false e = refl

-- one element more
pub at : (s : List ℕ) (i : ℕ) → i < length s → drop i s ≡ get_or s i 0 ∷ drop (i + 1) s
at s i h = rw (add-one, drop-cons s i 0)

free-every : (names : ℕ → ℕ → Bool) (v : ℕ) (ws : List ℕ) → is_free names v ws ≡ true → Every (λ w. names v w ≡ false) ws
unfolding is_free
free-every names v [] h = tt
free-every names v (w ∷ ws) h = (not-eq (names v w) (and-true (not (names v w)) _ h).0, free-every names v ws (and-true (not (names v w)) _ h).1)

after-after : (names : ℕ → ℕ → Bool) (vs : List ℕ) → is_after names vs ≡ true → After names vs
unfolding is_after
after-after names [] h = tt
after-after names (v ∷ vs) h = (free-every names v (v ∷ vs) (and-true (is_free names v (v ∷ vs)) _ h).0, after-after names vs (and-true (is_free names v (v ∷ vs)) _ h).1)

once-each : (k : ℕ) (vs : List ℕ) → is_once k vs ≡ true → (u : ℕ) → u < k → count u vs ≡ 1
unfolding is_once
once-each zero vs h u l = absurd (omega arith)
once-each (suc k) vs h u l = go (ℕ_discrete u k) (once-each k vs (and-true (is_once k vs) _ h).0 u)
  where
    go : Dec (u ≡ k) → (u < k → count u vs ≡ 1) → count u vs ≡ 1
    go (yes e) ih = subst (λ (j : ℕ). count j vs ≡ 1) (sym e) (eqb-true (count k vs) 1 (and-true (is_once k vs) _ h).1)
    go (no ne) ih = ih (omega arith)

small-none : (n : ℕ) (vs : List ℕ) → is_small n vs ≡ true → (u : ℕ) → n ≤ u → count u vs ≡ 0
unfolding is_small count
small-none n [] h u l = refl
small-none n (v ∷ vs) h u l =
    let lt = ltb-true v n (and-true (ltb v n) _ h).0 in
    omega (arith, hit_other u v (omega arith), small-none n vs (and-true (ltb v n) _ h).1 u l)

pub small_at : (n : ℕ) (vs : List ℕ) → is_small n vs ≡ true → n ≤ 8 → (k : ℕ) → get_or vs k 0 < 8
unfolding is_small
small_at n [] h l k = lit< tt
small_at n (v ∷ vs) h l zero = omega (arith, ltb-true v n (and-true (ltb v n) _ h).0)
small_at n (v ∷ vs) h l (suc k) = small_at n vs (and-true (ltb v n) _ h).1 l k

small-in : (n : ℕ) (vs : List ℕ) → is_small n vs ≡ true → (k : ℕ) → k < length vs → get_or vs k 0 < n
unfolding is_small
small-in n [] h k l = absurd (omega arith)
small-in n (v ∷ vs) h zero l = ltb-true v n (and-true (ltb v n) _ h).0
small-in n (v ∷ vs) h (suc k) l = small-in n vs (and-true (ltb v n) _ h).1 k (omega arith)

pub order-once : (names : ℕ → ℕ → Bool) (n : ℕ) (vs : List ℕ) → is_order names n vs ≡ true → Once n vs
unfolding is_order
order-once names n vs h u =
    (once-each n vs (and-true (is_once n vs) _ (and-true (is_small n vs) _ h).1).0 u, small-none n vs (and-true (is_small n vs) _ h).0 u)

pub order-after : (names : ℕ → ℕ → Bool) (n : ℕ) (vs : List ℕ) → is_order names n vs ≡ true → After names vs
unfolding is_order
order-after names n vs h = after-after names vs (and-true (is_once n vs) _ (and-true (is_small n vs) _ h).1).1

-- No set names the variable at its own place or one at a later.
every-at : (P : ℕ → Type 0) (ws : List ℕ) → Every P ws → (j : ℕ) → j < length ws → P (get_or ws j 0)
every-at P [] h j l = absurd (omega arith)
every-at P (w ∷ ws) h zero l = h.0
every-at P (w ∷ ws) h (suc j) l = every-at P ws h.1 j (omega arith)

pub after-at : (names : ℕ → ℕ → Bool) (vs : List ℕ) → After names vs → (i j : ℕ) → i ≤ j → j < length vs → names (get_or vs i 0) (get_or vs j 0) ≡ false
after-at names [] h i j m l = absurd (omega arith)
after-at names (v ∷ vs) h zero j m l = every-at (λ w. names v w ≡ false) (v ∷ vs) h.0 j l
after-at names (v ∷ vs) h (suc i) zero m l = absurd (omega arith)
after-at names (v ∷ vs) h (suc i) (suc j) m l = after-at names vs h.1 i j (omega arith) (omega arith)

-- and the other way: what the test refuses is no order
free_back : (names : ℕ → ℕ → Bool) (v : ℕ) (ws : List ℕ) → Every (λ w. names v w ≡ false) ws → is_free names v ws ≡ true
unfolding is_free
free_back names v [] h = refl
free_back names v (w ∷ ws) h = ap₂ (λ (a b : Bool). not a && b) h.0 (free_back names v ws h.1)

after-back : (names : ℕ → ℕ → Bool) (vs : List ℕ) → After names vs → is_after names vs ≡ true
unfolding is_after
after-back names [] h = refl
after-back names (v ∷ vs) h = ap₂ (λ (a b : Bool). a && b) (free_back names v (v ∷ vs) h.0) (after-back names vs h.1)

once-back : (k : ℕ) (vs : List ℕ) → ((u : ℕ) → u < k → count u vs ≡ 1) → is_once k vs ≡ true
unfolding is_once
once-back zero vs h = refl
once-back (suc k) vs h = ap₂ (λ (a b : Bool). a && b) (once-back k vs (λ u l. h u (omega arith))) (eq-eqb (count k vs) 1 (h k (omega arith)))

small-back : (n : ℕ) (vs : List ℕ) → Every (λ w. w < n) vs → is_small n vs ≡ true
unfolding is_small
small-back n [] h = refl
small-back n (v ∷ vs) h = ap₂ (λ (a b : Bool). a && b) (lt-ltb v n h.0) (small-back n vs h.1)

pub order-exact : (names : ℕ → ℕ → Bool) (n : ℕ) (vs : List ℕ) → Once n vs → After names vs → is_order names n vs ≡ true
unfolding is_order
order-exact names n vs o a =
    ap₂ (λ (x y : Bool). x && y) (small-back n vs (below n vs (λ u. (o u).1)))
    (ap₂ (λ (x y : Bool). x && y) (once-back n vs (λ u. (o u).0)) (after-back names vs a))

-- THE THEOREM: what the test holds of are the admissible orders
pub order-admissible : (names : ℕ → ℕ → Bool) (n : ℕ) (vs : List ℕ) → (is_order names n vs ≡ true) ↔ Admissible names n vs
order-admissible names n vs =
    (λ h. record { once = order-once names n vs h; after = order-after names n vs h }, λ a. order-exact names n vs a.once a.after)

-- an order of n variables has n entries, each below n
pub order-length : (names : ℕ → ℕ → Bool) (n : ℕ) (vs : List ℕ) → is_order names n vs ≡ true → length vs ≡ n
order-length names n vs h = once-length n vs (order-once names n vs h)

pub order_small : (names : ℕ → ℕ → Bool) (n : ℕ) (vs : List ℕ) → is_order names n vs ≡ true → (k : ℕ) → k < length vs → get_or vs k 0 < n
unfolding is_order
order_small names n vs h k l = small-in n vs (and-true (is_small n vs) _ h).0 k l

-- the test looks at what the sets of variables below n name, and no further
free-agree : (f g : ℕ → ℕ → Bool) (n v : ℕ) → ((u : ℕ) → u < n → f v u ≡ g v u) → (ws : List ℕ) → is_small n ws ≡ true → is_free f v ws ≡ is_free g v ws
unfolding is_free is_small
free-agree f g n v e [] h = refl
free-agree f g n v e (w ∷ ws) h =
    ap₂ (λ (a b : Bool). not a && b) (e w (ltb-true w n (and-true (ltb w n) _ h).0)) (free-agree f g n v e ws (and-true (ltb w n) _ h).1)

after-agree : (f g : ℕ → ℕ → Bool) (n : ℕ) → ((v u : ℕ) → v < n → u < n → f v u ≡ g v u) → (vs : List ℕ) → is_small n vs ≡ true → is_after f vs ≡ is_after g vs
unfolding is_after is_small
after-agree f g n e [] h = refl
after-agree f g n e (v ∷ vs) h =
    ap₂ (λ (a b : Bool). a && b) (free-agree f g n v (λ u l. e v u (ltb-true v n (and-true (ltb v n) _ h).0) l) (v ∷ vs) h)
    (after-agree f g n e vs (and-true (ltb v n) _ h).1)

pub order-agree : (f g : ℕ → ℕ → Bool) (n : ℕ) → ((v u : ℕ) → v < n → u < n → f v u ≡ g v u) → (vs : List ℕ) → is_order f n vs ≡ is_order g n vs
unfolding is_order
order-agree f g n e vs = go (is_small n vs) refl
  where
    go : (b : Bool) → is_small n vs ≡ b → (b && (is_once n vs && is_after f vs)) ≡ (b && (is_once n vs && is_after g vs))
    go true h = ap (λ (b : Bool). is_once n vs && b) (after-agree f g n e vs h)
    go false h = refl

pub length-variables-of : (s : List ℕ) → length (variables_of s) ≡ length s
unfolding variables_of
length-variables-of [] = refl
length-variables-of (b ∷ s) = ap suc (length-variables-of s)
