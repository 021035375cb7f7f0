-- Laws of the tables as a reader sees them, part by part.
-- Assumes nothing.
use mathlib.Core.Path.{◌≡◌, refl, sym, ap, ap₂}
use mathlib.Core.Bool.{Bool, true, false, ◌&&◌, and-false as and_no}
use mathlib.Core.List.{List, [], ◌∷◌, map}
use Prim.Native.Nat.{ℕ, zero, suc, ◌+◌, ◌≤◌, ◌<◌}
use native.Mathlib.Omega.{arith}
use lib.ListN.{length, get_or, get_elem?}
use Rattle.words.specs.Words.{has, gate}
use Rattle.tables.specs.Tables.{User}
use Rattle.tables.specs.Accepted.{Every}
use Rattle.cuts.specs.Cut.{row_for, rows_from, keep_if, of_reader}

-- ---- rows

pub rows-length : (w k : ℕ) (us : List User) → length (rows_from w k us) ≡ length us
unfolding rows_from
rows-length w k [] = refl
rows-length w k (u ∷ us) = ap suc (rows-length w (suc k) us)

gate-zero : (b : Bool) → 0 ≡ gate b 0
gate-zero true = refl
gate-zero false = refl

row-assigned : (b : Bool) (u : User) → (row_for b u).assigned ≡ gate b u.assigned
row-assigned true u = refl
row-assigned false u = refl

row-present : (b : Bool) (u : User) → (row_for b u).present ≡ (b && u.present)
row-present true u = refl
row-present false u = refl

pub assigned-at : (w k : ℕ) (us : List User) (i : ℕ)
    → get_or (map (λ u. u.assigned) (rows_from w k us)) i 0 ≡ gate (has w (k + i)) (get_or (map (λ u. u.assigned) us) i 0)
unfolding rows_from
assigned-at w k [] i = gate-zero (has w (k + i))
assigned-at w k (u ∷ us) zero = let e : k + 0 ≡ k = omega arith in rw e (row-assigned (has w k) u)
assigned-at w k (u ∷ us) (suc i) = let e : k + suc i ≡ suc k + i = omega arith in rw e (assigned-at w (suc k) us i)

pub present-at : (w k : ℕ) (us : List User) (i : ℕ)
    → get_or (map (λ u. u.present) (rows_from w k us)) i false ≡ (has w (k + i) && get_or (map (λ u. u.present) us) i false)
unfolding rows_from
present-at w k [] i = sym (and_no (has w (k + i)))
present-at w k (u ∷ us) zero = let e : k + 0 ≡ k = omega arith in rw e (row-present (has w k) u)
present-at w k (u ∷ us) (suc i) = let e : k + suc i ≡ suc k + i = omega arith in rw e (present-at w (suc k) us i)

-- Rows that are all the reader's stay.
pub rows_same : (w k : ℕ) (us : List User) → ((i : ℕ) → i < length us → has w (k + i) ≡ true) → rows_from w k us ≡ us
unfolding rows_from
rows_same w k [] h = refl
rows_same w k (u ∷ us) h =
    let e : k + 0 ≡ k = omega arith in
    let here : has w k ≡ true = rw e at (h 0 (omega arith)) in
    rw here (ap (λ (r : List User). u ∷ r)
    (rows_same w (suc k) us (λ i l. let e : suc k + i ≡ k + suc i = omega arith in rw e (h (suc i) (omega arith)))))

-- Rows of as many users, equal where they are the reader's, look alike.
pub rows_alike : (w k : ℕ) (us vs : List User) → length us ≡ length vs
    → ((i : ℕ) → has w (k + i) ≡ true → get_elem? us i ≡ get_elem? vs i) → rows_from w k us ≡ rows_from w k vs
unfolding rows_from
rows_alike w k [] [] l h = refl
rows_alike w k [] (v ∷ vs) l h = absurd (omega arith)
rows_alike w k (u ∷ us) [] l h = absurd (omega arith)
rows_alike w k (u ∷ us) (v ∷ vs) l h =
    ap₂ (λ (x : User) (xs : List User). x ∷ xs) (go (has w k) refl)
    (rows_alike w (suc k) us vs (omega arith) (λ i q. let e : k + suc i ≡ suc k + i = omega arith in h (suc i) (rw e q)))
  where
    go : (b : Bool) → has w k ≡ b → row_for b u ≡ row_for b v
    go true q =
        let e : k + 0 ≡ k = omega arith in
        let s = h 0 (rw e q) in
        let z : u ≡ v = cc in z
    go false q = refl

-- ---- rows that each have a user

module _ {A : Type 0} (user : A → ℕ) (w : ℕ) where
  pub own-few : (xs : List A) → length (of_reader user w xs) ≤ length xs
  unfolding of_reader
  own-few [] = omega arith
  own-few (x ∷ xs) = go (has w (user x)) (own-few xs)
    where
      go : (b : Bool) → length (of_reader user w xs) ≤ length xs → length (keep_if b x (of_reader user w xs)) ≤ suc (length xs)
      go true h = omega (arith, h)
      go false h = omega (arith, h)

  -- What is kept is the reader's, and has what all had.
  pub own-kept : (P : A → Type 0) (xs : List A) → Every P xs → Every (λ x. (has w (user x) ≡ true) × P x) (of_reader user w xs)
  unfolding of_reader
  own-kept P [] e = tt
  own-kept P (x ∷ xs) e = go (has w (user x)) refl (own-kept P xs e.1)
    where
      go : (b : Bool) → has w (user x) ≡ b → Every (λ x. (has w (user x) ≡ true) × P x) (of_reader user w xs)
          → Every (λ x. (has w (user x) ≡ true) × P x) (keep_if b x (of_reader user w xs))
      go true q h = ((q, e.0), h)
      go false q h = h

  pub own_same : (xs : List A) → Every (λ x. has w (user x) ≡ true) xs → of_reader user w xs ≡ xs
  unfolding of_reader
  own_same [] e = refl
  own_same (x ∷ xs) e = rw e.0 (ap (λ (r : List A). x ∷ r) (own_same xs e.1))
