-- What holds of each of a list: of its parts, of what follows from it, and by the places of words and of sessions.
-- Assumes nothing.
use mathlib.Core.Path.{◌≡◌}
use mathlib.Core.Bool.{Bool, true}
use mathlib.Core.List.{List, [], ◌∷◌, ◌++◌, map}
use Prim.Native.Nat.{ℕ, zero, suc, ◌^◌, ◌<◌}
use native.Mathlib.Omega.{arith}
use lib.ListN.{length, get_or, take, drop}
use lib.Pow.{pow_pos}
use Rattle.tables.specs.Tables.{Session}
use Rattle.tables.specs.Checks.{all_to}
use Rattle.tables.specs.Accepted.{Below, Every}
use Rattle.tables.proofs.AllLaws.{all-every, all-at}

module _ {A : Type 0} (P : A → Type 0) where
  pub every_append : (xs ys : List A) → Every P xs → Every P ys → Every P (xs ++ ys)
  every_append [] ys p q = q
  every_append (x ∷ xs) ys p q = (p.0, every_append xs ys p.1 q)

  pub every_take : (k : ℕ) (xs : List A) → Every P xs → Every P (take k xs)
  every_take zero xs p = tt
  every_take (suc k) [] p = tt
  every_take (suc k) (x ∷ xs) p = (p.0, every_take k xs p.1)

  pub every_drop : (k : ℕ) (xs : List A) → Every P xs → Every P (drop k xs)
  every_drop zero xs p = p
  every_drop (suc k) [] p = tt
  every_drop (suc k) (x ∷ xs) p = every_drop k xs p.1

module _ {A : Type 0} (P Q : A → Type 0) where
  pub every_map : (xs : List A) → ((x : A) → P x → Q x) → Every P xs → Every Q xs
  every_map [] h p = tt
  every_map (x ∷ xs) h p = (h x p.0, every_map xs h p.1)

  pub every-both : (xs : List A) → Every P xs → Every Q xs → Every (λ x. P x × Q x) xs
  every-both [] p q = tt
  every-both (x ∷ xs) p q = ((p.0, q.0), every-both xs p.1 q.1)

-- Words, by their places.
pub every-below : (n : ℕ) (ws : List ℕ) → Every (λ w. w < 2 ^ n) ws → Below n ws
unfolding Below
every-below n [] p i = pow_pos n
every-below n (w ∷ ws) p zero = p.0
every-below n (w ∷ ws) p (suc i) = every-below n ws p.1 i

module _ (f : ℕ → Bool) where
  pub words-all : (ws : List ℕ) → Every (λ w. f w ≡ true) ws → all_to (length ws) (λ i. f (get_or ws i 0)) ≡ true
  words-all ws p = all-every (length ws) _ (go ws p)
    where
      go : (ws : List ℕ) → Every (λ w. f w ≡ true) ws → (i : ℕ) → i < length ws → f (get_or ws i 0) ≡ true
      go [] p i l = absurd (omega arith)
      go (w ∷ ws) p zero l = p.0
      go (w ∷ ws) p (suc i) l = go ws p.1 i (omega arith)

  pub all_words : (ws : List ℕ) → all_to (length ws) (λ i. f (get_or ws i 0)) ≡ true → Every (λ w. f w ≡ true) ws
  all_words ws e = go ws (all-at (length ws) (λ i. f (get_or ws i 0)) e)
    where
      go : (ws : List ℕ) → ((i : ℕ) → i < length ws → f (get_or ws i 0) ≡ true) → Every (λ w. f w ≡ true) ws
      go [] h = tt
      go (w ∷ ws) h = (h 0 (omega arith), go ws (λ i l. h (suc i) (omega arith)))

-- Sessions, by the places of their users and roles.
module _ (f : ℕ → ℕ → Bool) where
  abbrev Holds : Session → Type 0
  Holds s = f s.user s.active ≡ true

  abbrev at : List Session → ℕ → Bool
  at ss i = f (get_or (map (λ s. s.user) ss) i 0) (get_or (map (λ s. s.active) ss) i 0)

  pub each_all : (ss : List Session) → Every Holds ss → all_to (length ss) (at ss) ≡ true
  each_all ss p = all-every (length ss) (at ss) (go ss p)
    where
      go : (ss : List Session) → Every Holds ss → (i : ℕ) → i < length ss → at ss i ≡ true
      go [] p i l = absurd (omega arith)
      go (x ∷ ss) p zero l = p.0
      go (x ∷ ss) p (suc i) l = go ss p.1 i (omega arith)

  pub all-each : (ss : List Session) → all_to (length ss) (at ss) ≡ true → Every Holds ss
  all-each ss e = go ss (all-at (length ss) (at ss) e)
    where
      go : (ss : List Session) → ((i : ℕ) → i < length ss → at ss i ≡ true) → Every Holds ss
      go [] h = tt
      go (x ∷ ss) h = (h 0 (omega arith), go ss (λ i l. h (suc i) (omega arith)))
