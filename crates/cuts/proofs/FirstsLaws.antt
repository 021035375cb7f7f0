-- Laws of the earliest of equal words: none is there twice, no more are there, and words that differ stay as they are.
-- Assumes nothing.
use mathlib.Core.Path.{◌≡◌, refl, sym, ap, ◌∙◌}
use mathlib.Core.Bool.{Bool, true, false, not}
use mathlib.Core.List.{List, [], ◌∷◌, ◌++◌, append_assoc, append-nil}
use Prim.Native.Nat.{ℕ, suc, ◌+◌, ◌≤◌, ◌<◌}
use native.Mathlib.Omega.{arith}
use native.Mathlib.Nat.{eq-or-lt_of_le}
use mathlib.Core.Logic.{⊎_elim}
use lib.Dec.{eqb}
use lib.ListN.{length, get_or, length-append, get_or-append}
use lib.Seq.{get_or-append-add}
use Rattle.tables.specs.Checks.{all_to, apart}
use Rattle.tables.specs.Accepted.{Every}
use Rattle.tables.proofs.AllLaws.{all-every, all-at}
use Rattle.tables.proofs.EveryLaws.{every_append}
use Rattle.cuts.specs.Cut.{is_new, add_if, firsts_behind}

pub firsts-few : (ws xs : List ℕ) → length (firsts_behind ws xs) ≤ length ws + length xs
unfolding firsts_behind
firsts-few ws [] = omega arith
firsts-few ws (x ∷ xs) = go (is_new ws x) (firsts-few (add_if (is_new ws x) ws x) xs)
  where
    go : (b : Bool) → length (firsts_behind (add_if (is_new ws x) ws x) xs) ≤ length (add_if b ws x) + length xs
        → length (firsts_behind (add_if (is_new ws x) ws x) xs) ≤ length ws + suc (length xs)
    go true h = omega (arith, h, length-append ws (x ∷ []))
    go false h = omega (arith, h)

pub firsts-every : (P : ℕ → Type 0) (ws xs : List ℕ) → Every P ws → Every P xs → Every P (firsts_behind ws xs)
unfolding firsts_behind
firsts-every P ws [] e f = e
firsts-every P ws (x ∷ xs) e f = firsts-every P (add_if (is_new ws x) ws x) xs (go (is_new ws x)) f.1
  where
    go : (b : Bool) → Every P (add_if b ws x)
    go true = every_append P ws (x ∷ []) e (f.0, tt)
    go false = e

-- A word behind words that differ, and from which it differs.
module _ (ws : List ℕ) (x : ℕ) where
  last-at : get_or (ws ++ (x ∷ [])) (length ws) 0 ≡ x
  last-at =
      let e : length ws ≡ length ws + 0 = omega arith in
      ap (λ (i : ℕ). get_or (ws ++ (x ∷ [])) i 0) e ∙ get_or-append-add ws (x ∷ []) 0 0

  apart_more : apart ws ≡ true → is_new ws x ≡ true → apart (ws ++ (x ∷ [])) ≡ true
  unfolding apart is_new
  apart_more a n =
      let l : length (ws ++ (x ∷ [])) ≡ suc (length ws) = length-append ws (x ∷ []) ∙ omega arith in
      all-every (length (ws ++ (x ∷ []))) _
      (λ i k. all-every i _
      (λ j m.
      let le : i ≤ length ws = omega arith in
      let first : get_or (ws ++ (x ∷ [])) j 0 ≡ get_or ws j 0 = get_or-append ws (x ∷ []) 0 j (omega arith) in
      ⊎_elim
      (λ (e : i ≡ length ws). rw (e, last-at, first) (all-at (length ws) (λ j. not (eqb (get_or ws j 0) x)) n j (omega arith)))
      (λ (h : i < length ws).
      rw (get_or-append ws (x ∷ []) 0 i h, first)
      (all-at i (λ j. not (eqb (get_or ws j 0) (get_or ws i 0))) (all-at (length ws) (λ i. all_to i (λ j. not (eqb (get_or ws j 0) (get_or ws i 0)))) a i h) j m))
      (eq-or-lt_of_le le)))

pub firsts-apart : (ws xs : List ℕ) → apart ws ≡ true → apart (firsts_behind ws xs) ≡ true
unfolding firsts_behind
firsts-apart ws [] a = a
firsts-apart ws (x ∷ xs) a = firsts-apart (add_if (is_new ws x) ws x) xs (go (is_new ws x) refl)
  where
    go : (b : Bool) → is_new ws x ≡ b → apart (add_if b ws x) ≡ true
    go true e = apart_more ws x a e
    go false e = a

pub none_apart : apart [] ≡ true
unfolding apart all_to
none_apart = refl

-- In words that differ each is new.
new_in : (ws : List ℕ) (x : ℕ) (xs : List ℕ) → apart (ws ++ (x ∷ xs)) ≡ true → is_new ws x ≡ true
unfolding apart is_new
new_in ws x xs a =
    let all = ws ++ (x ∷ xs) in
    let l : length all ≡ length ws + suc (length xs) = length-append ws (x ∷ xs) in
    let e : length ws ≡ length ws + 0 = omega arith in
    let here : get_or all (length ws) 0 ≡ x = ap (λ (i : ℕ). get_or all i 0) e ∙ get_or-append-add ws (x ∷ xs) 0 0 in
    let h = all-at (length all) (λ i. all_to i (λ j. not (eqb (get_or all j 0) (get_or all i 0)))) a (length ws) (omega arith) in
    all-every (length ws) _
    (λ j m.
    let first : get_or all j 0 ≡ get_or ws j 0 = get_or-append ws (x ∷ xs) 0 j m in
    let g = all-at (length ws) (λ j. not (eqb (get_or all j 0) (get_or all (length ws) 0))) h j m in
    rw (first, here) at g)

pub firsts_same : (ws xs : List ℕ) → apart (ws ++ xs) ≡ true → firsts_behind ws xs ≡ ws ++ xs
unfolding firsts_behind
firsts_same ws [] a = sym (append-nil ws)
firsts_same ws (x ∷ xs) a =
    let e : ws ++ (x ∷ xs) ≡ (ws ++ (x ∷ [])) ++ xs = sym (append_assoc ws (x ∷ []) xs) in
    rw (new_in ws x xs a) (firsts_same (ws ++ (x ∷ [])) xs (rw e at a) ∙ sym e)

-- One word more.
pub firsts_more : (ws xs : List ℕ) (x : ℕ) → firsts_behind ws (xs ++ (x ∷ [])) ≡ add_if (is_new (firsts_behind ws xs) x) (firsts_behind ws xs) x
unfolding firsts_behind
firsts_more ws [] x = refl
firsts_more ws (y ∷ xs) x = firsts_more (add_if (is_new ws y) ws y) xs x
