-- Laws of `index_of`: the place of the first such byte, or the number of all bytes.
-- Assumes nothing.
use mathlib.Core.Path.{◌≡◌, refl, sym, ap, ◌∙◌}
use mathlib.Core.List.{List, [], ◌∷◌}
use Prim.Native.Nat.{ℕ, zero, suc, ◌+◌, ◌-◌, ◌<◌, ◌≤◌}
use native.Mathlib.Omega.{arith}
use borrow.Author.Tests.{eq-eqb, ne_eqb}
use lib.ListN.{length, get_or, take, drop, length-drop}
use lib.Seq.{length-take-le, get_or-take, get_or-drop}
use Rattle.std.proofs.lemmas.List.{drop-take}
use Rattle.texts.specs.Scan.{slice, index_of}

-- The first c among the bytes xs.
pub index-first : (c n : ℕ) (xs : List ℕ) → n < length xs → ((k : ℕ) → k < n → get_or xs k 0 ≡ c → ⊥) → get_or xs n 0 ≡ c → index_of c xs ≡ n
unfolding index_of
index-first c n [] l f e = absurd (omega arith)
index-first c zero (x ∷ xs) l f e = rw (eq-eqb x c e)
index-first c (suc n) (x ∷ xs) l f e = rw (ne_eqb x c (f 0 (omega arith))) (ap suc (index-first c n xs (omega arith) (λ k h. f (suc k) (omega arith)) e))

-- No c among them.
pub index-free : (c : ℕ) (xs : List ℕ) → ((k : ℕ) → k < length xs → get_or xs k 0 ≡ c → ⊥) → index_of c xs ≡ length xs
unfolding index_of
index-free c [] f = refl
index-free c (x ∷ xs) f = rw (ne_eqb x c (f 0 (omega arith))) (ap suc (index-free c xs (λ k h. f (suc k) (omega arith))))

pub slice-take : (s : List ℕ) (a b : ℕ) → a ≤ b → take (b - a) (drop a s) ≡ slice a b s
unfolding slice
slice-take s a b l =
    let e : a + (b - a) ≡ b = omega arith in
    sym (ap (λ (m : ℕ). drop a (take m s)) (sym e) ∙ drop-take a (b - a) s)

-- The bytes from place a on up to `at`, or up to b, are none of them c.
module _ (c a b : ℕ) (s : List ℕ) (l : a ≤ b) (m : b ≤ length s) where
  abbrev part : List ℕ
  part = take (b - a) (drop a s)

  part-get : (k : ℕ) → a + k < b → get_or part k 0 ≡ get_or s (a + k) 0
  part-get k h = get_or-take (b - a) (drop a s) k 0 (omega arith) ∙ get_or-drop a s k 0

  part-length : length part ≡ b - a
  part-length = length-take-le (b - a) (drop a s) (omega (arith, length-drop a s, l, m))

  pub first-at : (at : ℕ) → a ≤ at → at < b → ((k : ℕ) → a + k < at → get_or s (a + k) 0 ≡ c → ⊥) → get_or s at 0 ≡ c → at ≡ a + index_of c (slice a b s)
  first-at at h n f e =
      let q : a + (at - a) ≡ at = omega arith in
      rw (← slice-take s a b l) (omega (arith, h, index-first c (at - a) part (omega (arith, part-length)) (λ k x y. f k (omega arith) (sym (part-get k (omega arith)) ∙ y)) (part-get (at - a) (omega arith) ∙ ap (λ (i : ℕ). get_or s i 0) q ∙ e)))

  pub free-part : ((k : ℕ) → a + k < b → get_or s (a + k) 0 ≡ c → ⊥) → b ≡ a + index_of c (slice a b s)
  free-part f =
      rw (← slice-take s a b l) (omega (arith, l, part-length, index-free c part (λ k x y. f k (omega (arith, x, part-length)) (sym (part-get k (omega (arith, x, part-length))) ∙ y))))
