-- Laws of the checks: what the code asks of words is what the definitions ask of items.
-- Assumes nothing.
use mathlib.Core.Path.{◌≡◌, refl, sym, ap, ◌∙◌}
use mathlib.Core.Bool.{Bool, true, false, ◌&&◌, not}
use Prim.Native.Nat.{ℕ, ◌≤◌, ◌<◌, ◌^◌}
use native.Mathlib.Omega.{arith}
use lib.Dec.{eqb, ltb}
use borrow.Author.Tests.{ltb-true, ltb-false, eqb-true, eq-eqb}
use Rattle.words.specs.Words.{has, less_of}
use Rattle.words.proofs.WordsLaws.{word_none, has-zero, has-out, has-less, both}
use Rattle.tables.specs.Checks.{all_to, implies}
use Rattle.tables.proofs.AllLaws.{all-every, all-at}

-- Nothing of w is left without v exactly where every item of w is one of v.
implies-of : (a b : Bool) → (a && not b) ≡ false → implies a b ≡ true
implies-of true true e = refl
implies-of true false e = sym e
implies-of false b e = refl

of-implies : (a b : Bool) → implies a b ≡ true → (a && not b) ≡ false
of-implies true true e = refl
of-implies true false e = sym e
of-implies false b e = refl

pub less_zero : (n w v : ℕ) → n ≤ 64 → w < 2 ^ n → eqb (less_of w v) 0 ≡ all_to n (λ i. implies (has w i) (has v i))
unfolding less_of
less_zero n w v l h = both (eqb (less_of w v) 0) (all_to n (λ i. implies (has w i) (has v i))) there back
  where
    there : eqb (less_of w v) 0 ≡ true → all_to n (λ i. implies (has w i) (has v i)) ≡ true
    there e =
        let z = eqb-true (less_of w v) 0 e in
        all-every n (λ i. implies (has w i) (has v i))
        (λ i k. implies-of (has w i) (has v i) (sym (has-less w v i (omega arith)) ∙ ap (λ x. has x i) z ∙ has-zero i))

    at : (b : Bool) (i : ℕ) → ltb i n ≡ b → all_to n (λ i. implies (has w i) (has v i)) ≡ true → (has w i && not (has v i)) ≡ false
    at true i q e = of-implies (has w i) (has v i) (all-at n (λ i. implies (has w i) (has v i)) e i (ltb-true i n q))
    at false i q e = rw (has-out w n i h (ltb-false i n q))

    back : all_to n (λ i. implies (has w i) (has v i)) ≡ true → eqb (less_of w v) 0 ≡ true
    back e = eq-eqb (less_of w v) 0 (word_none 64 (λ i. has w i && not (has v i)) (λ i k. at (ltb i n) i refl e))

pub clash : true ≡ false → ⊥
clash z = let o : ◌≡◌ {A = ℕ} 0 1 = cc in absurd (omega arith)

pub implied : (a b c : Bool) → (a ≡ true → b ≡ true → c ≡ true) → implies (a && b) c ≡ true
implied true true c h = implies_true c (h refl refl)
  where
    implies_true : (c : Bool) → c ≡ true → implies true c ≡ true
    implies_true true e = refl
    implies_true false e = e
implied true false c h = refl
implied false b c h = refl

pub of-implied : (a b c : Bool) → implies (a && b) c ≡ true → a ≡ true → b ≡ true → c ≡ true
of-implied true true true e p q = refl
of-implied true true false e p q = e
of-implied true false c e p q = absurd (clash (sym q))
of-implied false b c e p q = absurd (clash (sym p))

pub left_out : (a b : Bool) → (a && not b) ≡ false → a ≡ true → b ≡ true
left_out true true e p = refl
left_out true false e p = sym e
left_out false b e p = absurd (clash (sym p))
