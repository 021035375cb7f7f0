-- Laws of `all_to`, and of a loop that leaves at the first number of which the test does not hold.
-- Assumes nothing.
use Rattle.std.proofs.Common.{IsTrue, ◌↔◌}
use mathlib.Core.Path.{◌≡◌, refl, sym, ap, ◌∙◌}
use mathlib.Core.Bool.{Bool, true, false, not, ◌&&◌}
use Prim.Native.Nat.{ℕ, zero, suc, ◌+◌, ◌≤◌, ◌<◌}
use native.Mathlib.Nat.{eq-or-lt_of_le}
use native.Mathlib.Omega.{arith}
use native.Mathlib.Numerals.{add-one}
use mathlib.Core.Logic.{⊎_elim}
use Rattle.words.proofs.WordsLaws.{and-true, and_both}
use Rattle.tables.specs.Checks.{all_to}

pub all-every : (n : ℕ) (f : ℕ → Bool) → ((i : ℕ) → i < n → f i ≡ true) → all_to n f ≡ true
unfolding all_to
all-every zero f h = refl
all-every (suc n) f h = and_both (all-every n f (λ i l. h i (omega arith))) (h n (omega arith))

pub all-at : (n : ℕ) (f : ℕ → Bool) → all_to n f ≡ true → (i : ℕ) → i < n → f i ≡ true
unfolding all_to
all-at zero f h i l = absurd (omega arith)
all-at (suc n) f h i l =
    let p = and-true (all_to n f) (f n) h in
    let k : i ≤ n = omega arith in
    ⊎_elim (λ (e : i ≡ n). rw e p.1) (λ (m : i < n). all-at n f p.0 i m) (eq-or-lt_of_le k)

-- What holds of every number below n is `all_to`.
pub all-is : {b : Bool} (n : ℕ) (f : ℕ → Bool) → (IsTrue b ↔ ((i : ℕ) → i < n → f i ≡ true)) → b ≡ all_to n f
all-is {b} n f h = go b (all_to n f) h.0 h.1 (all-every n f) (all-at n f)
  where
    go : (b a : Bool) {P : Type 0} → (b ≡ true → P) → (P → b ≡ true) → (P → a ≡ true) → (a ≡ true → P) → b ≡ a
    go true a f g h k = sym (h (f refl))
    go false true f g h k = g (k refl)
    go false false f g h k = refl

pub all-ext : (n : ℕ) (f g : ℕ → Bool) → ((i : ℕ) → i < n → f i ≡ g i) → all_to n f ≡ all_to n g
unfolding all_to
all-ext zero f g h = refl
all-ext (suc n) f g h = rw (all-ext n f g (λ i l. h i (omega arith)), h n (omega arith))

-- Of i numbers below n the test holds.
pub record Passed (n : ℕ) (f : ℕ → Bool) (i : ℕ) : Type 0 where
  pub few : i ≤ n
  pub all : all_to i f ≡ true

pub passed_none : (n : ℕ) (f : ℕ → Bool) → Passed n f 0
unfolding all_to
passed_none n f = record { few = omega arith; all = refl }

module _ {n : ℕ} {f : ℕ → Bool} {i : ℕ} (p : Passed n f i) where
  pub passed-more : {b : Bool} → i < n → b ≡ f i → b ≡ true → Passed n f (i + 1)
  unfolding all_to
  passed-more l e q = record { few = omega arith; all = rw (add-one) (and_both p.all (sym e ∙ q)) }

  pub passed-not : {b : Bool} → i < n → b ≡ f i → b ≡ false → false ≡ all_to n f
  passed-not l e q = go (all_to n f) refl
    where
      go : (a : Bool) → all_to n f ≡ a → false ≡ a
      go false k = refl
      go true k = sym q ∙ e ∙ all-at n f k i l

  pub passed-all : n ≤ i → true ≡ all_to n f
  passed-all l = let e : i ≡ n = omega (arith, p.few) in sym (rw e at p.all)

all_more : (i : ℕ) (f : ℕ → Bool) → all_to (i + 1) f ≡ (all_to i f && f i)
unfolding all_to
all_more i f = rw (add-one)

and_one : (a b : Bool) → b ≡ true → (a && b) ≡ a
and_one true b e = e
and_one false b e = refl

and_none : (a b : Bool) → b ≡ false → (a && b) ≡ false
and_none true b e = e
and_none false b e = refl

not-not : (a : Bool) → not (not a) ≡ a
not-not true = refl
not-not false = refl

-- A loop that looks at every number and remembers whether the test failed.
pub record Noted (n : ℕ) (f : ℕ → Bool) (i : ℕ) (failed : Bool) : Type 0 where
  pub few : i ≤ n
  pub says : failed ≡ not (all_to i f)

pub noted-none : (n : ℕ) (f : ℕ → Bool) → Noted n f 0 false
unfolding all_to
noted-none n f = record { few = omega arith; says = refl }

module _ {n : ℕ} {f : ℕ → Bool} {i : ℕ} {failed : Bool} (p : Noted n f i failed) where
  pub noted_more : {b : Bool} → i < n → f i ≡ true → b ≡ failed → Noted n f (i + 1) b
  noted_more l q e = record { few = omega arith; says = e ∙ p.says ∙ ap not (sym (all_more i f ∙ and_one (all_to i f) (f i) q)) }

  pub noted-not : {b : Bool} → i < n → f i ≡ false → b ≡ true → Noted n f (i + 1) b
  noted-not l q e = record { few = omega arith; says = e ∙ ap not (sym (all_more i f ∙ and_none (all_to i f) (f i) q)) }

  pub noted-all : n ≤ i → not failed ≡ all_to n f
  noted-all l = let e : i ≡ n = omega (arith, p.few) in ap not (rw e at p.says) ∙ not-not (all_to n f)
