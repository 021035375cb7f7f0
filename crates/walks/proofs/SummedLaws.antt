-- The loop over the items of a word: where it begins, one item more, where it ends; and that the sums fit.
-- Assumes nothing.
use mathlib.Core.Path.{◌≡◌, refl, sym, ap, ◌∙◌}
use mathlib.Core.Bool.{Bool, true, false, true≢false}
use mathlib.Core.List.{List, [], ◌∷◌}
use Prim.Native.Nat.{ℕ, zero, suc, ◌+◌, ◌<◌, ◌≤◌, ◌^◌}
use native.Mathlib.Decide.{ℕ_discrete}
use native.Mathlib.Omega.{arith}
use native.Mathlib.Nat.{le_trans, pow-le-pow_right}
use lib.Dec.{lit<}
use lib.ListN.{length, set}
use Rattle.words.specs.Words.{gate, has, count_to, size_of, Lowest, item_of, less_of}
use Rattle.words.proofs.WordsLaws.{has-zero, less-here, less_other, less-lt}
use Rattle.walks.specs.Choices.{Sets, sum_to, each, sum_over}
use Rattle.walks.specs.Walk.{walk}
use Rattle.walks.specs.Code.Summed.{Summed, Least, Sought}
use Rattle.walks.proofs.SumLaws.{sum-ext, sum-none}
use Rattle.walks.proofs.PruneLaws.{walk-bound}

-- ---- one item more

sum-to : (n : ℕ) (g h : ℕ → ℕ) → ((y : ℕ) → y < n → g y ≡ h y) → sum_to n g ≡ sum_to n h
unfolding sum_to
sum-to zero g h e = refl
sum-to (suc n) g h e = omega (arith, sum-to n g h (λ y l. e y (omega arith)), e n (omega arith))

-- one of the numbers is taken out of the sum
sum-take : (n : ℕ) (g h : ℕ → ℕ) (x : ℕ) → x < n → ((y : ℕ) → y < n → (y ≡ x → ⊥) → g y ≡ h y) → h x ≡ 0 → sum_to n g ≡ g x + sum_to n h
unfolding sum_to
sum-take zero g h x l e z = absurd (omega arith)
sum-take (suc n) g h x l e z = go (ℕ_discrete n x) (λ k. sum-take n g h x k (λ y p q. e y (omega arith) q) z)
  where
    go : Dec (n ≡ x) → (x < n → sum_to n g ≡ g x + sum_to n h) → sum_to n g + g n ≡ g x + (sum_to n h + h n)
    go (yes q) ih = omega (arith, sum-to n g h (λ y p. e y (omega arith) (λ r. omega arith)), ap g q, ap h q)
    go (no q) ih = omega (arith, ih (omega arith), e n (omega arith) q)

left_in : (w x y : ℕ) → y < 64 → has (less_of w (item_of x)) y ≡ true → has w y ≡ true
left_in w x y l h = go (ℕ_discrete y x)
  where
    go : Dec (y ≡ x) → has w y ≡ true
    go (yes e) = absurd (true≢false (sym h ∙ ap (has (less_of w (item_of x))) e ∙ less-here w x (rw e at l)))
    go (no ne) = sym (less_other w x y l ne) ∙ h

in_take : (w : ℕ) (f : ℕ → ℕ) (x : ℕ) → x < 64 → has w x ≡ true → sum_over w f ≡ f x + sum_over (less_of w (item_of x)) f
unfolding sum_over
in_take w f x l h =
    sum-take 64 (λ y. gate (has w y) (f y)) (λ y. gate (has (less_of w (item_of x)) y) (f y)) x l
    (λ y p q. ap (λ (t : Bool). gate t (f y)) (sym (less_other w x y p q))) (ap (λ (t : Bool). gate t (f x)) (less-here w x l))
    ∙ ap (λ (t : Bool). gate t (f x) + sum_to 64 (λ y. gate (has (less_of w (item_of x)) y) (f y))) h

in-none : (f : ℕ → ℕ) → sum_over 0 f ≡ 0
unfolding sum_over
in-none f = sum-ext 64 _ _ (λ x. ap (λ (t : Bool). gate t (f x)) (has-zero x)) ∙ sum-none 64

-- ---- the loop's sum

pub summed-start : (w : ℕ) (f : ℕ → ℕ) → w < 2 ^ 64 → Summed w f w 0
summed-start w f l = record { small = l; inside = λ x k h. h; sums = omega arith }

pub summed-step : {w : ℕ} {f : ℕ → ℕ} {rest sum : ℕ} → Summed w f rest sum → (x : ℕ) → x < 64 → has rest x ≡ true
    → Summed w f (less_of rest (item_of x)) (sum + f x)
summed-step {w} {f} {rest} {sum} p x l h = record {
  small = less-lt rest (item_of x);
  inside = λ y k e. p.inside y k (left_in rest x y k e);
  sums = omega (arith, p.sums, in_take rest f x l h);
}

pub summed-end : {w : ℕ} {f : ℕ → ℕ} {rest sum : ℕ} → Summed w f rest sum → rest ≡ 0 → sum ≡ sum_over w f
summed-end {w} {f} {rest} {sum} p z = omega (arith, p.sums, ap (λ (r : ℕ). sum_over r f) z, in-none f)

-- one item more is still at most the whole
pub summed-le : {w : ℕ} {f : ℕ → ℕ} {rest sum : ℕ} → Summed w f rest sum → (x : ℕ) → x < 64 → has rest x ≡ true → sum + f x ≤ sum_over w f
summed-le {w} {f} {rest} {sum} p x l h = omega (arith, p.sums, in_take rest f x l h)

-- ---- the least item that counts

module _ {w : ℕ} {f : ℕ → ℕ} where
  pub sought-start : (x : ℕ) → Sought w f w 0 x
  sought-start x = record { none = λ z y l h n. absurd (true≢false (sym h ∙ n)); least = λ l. absurd (omega arith) }

  module _ {rest sum x : ℕ} (p : Sought w f rest sum x) (y : ℕ) (l : y < 64) (h : has rest y ≡ true) where
    -- the lowest item left is the first that counts
    pub sought-hit : Lowest rest y → ((z : ℕ) → z < 64 → has rest z ≡ true → has w z ≡ true) → sum ≡ 0 → 0 < f y
        → Sought w f (less_of rest (item_of y)) (sum + f y) y
    sought-hit low sub z c = record {
      none = λ q. absurd (omega arith);
      least = λ q. record { item = l; inside = sub y l h; counts = c; before = λ k b e. p.none z k (omega arith) e (low.least k b) };
    }

    -- an earlier one was found
    pub sought-found : 0 < sum → Sought w f (less_of rest (item_of y)) (sum + f y) x
    sought-found c = record { none = λ q. absurd (omega arith); least = λ q. p.least c }

    -- this one does not count
    pub sought-past : f y ≡ 0 → Sought w f (less_of rest (item_of y)) (sum + f y) x
    sought-past z = record { none = λ q k b e n. go q k b e n (ℕ_discrete k y); least = λ q. p.least (omega arith) }
      where
        go : sum + f y ≡ 0 → (k : ℕ) → k < 64 → has w k ≡ true → has (less_of rest (item_of y)) k ≡ false → Dec (k ≡ y) → f k ≡ 0
        go q k b e n (yes r) = ap f r ∙ z
        go q k b e n (no r) = p.none (omega arith) k b e (sym (less_other rest y k b r) ∙ n)

pub least-ext : (w : ℕ) (f g : ℕ → ℕ) → ((y : ℕ) → f y ≡ g y) → (x : ℕ) → Least w f x → Least w g x
least-ext w f g e x p = record {
  item = p.item;
  inside = p.inside;
  counts = rw (← e x) p.counts;
  before = λ y l h. sym (e y) ∙ p.before y l h;
}

-- ---- what the walk adds is such a sum

module _ (s : Sets) (g : List ℕ → ℕ) (v w : ℕ) (vs c : List ℕ) (e : (x : ℕ) → s v c x ≡ has w x) where
  pub walk-items : walk 64 s g (v ∷ vs) c ≡ sum_over w (λ x. walk 64 s g vs (set c v x))
  unfolding walk sum_over
  walk-items = sum-ext 64 _ _ (λ x. ap (λ (t : Bool). gate t (walk 64 s g vs (set c v x))) (e x))

count-sum : (n : ℕ) (f : ℕ → Bool) → sum_to n (λ x. gate (f x) 1) ≡ count_to n f
unfolding sum_to count_to
count-sum zero f = refl
count-sum (suc n) f = ap (λ (k : ℕ). k + gate (f n) 1) (count-sum n f)

-- the last variable needs no walk: each item of its set is a full choice
pub last-size : (s : Sets) (v w : ℕ) (c : List ℕ) → ((x : ℕ) → s v c x ≡ has w x) → walk 64 s each (v ∷ []) c ≡ size_of w
unfolding walk size_of
last-size s v w c e = sum-ext 64 _ _ (λ x. ap (λ (t : Bool). gate t 1) (e x)) ∙ count-sum 64 (has w)

-- ---- the counts fit

pub walk-small : (s : Sets) (g : List ℕ → ℕ) → ((c : List ℕ) → g c ≤ 1) → (vs c : List ℕ) → length vs ≤ 8 → walk 64 s g vs c ≤ 64 ^ 8
walk-small s g h vs c l = le_trans (walk-bound 64 s g h vs c) (pow-le-pow_right (lit< tt) l)
