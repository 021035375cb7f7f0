-- What the chains and the loops over an order say: by the definitions' own recursion, or turn by turn.
-- Assumes nothing.
use mathlib.Core.Path.{◌≡◌, refl, sym, ap, ◌∙◌}
use mathlib.Core.Bool.{Bool, true, false, cond, not, ◌&&◌, and-true, and_assoc}
use mathlib.Core.List.{List, [], ◌∷◌, ◌++◌}
use Prim.Native.Nat.{zero, ℕ, suc, ◌+◌, ◌-◌, ◌<◌, ◌≤◌}
use lib.ListN.{take, set, length, get_or, drop, drop_of_length-le}
use native.Mathlib.Nat.{add-zero}
use native.Mathlib.Numerals.{add-one}
use native.Mathlib.Omega.{arith}
use lib.Seq.{take-suc, take-suc-set}
use lib.Dec.{eqb, ltb}
use Rattle.std.proofs.lemmas.List.{take_rest}
use Rattle.std.specs.List.{filter, list_all, range_with_len}
use Rattle.words.specs.Words.{gate, has}
use Rattle.walks.specs.Order.{variable_of, variables_of, is_small, count, is_once, is_free, is_after, named_by}
use Rattle.walks.proofs.OrderLaws.{at}

-- what `all` and a filter say of a list is what the definitions say
pub all-small : (n : ℕ) (s : List ℕ) → list_all (λ v. ltb v n) s ≡ is_small n s
unfolding is_small
all-small n [] = refl
all-small n (v ∷ s) = ap (λ (b : Bool). ltb v n && b) (all-small n s)

pub all-free : (words : List ℕ) (v : ℕ) (s : List ℕ) → list_all (λ w. not (has (get_or words v 0) w)) s ≡ is_free (named_by words) v s
unfolding is_free
all-free words v [] = refl
all-free words v (w ∷ s) = ap (λ (b : Bool). not (has (get_or words v 0) w) && b) (all-free words v s)

pub count-filter : (u : ℕ) (s : List ℕ) → length (filter (λ v. eqb u v) s) ≡ count u s
unfolding count
count-filter u [] = refl
count-filter u (v ∷ s) = go (eqb u v) (count-filter u s)
  where
    go : (b : Bool) → length (filter (λ w. eqb u w) s) ≡ count u s → length (cond b (v ∷ filter (λ w. eqb u w) s) (filter (λ w. eqb u w) s)) ≡ gate b 1 + count u s
    go true ih = omega arith
    go false ih = omega arith

-- from the number a on
once-from : (s : List ℕ) (a n : ℕ) → (is_once a s && list_all (λ k. eqb (count k s) 1) (range_with_len a n)) ≡ is_once (a + n) s
unfolding is_once
once-from s a zero = rw (add-zero a) (and-true (is_once a s))
once-from s a (suc n) =
    let rest : Bool = list_all (λ k. eqb (count k s) 1) (range_with_len (a + 1) n) in
    let up : suc a ≡ a + 1 = omega arith in
    let end : a + 1 + n ≡ a + suc n = omega arith in
    sym (and_assoc (is_once a s) (eqb (count a s) 1) rest) ∙ ap (λ (k : ℕ). is_once k s && rest) up ∙ once-from s (a + 1) n ∙ ap (λ (k : ℕ). is_once k s) end

pub all-once : (s : List ℕ) (n : ℕ) → list_all (λ k. eqb (count k s) 1) (range_with_len 0 n) ≡ is_once n s
unfolding is_once
all-once s n = let end : 0 + n ≡ n = omega arith in once-from s 0 n ∙ ap (λ (k : ℕ). is_once k s) end

-- a turn at i, where the list from i on is lent
module _ (s : List ℕ) (i : ℕ) (names : ℕ → ℕ → Bool) where
  abbrev lent : List ℕ
  lent = take (length s - i) (drop i s)

  pub after_end : length s ≤ i → is_after names (drop i s) ≡ true
  unfolding is_after
  after_end h = rw (drop_of_length-le s h)

  after_is : i < length s → (is_free names (get_or s i 0) lent && is_after names (drop (i + 1) s)) ≡ is_after names (drop i s)
  unfolding is_after
  after_is h = rw (take_rest s i, at s i h)

  pub after_stop : i < length s → is_free names (get_or s i 0) lent ≡ false → false ≡ is_after names (drop i s)
  after_stop h e = sym (ap (λ (t : Bool). t && is_after names (drop (i + 1) s)) e) ∙ after_is h

  pub after_go : i < length s → is_free names (get_or s i 0) lent ≡ true → is_after names (drop (i + 1) s) ≡ is_after names (drop i s)
  after_go h e = sym (ap (λ (t : Bool). t && is_after names (drop (i + 1) s)) e) ∙ after_is h

variables-snoc : (s : List ℕ) (x : ℕ) → variables_of (s ++ (x ∷ [])) ≡ variables_of s ++ (variable_of x ∷ [])
unfolding variables_of
variables-snoc [] x = refl
variables-snoc (y ∷ s) x = ap (λ (l : List ℕ). variable_of y ∷ l) (variables-snoc s x)

-- one variable more
pub variables-step : (s vs : List ℕ) (i x : ℕ) → i < length s → i < length vs → x ≡ variable_of (get_or s i 0)
    → take i vs ≡ variables_of (take i s) → take (i + 1) (set vs i x) ≡ variables_of (take (i + 1) s)
variables-step s vs i x h l e q = rw (add-one, take-suc-set vs i x l, take-suc s i 0 h, variables-snoc (take i s) (get_or s i 0), q, e)

pub variables-none : [] ≡ variables_of []
unfolding variables_of
variables-none = refl

-- two lists begin alike with one element more
pub alike_next : (a b : List ℕ) (i : ℕ) → i < length a → i < length b → take i a ≡ take i b → get_or a i 0 ≡ get_or b i 0 → take (i + 1) a ≡ take (i + 1) b
alike_next a b i la lb e q = rw (add-one, take-suc a i 0 la, take-suc b i 0 lb, e, q)
