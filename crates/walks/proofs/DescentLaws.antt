-- The first breaking choice by descent: variable by variable the least item below which something breaks.
-- Assumes nothing.
use mathlib.Core.Path.{◌≡◌, refl, sym, ap, ◌∙◌}
use mathlib.Core.Bool.{Bool, true, false, true≢false}
use mathlib.Core.List.{List, ◌∷◌}
use mathlib.Core.Option.{Option, none, some}
use Prim.Native.Nat.{ℕ, zero, suc, ◌+◌, ◌<◌, ◌≤◌}
use native.Mathlib.Decide.{ℕ_discrete}
use native.Mathlib.Omega.{arith}
use lib.Dec.{ltb}
use lib.ListN.{length, get_or, set, take, drop, drop_of_length-le}
use lib.Seq.{get_or-take}
use borrow.Author.Tests.{lt-ltb}
use Rattle.words.specs.Words.{gate, has}
use Rattle.walks.specs.Choices.{Sets, if_breaks}
use Rattle.walks.specs.Walk.{walk, or_else, gate_o, first_to, walk_first}
use Rattle.walks.specs.Meaning.{Once, After, Reads, there}
use Rattle.walks.specs.Code.Summed.{Least}
use Rattle.walks.specs.Code.Turning.{below_at, Descending}
use Rattle.walks.proofs.FirstLaws.{there-walk}
use Rattle.walks.proofs.OrderLaws.{at}
use Rattle.walks.proofs.SummedLaws.{least-ext}
use Rattle.walks.proofs.ReorderLaws.{walk-reorder, rest-counts, after-drop}

not_there : (o : Option (List ℕ)) → there o ≡ false → o ≡ none
not_there none e = refl
not_there (some a) e = absurd (true≢false e)

else-there : (a b : Option (List ℕ)) → there a ≡ true → or_else a b ≡ a
else-there none b e = absurd (true≢false (sym e))
else-there (some a) b e = refl

first-no : (n : ℕ) (f : ℕ → Option (List ℕ)) → ((y : ℕ) → y < n → f y ≡ none) → first_to n f ≡ none
unfolding first_to
first-no zero f h = refl
first-no (suc n) f h = rw (first-no n f (λ y l. h y (omega arith))) (h n (omega arith))

-- the first that is there
first-at : (n : ℕ) (f : ℕ → Option (List ℕ)) (x : ℕ) → x < n → ((y : ℕ) → y < x → f y ≡ none) → there (f x) ≡ true → first_to n f ≡ f x
unfolding first_to
first-at zero f x l h t = absurd (omega arith)
first-at (suc n) f x l h t = go (ℕ_discrete n x) (λ k. first-at n f x k h t)
  where
    go : Dec (n ≡ x) → (x < n → first_to n f ≡ f x) → or_else (first_to n f) (f n) ≡ f x
    go (yes e) ih = rw (first-no n f (λ y k. h y (omega arith))) (ap f e)
    go (no ne) ih = ap (λ (o : Option (List ℕ)). or_else o (f n)) (ih (omega arith)) ∙ else-there (f x) (f n) t

-- a count of 0 says that there is none, and the other way round
pub none-breaks : (m : ℕ) (s : Sets) (b : List ℕ → Bool) (vs c : List ℕ) → walk m s (if_breaks b) vs c ≡ 0 → walk_first m s b vs c ≡ none
none-breaks m s b vs c z = not_there _ (there-walk m s b vs c ∙ ap (ltb 0) z)

pub some-breaks : (m : ℕ) (s : Sets) (b : List ℕ → Bool) (vs c : List ℕ) → 0 < walk m s (if_breaks b) vs c → there (walk_first m s b vs c) ≡ true
some-breaks m s b vs c l = there-walk m s b vs c ∙ lt-ltb 0 _ l

module _ (s : Sets) (b : List ℕ → Bool) where
  -- one turn: the least item of v's set below which something breaks is that of the first breaking choice
  pub least_first : (v w : ℕ) (vs c : List ℕ) → ((x : ℕ) → s v c x ≡ has w x) → (x : ℕ) → Least w (λ y. walk 64 s (if_breaks b) vs (set c v y)) x
      → walk_first 64 s b (v ∷ vs) c ≡ walk_first 64 s b vs (set c v x)
  unfolding walk_first
  least_first v w vs c e x p =
      let f : ℕ → Option (List ℕ) = λ y. gate_o (s v c y) (walk_first 64 s b vs (set c v y)) in
      let here : f x ≡ walk_first 64 s b vs (set c v x) = ap (λ (t : Bool). gate_o t (walk_first 64 s b vs (set c v x))) (e x ∙ p.inside) in
      first-at 64 f x p.item (λ y l. past y l (has w y) refl) (ap there here ∙ some-breaks 64 s b vs (set c v x) p.counts) ∙ here
    where
      past : (y : ℕ) → y < x → (t : Bool) → has w y ≡ t → gate_o (s v c y) (walk_first 64 s b vs (set c v y)) ≡ none
      past y l true q = ap (λ (t : Bool). gate_o t (walk_first 64 s b vs (set c v y))) (e y ∙ q) ∙ none-breaks 64 s b vs (set c v y) (p.before y l q)
      past y l false q = ap (λ (t : Bool). gate_o t (walk_first 64 s b vs (set c v y))) (e y ∙ q)

  -- at the end of the order the choice itself breaks
  pub first-end : (d : ℕ) (order c : List ℕ) → length order ≤ d → 0 < walk 64 s (if_breaks b) (drop d order) c → walk_first 64 s b (drop d order) c ≡ some c
  unfolding walk walk_first
  first-end d order c l h = rw (drop_of_length-le order l) (go (b c) (rw (drop_of_length-le order l) at h))
    where
      go : (t : Bool) → 0 < gate t 1 → gate_o t (some c) ≡ some c
      go true k = refl
      go false k = absurd (omega arith)

module _ (s : Sets) (names : ℕ → ℕ → Bool) (law : Reads s names) (b : List ℕ → Bool) (n : ℕ) (order : List ℕ) (once : Once n order) (after : After names order) where
  module _ (base : List ℕ) where
    -- THE LAW of descent: below, the others may be counted along any admissible order that begins as the caller's does.
    pub descending-step : (own : List ℕ) → Once n own → After names own → (d : ℕ) → d < length order → take (d + 1) own ≡ take (d + 1) order
        → (w : ℕ) (c : List ℕ) → ((x : ℕ) → s (get_or order d 0) c x ≡ has w x) → (x : ℕ) → Least w (below_at s (if_breaks b) own d c) x
        → Descending s b order base d c → Descending s b order base (d + 1) (set c (get_or order d 0) x)
    descending-step own once' after' d l e w c q x p h =
        let v : get_or own d 0 ≡ get_or order d 0 =
        sym (get_or-take (d + 1) own d 0 (omega arith)) ∙ ap (λ (k : List ℕ). get_or k d 0) e ∙ get_or-take (d + 1) order d 0 (omega arith) in
        let same : (y : ℕ) → below_at s (if_breaks b) own d c y ≡ below_at s (if_breaks b) order d c y =
        λ y. walk-reorder 64 s names law (if_breaks b) (drop (d + 1) order) (drop (d + 1) own) (after-drop names own after' (d + 1)) (after-drop names order after (d + 1))
        (rest-counts n (d + 1) own order once' once e) (set c (get_or own d 0) y) ∙ ap (λ (k : ℕ). walk 64 s (if_breaks b) (drop (d + 1) order) (set c k y)) v in
        let here = least-ext w _ _ same x p in
        record {
          first = h.first ∙ rw (at order d l) (least_first s b (get_or order d 0) w (drop (d + 1) order) c q x here);
          some = here.counts;
        }

    pub descending-end : (d : ℕ) (c : List ℕ) → length order ≤ d → Descending s b order base d c → walk_first 64 s b order base ≡ some c
    descending-end d c l h = h.first ∙ first-end s b d order c l h.some

  -- the same count along an order of our own, from a choice of the variables in which both begin
  pub own-counts : (g : List ℕ → ℕ) (own : List ℕ) → Once n own → After names own → (d : ℕ) → take d own ≡ take d order
      → (c : List ℕ) → walk 64 s g (drop d own) c ≡ walk 64 s g (drop d order) c
  own-counts g own once' after' d e c =
      walk-reorder 64 s names law g (drop d order) (drop d own) (after-drop names own after' d) (after-drop names order after d) (rest-counts n d own order once' once e) c
