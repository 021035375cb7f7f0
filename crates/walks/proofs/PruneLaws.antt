-- The walk along an admissible order weighs the full choices, each once: pruning loses none, and the order does not matter.
-- Assumes nothing.
use mathlib.Core.Path.{◌≡◌, refl, sym, ap, subst, ◌∙◌, fun_ext}
use mathlib.Core.Bool.{Bool, false, true≢false}
use mathlib.Core.List.{List, [], ◌∷◌}
use Prim.Native.Nat.{ℕ, ◌<◌, ◌≤◌, ◌^◌}
use native.Mathlib.Omega.{arith}
use native.Mathlib.Nat.{le_trans, mul_comm, pow-zero, pow-suc}
use lib.ListN.{length, get_or, set, length-set}
use lib.Seq.{get_or-set_same, get_or-set_other}
use Rattle.words.specs.Words.{gate}
use Rattle.walks.specs.Choices.{Sets, sum_to, variables, full_on}
use Rattle.walks.specs.Walk.{walk}
use Rattle.walks.specs.Meaning.{Every, Admissible, After, Reads}
use Rattle.walks.specs.Code.Among.{total_among, count_among}
use Rattle.walks.proofs.SumLaws.{sum-ext, sum-gate, gate-and, gate-le, sum-le, sum_both, gate-both}
use Rattle.walks.proofs.PermLaws.{total-perm, full-perm}
use Rattle.walks.proofs.OnceLaws.{Distinct, once-perm, once-distinct, below}

pub every_map : (P Q : ℕ → Type 0) → ((v : ℕ) → P v → Q v) → (vs : List ℕ) → Every P vs → Every Q vs
every_map P Q f [] h = tt
every_map P Q f (v ∷ vs) h = (f v h.0, every_map P Q f vs h.1)

pub every-both : (P Q : ℕ → Type 0) → (vs : List ℕ) → Every P vs → Every Q vs → Every (λ v. P v × Q v) vs
every-both P Q [] h k = tt
every-both P Q (v ∷ vs) h k = ((h.0, k.0), every-both P Q vs h.1 k.1)

-- a condition that no summed variable changes stands in front of the sums
total-gate : (m : ℕ) (p : List ℕ → Bool) (q : List ℕ → ℕ) (vs : List ℕ)
    → Every (λ w. (c : List ℕ) (x : ℕ) → p (set c w x) ≡ p c) vs
    → (c : List ℕ) → total_among m vs (λ d. gate (p d) (q d)) c ≡ gate (p c) (total_among m vs q c)
unfolding total_among
total-gate m p q [] h c = refl
total-gate m p q (v ∷ vs) h c =
    sum-ext m _ _ (λ x. total-gate m p q vs h.1 (set c v x) ∙ ap (λ (t : Bool). gate t (total_among m vs q (set c v x))) (h.0 c x))
    ∙ sum-gate m (p c) (λ x. total_among m vs q (set c v x))

module _ (m : ℕ) (s : Sets) (names : ℕ → ℕ → Bool) (law : Reads s names) where
  -- a set does not change with a variable that it does not name
  pub unread : (v w : ℕ) → names v w ≡ false → (c : List ℕ) (x y : ℕ) → s v (set c w x) y ≡ s v c y
  unread v w e c x y = law v (set c w x) c (λ u t. get_or-set_other c w u x 0 (λ q. true≢false (sym t ∙ ap (names v) q ∙ e))) y

  -- whether a variable lies in its set does not change with a later one
  settled : (v : ℕ) (vs : List ℕ) → Every (λ w. names v w ≡ false) vs → Every (λ w. w ≡ v → ⊥) vs
      → Every (λ w. (c : List ℕ) (x : ℕ) → s v (set c w x) (get_or (set c w x) v 0) ≡ s v c (get_or c v 0)) vs
  settled v vs as' ds =
      every_map _ _
      (λ w h c x. ap (s v (set c w x)) (get_or-set_other c w v x 0 (λ q. h.1 (sym q))) ∙ unread v w h.0 c x (get_or c v 0))
      vs
      (every-both _ _ vs as' ds)

  module _ (g : List ℕ → ℕ) (len : ℕ) where
    pub pruned : (vs : List ℕ) → Distinct vs → After names vs → Every (λ w. w < len) vs
        → (c : List ℕ) → length c ≡ len → walk m s g vs c ≡ total_among m vs (λ d. gate (full_on s vs d) (g d)) c
    unfolding walk total_among full_on
    pruned [] ds af bs c l = refl
    pruned (v ∷ vs) ds af bs c l =
        let p : List ℕ → Bool = λ d. s v d (get_or d v 0) in
        let q : List ℕ → ℕ = λ d. gate (full_on s vs d) (g d) in
        sum-ext m _ _ (λ x.
        ap (gate (s v c x)) (pruned vs ds.1 af.1 bs.1 (set c v x) (length-set c v x ∙ l))
        ∙ ap (λ (t : Bool). gate t (total_among m vs q (set c v x)))
        (sym (ap (s v (set c v x)) (get_or-set_same c v x 0 (subst (λ (k : ℕ). v < k) (sym l) bs.0)) ∙ unread v v af.0.0 c x x))
        ∙ sym (total-gate m p q vs (settled v vs af.0.1 ds.0) (set c v x))
        ∙ sym (ap (λ (h : List ℕ → ℕ). total_among m vs h (set c v x)) (fun_ext (λ d. gate-and (p d) (full_on s vs d) (g d)))))

    -- along every admissible order the walk's weight is that of the full choices, which knows no order
    pub walk-among : (n : ℕ) (order : List ℕ) → Admissible names n order → n ≤ len
        → (base : List ℕ) → length base ≡ len → walk m s g order base ≡ count_among m s g n base
    unfolding count_among
    walk-among n order a nl base l =
        let p = once-perm n order a.once in
        pruned order (once-distinct n order a.once) a.after
        (every_map (λ w. w < n) (λ w. w < len) (λ w h. omega arith) order (below n order (λ u. (a.once u).1))) base l
        ∙ total-perm m (λ d. gate (full_on s order d) (g d)) p base
        ∙ ap (λ (h : List ℕ → ℕ). total_among m (variables n) h base) (fun_ext (λ d. ap (λ (t : Bool). gate t (g d)) (full-perm s p d)))

-- the walk's weight is at most the number of choices, where each weighs at most 1
pub walk-bound : (m : ℕ) (s : Sets) (g : List ℕ → ℕ) → ((c : List ℕ) → g c ≤ 1)
    → (vs c : List ℕ) → walk m s g vs c ≤ m ^ length vs
unfolding walk
walk-bound m s g h [] c = subst (λ (k : ℕ). g c ≤ k) (sym (pow-zero m)) (h c)
walk-bound m s g h (v ∷ vs) c =
    subst (λ (k : ℕ). sum_to m (λ x. gate (s v c x) (walk m s g vs (set c v x))) ≤ k) (mul_comm m (m ^ length vs) ∙ sym (pow-suc m (length vs)))
    (sum-le m _ (m ^ length vs) (λ x. le_trans (gate-le (s v c x) _) (walk-bound m s g h vs (set c v x))))

-- where each choice weighs no more, the walk weighs no more: breaking is at most full
pub walk-le : (m : ℕ) (s : Sets) (g h : List ℕ → ℕ) → ((c : List ℕ) → g c ≤ h c)
    → (vs c : List ℕ) → walk m s g vs c ≤ walk m s h vs c
unfolding walk
walk-le m s g h k [] c = k c
walk-le m s g h k (v ∷ vs) c = sum_both m _ _ (λ x. gate-both (s v c x) (walk-le m s g h k vs (set c v x)))
