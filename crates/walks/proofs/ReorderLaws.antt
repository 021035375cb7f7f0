-- Two admissible orders of the same variables give equal walks, from every choice.
-- Assumes nothing.
use mathlib.Core.Path.{◌≡◌, refl, sym, ap, ap₂, subst, ◌∙◌}
use mathlib.Core.Bool.{Bool, true, false}
use mathlib.Core.List.{List, [], ◌∷◌, ◌++◌}
use Prim.Native.Nat.{ℕ, zero, suc, ◌+◌, ◌<◌}
use native.Mathlib.Decide.{ℕ_discrete}
use native.Mathlib.Omega.{arith}
use lib.ListN.{set, take, drop, take-append-drop}
use lib.Seq.{set_comm}
use Rattle.words.specs.Words.{gate}
use Rattle.walks.specs.Choices.{Sets}
use Rattle.walks.specs.Walk.{walk}
use Rattle.walks.specs.Order.{count}
use Rattle.walks.specs.Meaning.{Every, Once, After, Reads}
use Rattle.walks.proofs.SumLaws.{sum-ext, sum-swap, sum-gate}
use Rattle.walks.proofs.OnceLaws.{hit_same, hit_other, once-count}
use Rattle.walks.proofs.PruneLaws.{unread}

gate-swap : (a b : Bool) (n : ℕ) → gate a (gate b n) ≡ gate b (gate a n)
gate-swap true b n = refl
gate-swap false true n = refl
gate-swap false false n = refl

-- what holds of each member holds of one
member : (P : ℕ → Type 0) (u : ℕ) (vs : List ℕ) → Every P vs → 0 < count u vs → P u
unfolding count
member P u [] h l = absurd (omega arith)
member P u (v ∷ vs) h l = go (ℕ_discrete u v) (λ k. member P u vs h.1 k)
  where
    go : Dec (u ≡ v) → (0 < count u vs → P u) → P u
    go (yes e) ih = subst P (sym e) h.0
    go (no ne) ih = ih (omega (arith, hit_other u v ne))

every_in : (P : ℕ → Type 0) (vs : List ℕ) → ((u : ℕ) → 0 < count u vs → P u) → Every P vs
unfolding count
every_in P [] h = tt
every_in P (v ∷ vs) h = (h v (omega (arith, hit_same v v refl)), every_in P vs (λ u l. h u (omega arith)))

module _ (m : ℕ) (s : Sets) (names : ℕ → ℕ → Bool) (law : Reads s names) (g : List ℕ → ℕ) where
  -- two neighbours that do not name each other
  walk-swap : (v w : ℕ) (vs : List ℕ) → names v w ≡ false → names w v ≡ false → (v ≡ w → ⊥) → (c : List ℕ) → walk m s g (v ∷ w ∷ vs) c ≡ walk m s g (w ∷ v ∷ vs) c
  unfolding walk
  walk-swap v w vs vw wv ne c =
      let left : ℕ → ℕ → ℕ = λ x y. gate (s v c x) (gate (s w c y) (walk m s g vs (set (set c v x) w y))) in
      sum-ext m _ _ (λ x. sym (sum-gate m (s v c x) _)
      ∙ sum-ext m _ (left x) (λ y. ap (λ (t : Bool). gate (s v c x) (gate t (walk m s g vs (set (set c v x) w y)))) (unread m s names law w v wv c x y)))
      ∙ sum-swap m m left
      ∙ sum-ext m _ _ (λ y. sum-ext m _ _ (λ x.
      gate-swap (s v c x) (s w c y) _
      ∙ ap₂ (λ (t : Bool) (k : List ℕ). gate (s w c y) (gate t (walk m s g vs k))) (sym (unread m s names law v w vw c y x)) (set_comm c v w x y ne))
      ∙ sum-gate m (s w c y) _)

  -- A variable that names none of the list can be walked first.
  record Fronted (a : List ℕ) (v : ℕ) : Type 0 where
    pub rest : List ℕ
    pub counts : (u : ℕ) → count u a ≡ count u (v ∷ rest)
    pub after : After names rest
    pub walks : (c : List ℕ) → walk m s g a c ≡ walk m s g (v ∷ rest) c

  front : (v : ℕ) (a : List ℕ) → 0 < count v a → After names a → Every (λ w. names v w ≡ false) a → Fronted a v
  unfolding walk count
  front v [] l af fr = absurd (omega arith)
  front v (u ∷ a) l af fr = go (ℕ_discrete v u) (λ k. front v a k af.1 fr.1)
    where
      go : Dec (v ≡ u) → (0 < count v a → Fronted a v) → Fronted (u ∷ a) v
      go (yes e) ih = record {
        rest = a;
        counts = λ k. rw e;
        after = af.1;
        walks = λ c. rw e;
      }
      go (no ne) ih =
          let k : 0 < count v a = omega (arith, hit_other v u ne) in
          let r = ih k in
          record {
            rest = u ∷ r.rest;
            counts = λ t. omega (arith, r.counts t);
            after = ((af.0.0, every_in _ r.rest (λ t p. member _ t a af.0.1 (omega (arith, r.counts t)))), r.after);
            walks = λ c.
                sum-ext m _ _ (λ x. ap (gate (s u c x)) (r.walks (set c u x)))
                ∙ walk-swap u v r.rest (member _ v a af.0.1 k) fr.0 (λ q. ne (sym q)) c;
          }

  -- THE LAW of orders.
  pub walk-reorder : (b a : List ℕ) → After names a → After names b → ((u : ℕ) → count u a ≡ count u b) → (c : List ℕ) → walk m s g a c ≡ walk m s g b c
  unfolding walk count
  walk-reorder [] [] af bf h c = refl
  walk-reorder [] (v ∷ a) af bf h c = absurd (omega (arith, h v, hit_same v v refl))
  walk-reorder (v ∷ b) a af bf h c =
      let r = front v a (omega (arith, h v, hit_same v v refl)) af (every_in _ a (λ u l. member _ u (v ∷ b) bf.0 (omega (arith, h u)))) in
      r.walks c
      ∙ sum-ext m _ _ (λ x. ap (gate (s v c x)) (walk-reorder b r.rest r.after bf.1 (λ u. omega (arith, h u, r.counts u)) (set c v x)))

-- Two orders of n variables that begin alike go on with the same variables.
count-append : (u : ℕ) (a b : List ℕ) → count u (a ++ b) ≡ count u a + count u b
unfolding count
count-append u [] b = omega arith
count-append u (v ∷ a) b = omega (arith, count-append u a b)

pub rest-counts : (n d : ℕ) (a b : List ℕ) → Once n a → Once n b → take d a ≡ take d b → (u : ℕ) → count u (drop d a) ≡ count u (drop d b)
rest-counts n d a b oa ob e u =
    omega (
      arith,
      once-count n a oa u,
      once-count n b ob u,
      count-append u (take d a) (drop d a),
      count-append u (take d b) (drop d b),
      ap (count u) (take-append-drop d a),
      ap (count u) (take-append-drop d b),
      ap (count u) e,
    )

pub after-drop : (names : ℕ → ℕ → Bool) (vs : List ℕ) → After names vs → (d : ℕ) → After names (drop d vs)
after-drop names vs h zero = h
after-drop names [] h (suc d) = tt
after-drop names (v ∷ vs) h (suc d) = after-drop names vs h.1 d
