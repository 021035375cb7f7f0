-- The first breaking choice that the walk meets: it is there exactly where the count is above 0, and it is the least one along the order.
-- Assumes nothing.
use mathlib.Core.Path.{◌≡◌, refl, sym, ap, ap₂, subst, ◌∙◌}
use mathlib.Core.Bool.{Bool, true, false, ◌&&◌, ◌||◌, true≢false}
use mathlib.Core.Logic.{◌⊎◌, inl, inr}
use mathlib.Core.List.{List, [], ◌∷◌}
use mathlib.Core.Option.{Option, none, some}
use Prim.Native.Nat.{ℕ, zero, suc, ◌+◌, ◌<◌, ◌≤◌}
use native.Mathlib.Omega.{arith}
use native.Mathlib.Nat.{zero-add}
use native.Mathlib.Decide.{ℕ_discrete, dec_lt}
use lib.Dec.{ltb}
use lib.ListN.{length, get_or, set, length-set}
use lib.Seq.{get_or-set_same, get_or-set_other, ext_get_or}
use borrow.Author.Tests.{lt-ltb}
use Rattle.words.specs.Words.{gate}
use Rattle.walks.specs.Choices.{Items, Sets, sum_to, variables, full_on, count_full}
use Rattle.walks.specs.Walk.{walk, or_else, gate_o, first_to, walk_first}
use Rattle.walks.specs.Order.{count}
use Rattle.walks.specs.Meaning.{Every, Once, Admissible, After, Reads, NoLater, Choice, FirstBreaking, there}
use Rattle.walks.specs.Code.Among.{ChoiceAmong, Within}
use Rattle.walks.proofs.PermLaws.{Perm, none as pnone, keep, swap, then, full-perm}
use Rattle.walks.proofs.OnceLaws.{Distinct, hit_same, hit_other, absent-back, count-variables, once-perm, once-count, once-distinct, below, perm-sym}
use Rattle.walks.proofs.PruneLaws.{every_map}
use Rattle.walks.proofs.AmongLaws.{full-own, walk-counts}
use Rattle.words.proofs.WordsLaws.{and-true}

above-add : (p q : ℕ) → ltb 0 (p + q) ≡ (ltb 0 p || ltb 0 q)
above-add zero q = ap (ltb 0) (zero-add q)
above-add (suc p) q = lt-ltb 0 (suc p + q) (omega arith) ∙ sym (ap (λ (b : Bool). b || ltb 0 q) (lt-ltb 0 (suc p) (omega arith)))

there-else : (a b : Option (List ℕ)) → there (or_else a b) ≡ (there a || there b)
there-else none b = refl
there-else (some a) b = refl

pub there-first : (m : ℕ) (f : ℕ → Option (List ℕ)) (h : ℕ → ℕ) → ((x : ℕ) → there (f x) ≡ ltb 0 (h x)) → there (first_to m f) ≡ ltb 0 (sum_to m h)
unfolding first_to sum_to
there-first zero f h e = refl
there-first (suc m) f h e =
    there-else (first_to m f) (f m) ∙ ap₂ (λ (a b : Bool). a || b) (there-first m f h e) (e m) ∙ sym (above-add (sum_to m h) (h m))

there-leaf : (t : Bool) (c : List ℕ) → there (gate_o t (some c)) ≡ ltb 0 (gate t 1)
there-leaf true c = refl
there-leaf false c = refl

pub there-gate : (t : Bool) (o : Option (List ℕ)) (n : ℕ) → there o ≡ ltb 0 n → there (gate_o t o) ≡ ltb 0 (gate t n)
there-gate true o n e = e
there-gate false o n e = refl

-- a first breaking choice is there exactly where their number is above 0
pub there-walk : (m : ℕ) (s : Sets) (b : List ℕ → Bool) (vs c : List ℕ)
    → there (walk_first m s b vs c) ≡ ltb 0 (walk m s (λ d. gate (b d) 1) vs c)
unfolding walk_first walk
there-walk m s b [] c = there-leaf (b c) c
there-walk m s b (v ∷ vs) c =
    there-first m _ _ (λ x. there-gate (s v c x) _ _ (there-walk m s b vs (set c v x)))

gate_o-some : (t : Bool) (o : Option (List ℕ)) (d : List ℕ) → gate_o t o ≡ some d → (t ≡ true) × (o ≡ some d)
gate_o-some true o d e = (refl, e)
gate_o-some false o d e = let z : ◌≡◌ {A = ℕ} 0 1 = cc in absurd (omega arith)

first_some : (m : ℕ) (f : ℕ → Option (List ℕ)) (d : List ℕ) → first_to m f ≡ some d → (x : ℕ) × (x < m) × (f x ≡ some d)
unfolding first_to
first_some zero f d e = let z : ◌≡◌ {A = ℕ} 0 1 = cc in absurd (omega arith)
first_some (suc m) f d e = go (first_to m f) refl e (first_some m f d)
  where
    go : (o : Option (List ℕ)) → first_to m f ≡ o → or_else o (f m) ≡ some d → (first_to m f ≡ some d → (x : ℕ) × (x < m) × (f x ≡ some d)) → (x : ℕ) × (x < suc m) × (f x ≡ some d)
    go none q h ih = (m, omega arith, h)
    go (some a) q h ih = let r = ih (q ∙ h) in (r.0, omega (arith, r.1), r.2)

-- where f has something at x, the first is that or an earlier one
abbrev Hit : ℕ → (ℕ → Option (List ℕ)) → ℕ → List ℕ → Type 0
Hit m f x a = (e : List ℕ) × (first_to m f ≡ some e) × ((e ≡ a) ⊎ ((y : ℕ) × (y < x) × (f y ≡ some e)))

first-hit : (m : ℕ) (f : ℕ → Option (List ℕ)) (x : ℕ) (a : List ℕ) → x < m → f x ≡ some a → Hit m f x a
unfolding first_to
first-hit zero f x a l h = absurd (omega arith)
first-hit (suc m) f x a l h = go (dec_lt x m) (λ k. first-hit m f x a k h)
  where
    last : (o : Option (List ℕ)) → first_to m f ≡ o → x ≡ m → Hit (suc m) f x a
    last none q e = (a, ap (λ (t : Option (List ℕ)). or_else t (f m)) q ∙ ap f (sym e) ∙ h, inl refl)
    last (some b) q e =
        let r = first_some m f b q in
        (b, ap (λ (t : Option (List ℕ)). or_else t (f m)) q, inr (r.0, omega (arith, r.1), r.2))

    go : Dec (x < m) → (x < m → Hit m f x a) → Hit (suc m) f x a
    go (yes k) ih = let r = ih k in (r.0, ap (λ (t : Option (List ℕ)). or_else t (f m)) r.1, r.2)
    go (no k) ih = last (first_to m f) refl (omega arith)

and_both : (a b : Bool) → a ≡ true → b ≡ true → (a && b) ≡ true
and_both a b p q = ap₂ (λ (x y : Bool). x && y) p q

-- a whole choice d that agrees with c outside v ∷ vs agrees outside vs with c that has d's item at v
after-set : (v : ℕ) (vs c d : List ℕ) → v < length c → ((u : ℕ) → count u (v ∷ vs) ≡ 0 → get_or d u 0 ≡ get_or c u 0)
    → (u : ℕ) → count u vs ≡ 0 → Dec (u ≡ v) → get_or d u 0 ≡ get_or (set c v (get_or d v 0)) u 0
unfolding count
after-set v vs c d l r u h (yes e) =
    subst (λ (k : ℕ). get_or d k 0 ≡ get_or (set c v (get_or d v 0)) k 0) (sym e) (sym (get_or-set_same c v (get_or d v 0) 0 l))
after-set v vs c d l r u h (no ne) = r u (omega (arith, hit_other u v ne)) ∙ sym (get_or-set_other c v u (get_or d v 0) 0 ne)

nearer : (v : ℕ) (vs d e a : List ℕ) (F : ℕ → Type 0) → get_or a v 0 ≡ get_or d v 0 → NoLater vs a d
    → ((y : ℕ) → F y → get_or e v 0 ≡ y) → (e ≡ a) ⊎ ((y : ℕ) × (y < get_or d v 0) × F y) → NoLater (v ∷ vs) e d
nearer v vs d e a F p q r (inl t) = inr (ap (λ (k : List ℕ). get_or k v 0) t ∙ p, subst (λ (k : List ℕ). NoLater vs k d) (sym t) q)
nearer v vs d e a F p q r (inr t) = inl (subst (λ (k : ℕ). k < get_or d v 0) (sym (r t.0 t.2)) t.1)

module _ (m : ℕ) (s : Sets) (names : ℕ → ℕ → Bool) (law : Reads s names) (b : List ℕ → Bool) (len : ℕ) where
  -- the set of the next variable is the same under the choice so far and under a whole one
  agree : (v : ℕ) (vs c d : List ℕ) → Every (λ w. names v w ≡ false) vs → ((u : ℕ) → count u vs ≡ 0 → get_or d u 0 ≡ get_or c u 0)
      → (x : ℕ) → s v d x ≡ s v c x
  agree v vs c d af r x =
      law v d c (λ u t. r u (absent-back u vs (every_map _ _ (λ w e q. true≢false (sym t ∙ ap (names v) (sym q) ∙ e)) vs af))) x

  abbrev Good : List ℕ → List ℕ → List ℕ → Type 0
  Good vs c d = ChoiceAmong m vs c d × (full_on s vs d ≡ true) × (b d ≡ true)

  gate_o-leaf : (t : Bool) (c d : List ℕ) → gate_o t (some c) ≡ some d → (t ≡ true) × (c ≡ d)
  gate_o-leaf t c d e = let r = gate_o-some t (some c) d e in let p : some c ≡ some d = r.1 in (r.0, cc)

  -- what the walk finds is a choice, full and breaking
  pub found-good : (vs : List ℕ) → Distinct vs → After names vs → Every (λ w. w < len) vs → (c d : List ℕ) → length c ≡ len
      → walk_first m s b vs c ≡ some d → Good vs c d
  unfolding walk_first full_on count
  found-good [] ds af bs c d l e =
      let r = gate_o-leaf (b c) c d e in
      (record { long = ap length (sym r.1); items = tt; rest = λ u h. ap (λ (k : List ℕ). get_or k u 0) (sym r.1) }, refl, ap b (sym r.1) ∙ r.0)
  found-good (v ∷ vs) ds af bs c d l e =
      let r = first_some m _ d e in
      let x : ℕ = r.0 in
      let q = gate_o-some (s v c x) (walk_first m s b vs (set c v x)) d r.2 in
      let ih = found-good vs ds.1 af.1 bs.1 (set c v x) d (length-set c v x ∙ l) q.1 in
      let here : get_or d v 0 ≡ x = ih.0.rest v (absent-back v vs ds.0) ∙ get_or-set_same c v x 0 (subst (λ (k : ℕ). v < k) (sym l) bs.0) in
      let rest' : (u : ℕ) → count u (v ∷ vs) ≡ 0 → get_or d u 0 ≡ get_or c u 0 =
      λ u h. ih.0.rest u (omega arith) ∙ get_or-set_other c v u x 0 (λ w. omega (arith, hit_same u v w)) in (
        record { long = ih.0.long ∙ length-set c v x; items = (subst (λ (k : ℕ). k < m) (sym here) r.1, ih.0.items); rest = rest' },
        and_both _ _ (agree v (v ∷ vs) c d af.0 rest' (get_or d v 0) ∙ ap (s v c) here ∙ q.0) ih.1,
        ih.2,
      )

  -- and nothing that is a choice, full and breaking, comes earlier
  pub found-least : (vs : List ℕ) → Distinct vs → After names vs → Every (λ w. w < len) vs → (c d : List ℕ) → length c ≡ len
      → Good vs c d → (e : List ℕ) × (walk_first m s b vs c ≡ some e) × NoLater vs e d
  unfolding walk_first full_on count
  found-least [] ds af bs c d l g =
      let same : d ≡ c = ext_get_or 0 d c g.0.long (λ i h. g.0.rest i refl) in
      (c, ap (λ (t : Bool). gate_o t (some c)) (ap b (sym same) ∙ g.2), tt)
  found-least (v ∷ vs) ds af bs c d l g =
      let x : ℕ = get_or d v 0 in
      let inside : s v c x ≡ true = sym (agree v (v ∷ vs) c d af.0 g.0.rest x) ∙ (and-true (s v d x) (full_on s vs d) g.1).0 in
      let below' : v < length c = subst (λ (k : ℕ). v < k) (sym l) bs.0 in
      let next : ChoiceAmong m vs (set c v x) d =
      record {
        long = g.0.long ∙ sym (length-set c v x);
        items = g.0.items.1;
        rest = λ u h. after-set v vs c d below' g.0.rest u h (ℕ_discrete u v);
      } in
      let ih = found-least vs ds.1 af.1 bs.1 (set c v x) d (length-set c v x ∙ l) (next, (and-true (s v d x) (full_on s vs d) g.1).1, g.2) in
      let f : ℕ → Option (List ℕ) = λ y. gate_o (s v c y) (walk_first m s b vs (set c v y)) in
      let hit = first-hit m f x ih.0 g.0.items.0 (ap (λ (t : Bool). gate_o t (walk_first m s b vs (set c v x))) inside ∙ ih.1) in
      -- what the walk finds below the item y has y at v
      let at-v : (y : ℕ) (e : List ℕ) → walk_first m s b vs (set c v y) ≡ some e → get_or e v 0 ≡ y =
      λ y e h. (found-good vs ds.1 af.1 bs.1 (set c v y) e (length-set c v y ∙ l) h).0.rest v (absent-back v vs ds.0) ∙ get_or-set_same c v y 0 below' in (
        hit.0,
        hit.1,
        nearer v vs d hit.0 ih.0 (λ y. f y ≡ some hit.0) (at-v x ih.0 ih.1) ih.2
            (λ y h. at-v y hit.0 (gate_o-some (s v c y) (walk_first m s b vs (set c v y)) hit.0 h).1)
            hit.2,
      )

every-perm : (P : ℕ → Type 0) {a b : List ℕ} → Perm a b → Every P a → Every P b
every-perm P pnone h = h
every-perm P (keep v p) h = (h.0, every-perm P p h.1)
every-perm P (swap v w a) h = (h.1.0, (h.0, h.1.1))
every-perm P (then p q) h = every-perm P q (every-perm P p h)

some_inj : (a b : List ℕ) → some a ≡ some b → a ≡ b
some_inj a b p = cc

module _ (items : Items) (n : ℕ) (s : Sets) (w : Within items s n) (names : ℕ → ℕ → Bool) (law : Reads s names) (b : List ℕ → Bool)
    (order base : List ℕ) (a : Admissible names n order) (fits : n ≤ length base) where
  -- THE THEOREM on the first breaking choice, in two parts
  pub first-there : there (walk_first 64 s b order base) ≡ ltb 0 (count_full items s (λ d. gate (b d) 1) n base)
  first-there = there-walk 64 s b order base ∙ ap (ltb 0) (walk-counts items s n w (λ d. gate (b d) 1) base fits names law order a)

  -- a choice of items of the variables is one among the 64 items of a word
  among : (c : List ℕ) → Choice items (variables n) base c → ChoiceAmong 64 order base c
  among c h = record {
    long = h.long;
    items = every-perm _ (perm-sym (once-perm n order a.once)) (every_map _ _ (λ v q. w.few v (get_or c v 0) q) (variables n) h.chosen);
    rest = λ u z. h.rest u (sym (once-count n order a.once u) ∙ z);
  }

  pub first-breaking : (d : List ℕ) → walk_first 64 s b order base ≡ some d → FirstBreaking items n s b order base d
  first-breaking d e =
      let ds = once-distinct n order a.once in
      let bs = every_map (λ w. w < n) (λ w. w < length base) (λ w h. omega arith) order (below n order (λ u. (a.once u).1)) in
      let p = once-perm n order a.once in
      let g = found-good 64 s names law b (length base) order ds a.after bs base d refl e in
      let full' : full_on s (variables n) d ≡ true = sym (full-perm s p d) ∙ g.1 in
      record {
        choice = record {
          long = g.0.long;
          chosen = full-own items s n w d full';
          rest = λ u z. g.0.rest u (once-count n order a.once u ∙ z);
        };
        full = full';
        breaks = g.2;
        least = λ k ck fk bk.
            let r = found-least 64 s names law b (length base) order ds a.after bs base k refl (among k ck, full-perm s p k ∙ fk, bk) in
            subst (λ (t : List ℕ). NoLater order t k) (some_inj r.0 d (sym r.1 ∙ e)) r.2;
      }

-- choices of which neither comes later have the same items at each variable of the order
same-items : (vs d e : List ℕ) → NoLater vs d e → NoLater vs e d → Every (λ v. get_or d v 0 ≡ get_or e v 0) vs
same-items [] d e p q = tt
same-items (v ∷ vs) d e (inl l) (inl k) = absurd (omega arith)
same-items (v ∷ vs) d e (inl l) (inr k) = absurd (omega (arith, k.0))
same-items (v ∷ vs) d e (inr l) (inl k) = absurd (omega (arith, l.0))
same-items (v ∷ vs) d e (inr l) (inr k) = (l.0, same-items vs d e l.1 k.1)

every-member : (P : ℕ → Type 0) (vs : List ℕ) → Every P vs → (u : ℕ) → 0 < count u vs → P u
unfolding count
every-member P [] h u l = absurd (omega arith)
every-member P (v ∷ vs) h u l = go (ℕ_discrete u v) (every-member P vs h.1 u)
  where
    go : Dec (u ≡ v) → (0 < count u vs → P u) → P u
    go (yes e) ih = subst P (sym e) h.0
    go (no ne) ih = ih (omega (arith, hit_other u v ne))

-- there is one first breaking choice only
pub first_one : {items : Items} {n : ℕ} {s : Sets} {b : List ℕ → Bool} {order base d e : List ℕ} → Once n order
    → FirstBreaking items n s b order base d → FirstBreaking items n s b order base e → d ≡ e
first_one {n = n} {order = order} {d = d} {e = e} o p q = ext_get_or 0 d e (p.choice.long ∙ sym q.choice.long) (λ u l. go u (dec_lt u n))
  where
    same : Every (λ v. get_or d v 0 ≡ get_or e v 0) order
    same = same-items order d e (p.least e q.choice q.full q.breaks) (q.least d p.choice p.full p.breaks)

    go : (u : ℕ) → Dec (u < n) → get_or d u 0 ≡ get_or e u 0
    go u (yes l) = every-member _ order same u (omega (arith, (o u).0 l))
    go u (no l) = let z = (count-variables n u).1 (omega arith) in p.choice.rest u z ∙ sym (q.choice.rest u z)
