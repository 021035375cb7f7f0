-- Two choices that agree at the context have equal walks below.
-- Assumes nothing.
use mathlib.Core.Path.{◌≡◌, refl, sym, ap, ap₂, ◌∙◌}
use mathlib.Core.Bool.{Bool, true, false, not, ◌&&◌, ◌||◌}
use mathlib.Core.List.{List, [], ◌∷◌}
use Prim.Native.Nat.{ℕ, zero, suc, ◌+◌, ◌-◌, ◌^◌, ◌<◌, ◌≤◌}
use native.Mathlib.Decide.{ℕ_discrete, dec_lt}
use native.Mathlib.Omega.{arith}
use lib.ListN.{length, get_or, set, drop, length-set, length-drop, get_or-eq_default}
use lib.Seq.{get_or-set_same, get_or-set_other, get_or-drop}
use Rattle.words.specs.Words.{gate, has, join_of}
use Rattle.words.proofs.WordsLaws.{any-ext, has_in, has_join}
use Rattle.walks.specs.Choices.{Sets, each}
use Rattle.walks.specs.Walk.{walk}
use Rattle.walks.specs.Order.{count}
use Rattle.walks.specs.Meaning.{Every, After, Reads}
use Rattle.walks.specs.Code.Clauses.{Clauses, false_to, false_in, level_from, weight_of}
use Rattle.walks.specs.Code.Context.{Alike, Covers, open_in, Context}
use Rattle.walks.proofs.SumLaws.{sum-ext}
use Rattle.walks.proofs.OnceLaws.{hit_other, absent-back}
use Rattle.walks.proofs.PruneLaws.{every_map}
use Rattle.walks.proofs.ClauseLaws.{every-at}
use Rattle.words.proofs.LoopLaws.{or_right}

-- two lists of one length are equal where the same is put
put_same : (a b : List ℕ) → length a ≡ length b → (v x : ℕ) → get_or (set a v x) v 0 ≡ get_or (set b v x) v 0
put_same a b e v x = go (dec_lt v (length a))
  where
    go : Dec (v < length a) → get_or (set a v x) v 0 ≡ get_or (set b v x) v 0
    go (yes l) = get_or-set_same a v x 0 l ∙ sym (get_or-set_same b v x 0 (omega arith))
    go (no l) =
        let la : length (set a v x) ≤ v = omega (arith, length-set a v x) in
        let lb : length (set b v x) ≤ v = omega (arith, length-set b v x) in
        get_or-eq_default (set a v x) 0 la ∙ sym (get_or-eq_default (set b v x) 0 lb)

-- R has what is read below: by the sets of the variables left, and by the weight.
module _ (m : ℕ) (s : Sets) (names : ℕ → ℕ → Bool) (law : Reads s names) (g : List ℕ → ℕ) (R : ℕ → Type 0)
    (weighs : (a b : List ℕ) → ((u : ℕ) → R u → get_or a u 0 ≡ get_or b u 0) → g a ≡ g b) where
  abbrev Agree : List ℕ → List ℕ → List ℕ → Type 0
  Agree vs a b = (u : ℕ) → R u → count u vs ≡ 0 → get_or a u 0 ≡ get_or b u 0

  agree-put : (v : ℕ) (vs a b : List ℕ) → length a ≡ length b → Agree (v ∷ vs) a b → (x : ℕ) → Agree vs (set a v x) (set b v x)
  unfolding count
  agree-put v vs a b e h x u r z = go (ℕ_discrete u v)
    where
      go : Dec (u ≡ v) → get_or (set a v x) u 0 ≡ get_or (set b v x) u 0
      go (yes q) = rw q (put_same a b e v x)
      go (no q) = get_or-set_other a v u x 0 q ∙ h u r (omega (arith, hit_other u v q)) ∙ sym (get_or-set_other b v u x 0 q)

  -- v's set names none of v ∷ vs, so what it names stands outside
  outside : (v u : ℕ) (vs : List ℕ) → Every (λ w. names v w ≡ false) vs → names v u ≡ true → count u vs ≡ 0
  outside v u vs af t = absent-back u vs (every_map _ _ (λ w e q. clash (sym t ∙ ap (names v) (sym q) ∙ e)) vs af)
    where
      clash : ◌≡◌ {A = Bool} true false → ⊥
      clash q = let z : ◌≡◌ {A = ℕ} 0 1 = cc in omega arith

  pub walk-alike : (vs : List ℕ) → After names vs → Every (λ v. (u : ℕ) → names v u ≡ true → R u) vs
      → (a b : List ℕ) → length a ≡ length b → Agree vs a b → walk m s g vs a ≡ walk m s g vs b
  unfolding walk count
  walk-alike [] af rs a b e h = weighs a b (λ u r. h u r refl)
  walk-alike (v ∷ vs) af rs a b e h =
      sum-ext m _ _ (λ x. ap₂ gate (law v a b (λ u t. h u (rs.0 u t) (outside v u (v ∷ vs) af.0 t)) x)
      (walk-alike vs af.1 rs.1 (set a v x) (set b v x) (length-set a v x ∙ e ∙ sym (length-set b v x)) (agree-put v vs a b e h x)))

-- the clauses that are picked, read at what they name
false-alike : (K : Clauses) (pick : ℕ → Bool) (a b : List ℕ)
    → ((i : ℕ) → i < K.many → pick i ≡ true → (u : ℕ) → K.named i u ≡ true → get_or a u 0 ≡ get_or b u 0) → false_in K pick a ≡ false_in K pick b
unfolding false_in false_to
false-alike K pick a b h = any-ext K.many _ _ (λ i l. go i l (pick i) refl)
  where
    go : (i : ℕ) → i < K.many → (t : Bool) → pick i ≡ t → (t && not (K.holds i a)) ≡ (t && not (K.holds i b))
    go i l true e = ap not (K.reads i l a b (h i l e))
    go i l false e = refl

module _ (m : ℕ) (s : Sets) (names : ℕ → ℕ → Bool) (law : Reads s names) (K : Clauses) (levels : List ℕ) (vs : List ℕ) (after : After names vs) (word : ℕ) where
  -- THE LAW of contexts, for the two counts.
  pub full-alike : {pick : ℕ → Bool} → Context names K pick vs word → (a b : List ℕ) → length a ≡ length b → Alike word a b
      → walk m s each vs a ≡ walk m s each vs b
  full-alike x a b e h =
      walk-alike m s names law each (λ u. count u vs ≡ 0 → has word u ≡ true) (λ k l r. refl) vs after x.sets a b e (λ u r z. h u (r z))

  pub weight-alike : (mode e : ℕ) → Context names K (open_in levels mode e) vs word → (a b : List ℕ) → length a ≡ length b → Alike word a b
      → walk m s (weight_of K levels mode e) vs a ≡ walk m s (weight_of K levels mode e) vs b
  unfolding weight_of
  weight-alike zero e x a b l h = full-alike x a b l h
  weight-alike (suc mode) e x a b l h =
      walk-alike m s names law (weight_of K levels (suc mode) e) (λ u. count u vs ≡ 0 → has word u ≡ true)
      (λ p q r. ap (λ (t : Bool). gate t 1) (false-alike K (level_from levels e) p q (λ i k o u n. r u (x.clauses i k o u n))))
      vs after x.sets a b l (λ u r z. h u (r z))

-- ---- a context is joined from words

module _ (a b : ℕ) (f : ℕ → Bool) where
  pub covers-left : a < 2 ^ 64 → Covers a f → Covers (join_of a b) f
  covers-left l h u e = has_join a b u (has_in a 64 u l (h u e)) ∙ ap (λ (t : Bool). t || has b u) (h u e)

  pub covers-right : b < 2 ^ 64 → Covers b f → Covers (join_of a b) f
  covers-right l h u e = has_join a b u (has_in b 64 u l (h u e)) ∙ or_right (has a u) (has b u) (h u e)

-- it has what each variable from that place on, and each clause that is picked, names
pub context-from : (names : ℕ → ℕ → Bool) (K : Clauses) (pick : ℕ → Bool) (order : List ℕ) (d word : ℕ)
    → ((j : ℕ) → d ≤ j → j < length order → Covers word (names (get_or order j 0)))
    → ((i : ℕ) → i < K.many → pick i ≡ true → Covers word (K.named i)) → Context names K pick (drop d order) word
context-from names K pick order d word p q = record {
  sets = every-at _ (drop d order) (λ j l u e z.
      let short : j < length order - d = rw (length-drop d order) at l in
      p (d + j) (omega arith) (omega arith) u (rw (get_or-drop d order j 0) at e));
  clauses = λ i l o u e z. q i l o u e;
}
