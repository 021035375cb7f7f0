-- Clauses settled level by level: what a choice weighs does not change where one level more is looked at.
-- Assumes nothing.
use mathlib.Core.Path.{◌≡◌, refl, sym, ap, ap₂, ◌∙◌}
use mathlib.Core.Bool.{Bool, true, false, not, ◌&&◌, ◌||◌, true≢false, or-false}
use mathlib.Core.List.{List, [], ◌∷◌}
use Prim.Native.Nat.{ℕ, zero, suc, ◌+◌, ◌-◌, ◌<◌, ◌≤◌}
use native.Mathlib.Numerals.{add-one}
use native.Mathlib.Omega.{arith}
use lib.Dec.{eqb, leb, ltb}
use lib.ListN.{length, get_or, set, drop, length-drop, drop_of_length-le}
use lib.Seq.{get_or-set_other, get_or-drop}
use borrow.Author.Tests.{ltb-true, ltb-false, lt-ltb, le-ltb, leb-true, leb-false, le-leb, lt-leb, eqb-true, eqb-false}
use Rattle.words.specs.Words.{gate, any_to}
use Rattle.words.proofs.WordsLaws.{any-ext, any_none}
use Rattle.words.proofs.RelationLaws.{any-or, or-and}
use Rattle.walks.specs.Choices.{Sets, if_breaks, each}
use Rattle.walks.specs.Walk.{walk}
use Rattle.walks.specs.Meaning.{Every}
use Rattle.walks.specs.Code.Clauses.{Clauses, false_to, false_in, breaks_any, Settled, level_below, level_is, level_from}
use Rattle.walks.specs.Code.Clauses.{Levelled, lost, ModeIs, weight_of, mode_of}
use Rattle.walks.proofs.SumLaws.{sum-ext}
use Rattle.walks.proofs.PruneLaws.{every_map}

-- ---- weights that agree wherever the walk comes

-- What stays true while the variables left are chosen may be used to compare two weights.
pub walk-weight : (m : ℕ) (s : Sets) (g h : List ℕ → ℕ) (P : List ℕ → Type 0) → ((c : List ℕ) → P c → g c ≡ h c)
    → (vs : List ℕ) → Every (λ w. (c : List ℕ) (x : ℕ) → P c → P (set c w x)) vs → (c : List ℕ) → P c → walk m s g vs c ≡ walk m s h vs c
unfolding walk
walk-weight m s g h P e [] k c p = e c p
walk-weight m s g h P e (v ∷ vs) k c p =
    sum-ext m _ _ (λ x. ap (gate (s v c x)) (walk-weight m s g h P e vs k.1 (set c v x) (k.0 c x p)))

-- ---- tests

or-true : (a : Bool) → (a || true) ≡ true
or-true true = refl
or-true false = refl

or_assoc : (a b c : Bool) → ((a || b) || c) ≡ (a || (b || c))
or_assoc true b c = refl
or_assoc false b c = refl

or-not : (a b : Bool) → (not a || not b) ≡ not (a && b)
or-not true b = refl
or-not false b = refl

-- the first number and those after it: clauses are counted from the front of a rule
pub any-front : (n : ℕ) (f : ℕ → Bool) → any_to (suc n) f ≡ (f 0 || any_to n (λ i. f (suc i)))
unfolding any_to
any-front zero f = sym (or-false (f 0))
any-front (suc n) f = ap (λ (t : Bool). t || f (suc n)) (any-front n f) ∙ or_assoc (f 0) (any_to n (λ i. f (suc i))) (f (suc n))

-- ---- one clause

module _ (K : Clauses) where
  -- choosing a variable that a clause does not name leaves it as it is
  pub clause-stays : (i : ℕ) → i < K.many → (w : ℕ) → K.named i w ≡ false → (c : List ℕ) (x : ℕ) → K.holds i (set c w x) ≡ K.holds i c
  clause-stays i l w e c x = K.reads i l (set c w x) c (λ u t. get_or-set_other c w u x 0 (λ q. true≢false (sym t ∙ ap (K.named i) q ∙ e)))

  false-stays : (pick : ℕ → Bool) (w : ℕ) → ((i : ℕ) → i < K.many → pick i ≡ true → K.named i w ≡ false)
      → (c : List ℕ) (x : ℕ) → false_in K pick (set c w x) ≡ false_in K pick c
  unfolding false_in false_to
  false-stays pick w h c x = any-ext K.many _ _ (λ i l. go i l (pick i) refl)
    where
      go : (i : ℕ) → i < K.many → (b : Bool) → pick i ≡ b → (b && not (K.holds i (set c w x))) ≡ (b && not (K.holds i c))
      go i l true e = ap not (clause-stays i l w (h i l e) c x)
      go i l false e = refl

  pub settled-stays : (pick : ℕ → Bool) (vs : List ℕ) → Settled K pick vs
      → Every (λ w. (c : List ℕ) (x : ℕ) → false_in K pick (set c w x) ≡ false_in K pick c) vs
  settled-stays pick [] h = tt
  settled-stays pick (v ∷ vs) h = (false-stays pick v (λ i l e. (h i l e).0), settled-stays pick vs (λ i l e. (h i l e).1))

  -- "the rule breaks exactly where a clause settled so far or a later one is false"
  pub false-or : (p q r : ℕ → Bool) → ((i : ℕ) → i < K.many → r i ≡ (p i || q i)) → (c : List ℕ) → false_in K r c ≡ (false_in K p c || false_in K q c)
  unfolding false_in false_to
  false-or p q r h c =
      any-ext K.many _ _ (λ i l. ap (λ (t : Bool). t && not (K.holds i c)) (h i l) ∙ or-and (p i) (q i) (not (K.holds i c)))
      ∙ any-or K.many (λ i. p i && not (K.holds i c)) (λ i. q i && not (K.holds i c))

  pub false-none : (pick : ℕ → Bool) → ((i : ℕ) → i < K.many → pick i ≡ false) → (c : List ℕ) → false_in K pick c ≡ false
  unfolding false_in false_to
  false-none pick h c = any_none K.many _ (λ i l. ap (λ (t : Bool). t && not (K.holds i c)) (h i l))

-- ---- the test of a level's clauses, one by one: `ok` where those looked at hold

module _ (K : Clauses) (pick : ℕ → Bool) (c : List ℕ) where
  -- a clause that is picked, and one that is not
  pub test_in : (i : ℕ) (ok t : Bool) → pick i ≡ true → t ≡ K.holds i c → false_to K pick c i ≡ not ok → false_to K pick c (i + 1) ≡ not (ok && t)
  unfolding false_to any_to
  test_in i ok t p e q = rw (add-one, q, p, ← e) (or-not ok t)

  pub test-out : (i : ℕ) (ok : Bool) → pick i ≡ false → false_to K pick c i ≡ not ok → false_to K pick c (i + 1) ≡ not ok
  unfolding false_to any_to
  test-out i ok p q = rw (add-one, q, p) (or-false (not ok))

-- ---- levels

bool_is : (a : Bool) → (a ≡ true → ⊥) → a ≡ false
bool_is true h = absurd (h refl)
bool_is false h = refl

-- P of each place is P of each member
pub every-at : (P : ℕ → Type 0) (vs : List ℕ) → ((j : ℕ) → j < length vs → P (get_or vs j 0)) → Every P vs
every-at P [] h = tt
every-at P (v ∷ vs) h = (h 0 (omega arith), every-at P vs (λ j l. h (suc j) (omega arith)))

from-split : (l e : ℕ) → leb e l ≡ (eqb l e || leb (e + 1) l)
from-split l e = go (eqb l e) refl
  where
    go : (b : Bool) → eqb l e ≡ b → leb e l ≡ (b || leb (e + 1) l)
    go true q = le-leb e l (let r : l ≡ e = eqb-true l e q in omega arith)
    go false q = two (leb e l) refl
      where
        two : (t : Bool) → leb e l ≡ t → t ≡ leb (e + 1) l
        two true r =
            let ne : l ≡ e → ⊥ = eqb-false l e q in
            let le : e ≤ l = leb-true e l r in
            sym (le-leb (e + 1) l (omega arith))
        two false r =
            let lt : l < e = leb-false e l r in
            sym (lt-leb (e + 1) l (omega arith))

below_split : (l e : ℕ) → ltb l (e + 1) ≡ (ltb l e || eqb l e)
below_split l e = go (ltb l e) refl
  where
    go : (b : Bool) → ltb l e ≡ b → ltb l (e + 1) ≡ (b || eqb l e)
    go true q = lt-ltb l (e + 1) (omega (arith, ltb-true l e q))
    go false q = two (eqb l e) refl
      where
        two : (t : Bool) → eqb l e ≡ t → ltb l (e + 1) ≡ t
        two true r = lt-ltb l (e + 1) (omega (arith, eqb-true l e r))
        two false r =
            let ne : l ≡ e → ⊥ = eqb-false l e r in
            le-ltb l (e + 1) (omega (arith, ltb-false l e q))

all_split : (l e : ℕ) → true ≡ (ltb l e || leb e l)
all_split l e = go (ltb l e) refl
  where
    go : (b : Bool) → ltb l e ≡ b → true ≡ (b || leb e l)
    go true q = refl
    go false q = sym (le-leb e l (ltb-false l e q))

lost-or : (mode : ℕ) (ok : Bool) → (lost mode || not ok) ≡ lost (mode_of mode ok)
lost-or zero true = refl
lost-or zero false = refl
lost-or (suc mode) true = refl
lost-or (suc mode) false = refl

module _ (K : Clauses) (levels : List ℕ) where
  -- Before the first level is looked at no clause is false; then level by level.
  pub mode-start : (c : List ℕ) → ModeIs K levels 1 0 c
  mode-start c = false-none K (level_below levels 0) (λ i l. le-ltb (get_or levels i 0) 0 (omega arith)) c

  below_or : (e : ℕ) (c : List ℕ) → false_in K (level_below levels (e + 1)) c ≡ (false_in K (level_below levels e) c || false_in K (level_is levels e) c)
  below_or e c = false-or K (level_below levels e) (level_is levels e) (level_below levels (e + 1)) (λ i l. below_split (get_or levels i 0) e) c

  pub mode-step : (mode e : ℕ) (c : List ℕ) (ok : Bool) → ModeIs K levels mode e c → false_in K (level_is levels e) c ≡ not ok
      → ModeIs K levels (mode_of mode ok) (e + 1) c
  mode-step mode e c ok p q = below_or e c ∙ ap₂ (λ (a b : Bool). a || b) p q ∙ lost-or mode ok

  -- "the rule breaks exactly where a clause settled so far or a later one is false"
  pub breaks-split : (e : ℕ) (c : List ℕ) → breaks_any K c ≡ (false_in K (level_below levels e) c || false_in K (level_from levels e) c)
  breaks-split e c = false-or K (level_below levels e) (level_from levels e) (λ i. true) (λ i l. all_split (get_or levels i 0) e) c

module _ (K : Clauses) (order levels : List ℕ) (L : Levelled K order levels) where
  -- once the variables up to its level are chosen, later choices leave a clause as it is
  pub level-settled : (i : ℕ) → i < K.many → (d : ℕ) → get_or levels i 0 ≤ d → Every (λ w. K.named i w ≡ false) (drop d order)
  level-settled i l d h = every-at _ (drop d order) (λ j k. bool_is _ (λ e. clash j k e))
    where
      clash : (j : ℕ) → j < length (drop d order) → K.named i (get_or (drop d order) j 0) ≡ true → ⊥
      clash j k e =
          let short : j < length order - d = rw (length-drop d order) at k in
          omega (arith, L.above i l (d + j) (omega arith) (rw (get_or-drop d order j 0) at e))

  level-is : (e d : ℕ) → e ≤ d → Settled K (level_is levels e) (drop d order)
  level-is e d h i l q = level-settled i l d (let r : get_or levels i 0 ≡ e = eqb-true (get_or levels i 0) e q in omega arith)

  level-below : (e d : ℕ) → e ≤ d + 1 → Settled K (level_below levels e) (drop d order)
  level-below e d h i l q = level-settled i l d (omega (arith, ltb-true (get_or levels i 0) e q))

  -- the mode stays while the variables left are chosen
  pub mode-stays : (mode e d : ℕ) → e ≤ d + 1 → Every (λ w. (c : List ℕ) (x : ℕ) → ModeIs K levels mode e c → ModeIs K levels mode e (set c w x)) (drop d order)
  mode-stays mode e d h = every_map _ _ (λ w f k x p. f k x ∙ p) (drop d order) (settled-stays K (level_below levels e) (drop d order) (level-below e d h))

  pub false-split : (e : ℕ) (c : List ℕ) → false_in K (level_from levels e) c ≡ (false_in K (level_is levels e) c || false_in K (level_from levels (e + 1)) c)
  false-split e c = false-or K (level_is levels e) (level_from levels (e + 1)) (level_from levels e) (λ i l. from-split (get_or levels i 0) e) c

  -- either mode at once
  weight-gate : (mode e : ℕ) (c : List ℕ) → weight_of K levels mode e c ≡ gate (lost mode || false_in K (level_from levels e) c) 1
  unfolding weight_of
  weight-gate zero e c = refl
  weight-gate (suc mode) e c = refl

  weight-next : (mode e : ℕ) (ok : Bool) (c : List ℕ) → false_in K (level_is levels e) c ≡ not ok
      → weight_of K levels mode e c ≡ weight_of K levels (mode_of mode ok) (e + 1) c
  weight-next mode e ok c q =
      let later : Bool = false_in K (level_from levels (e + 1)) c in
      weight-gate mode e c
      ∙ ap (λ (t : Bool). gate t 1) (
      ap (λ (t : Bool). lost mode || t) (false-split e c ∙ ap (λ (t : Bool). t || later) q)
      ∙ sym (or_assoc (lost mode) (not ok) later) ∙ ap (λ (t : Bool). t || later) (lost-or mode ok))
      ∙ sym (weight-gate (mode_of mode ok) (e + 1) c)

  weight_is : (mode e : ℕ) (c : List ℕ) → ModeIs K levels mode e c → if_breaks (breaks_any K) c ≡ weight_of K levels mode e c
  weight_is mode e c p =
      ap (λ (t : Bool). gate t 1) (breaks-split K levels e c ∙ ap (λ (t : Bool). t || false_in K (level_from levels e) c) p) ∙ sym (weight-gate mode e c)

  module _ (m : ℕ) (s : Sets) where
    -- The clauses of level e are looked at, where their variables are chosen: what is left weighs the same in the new mode.
    pub weight-step : (mode e d : ℕ) → e ≤ d → (c : List ℕ) (ok : Bool) → false_in K (level_is levels e) c ≡ not ok
        → walk m s (weight_of K levels mode e) (drop d order) c ≡ walk m s (weight_of K levels (mode_of mode ok) (e + 1)) (drop d order) c
    weight-step mode e d h c ok q =
        walk-weight m s _ _ (λ k. false_in K (level_is levels e) k ≡ not ok) (weight-next mode e ok) (drop d order)
        (every_map _ _ (λ w f k x p. f k x ∙ p) (drop d order) (settled-stays K (level_is levels e) (drop d order) (level-is e d h))) c q

    -- Where the mode is right, what is left weighs what the rule's breaking weighs.
    pub weight-mode : (mode e d : ℕ) → e ≤ d + 1 → (c : List ℕ) → ModeIs K levels mode e c
        → walk m s (if_breaks (breaks_any K)) (drop d order) c ≡ walk m s (weight_of K levels mode e) (drop d order) c
    weight-mode mode e d h c p = walk-weight m s _ _ (ModeIs K levels mode e) (weight_is mode e) (drop d order) (mode-stays mode e d h) c p

    -- A whole choice, where every level was looked at.
    pub weight-end : (mode d : ℕ) → mode ≤ 1 → length order ≤ d → (c : List ℕ) → walk m s (weight_of K levels mode (d + 1)) (drop d order) c + mode ≡ 1
    unfolding weight_of walk
    weight-end zero d h l c = rw (drop_of_length-le order l)
    weight-end (suc zero) d h l c =
        rw (drop_of_length-le order l, false-none K (level_from levels (d + 1)) (λ i k. lt-leb (d + 1) (get_or levels i 0) (omega (arith, L.within i k))) c)
    weight-end (suc (suc mode)) d h l c = absurd (omega arith)

    -- Where a settled clause is false, every full choice below breaks.
    pub all-break : (pick : ℕ → Bool) (vs : List ℕ) → Settled K pick vs → (c : List ℕ) → false_in K pick c ≡ true
        → walk m s (if_breaks (breaks_any K)) vs c ≡ walk m s each vs c
    all-break pick vs h c q =
        walk-weight m s _ _ (λ k. false_in K pick k ≡ true)
        (λ k p. ap (λ (t : Bool). gate t 1) (false-or K pick (λ i. true) (λ i. true) (λ i l. sym (or-true (pick i))) k ∙ ap (λ (t : Bool). t || breaks_any K k) p)) vs
        (every_map _ _ (λ w f k x p. f k x ∙ p) vs (settled-stays K pick vs h)) c q
