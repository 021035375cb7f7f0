-- The digit of a choice is found among the nodes of the choices, and a node more makes a choice more.
-- Assumes nothing.
use mathlib.Core.Path.{◌≡◌, refl, ap, ap₂, sym, ◌∙◌}
use mathlib.Core.Bool.{Bool, cond}
use mathlib.Core.List.{List, [], ◌∷◌, ◌++◌}
use mathlib.Core.Logic.{⊎_elim}
use mathlib.Core.Option.{Option, none, some}
use Prim.Native.Nat.{ℕ, zero, suc, ◌+◌, ◌<◌, ◌≤◌}
use native.Mathlib.Numerals.{add-one}
use native.Mathlib.Omega.{arith}
use lib.Dec.{eqb, ltb}
use lib.ListN.{length, get_or, take, length-append}
use lib.Seq.{get_or-take, length-take-le, take-suc-set}
use borrow.Author.Tests.{eq-eqb, ne_eqb, lt-ltb, le-ltb}
use Rattle.syntax.specs.Term.{Term, Term≟, Choices, digit_from, digit}
use Rattle.syntax.specs.Rule.{add}
use Rattle.syntax.specs.Code.Arena.{Holds, HoldsAll, Apart}
use Rattle.syntax.specs.Code.Reading.{Sought}
use Rattle.rules.specs.Accept.{choices_limit}
use Rattle.rules.specs.Code.Variables.{place_in, VariableList, Added, many, known, over, new}
use Rattle.syntax.proofs.ArenaLaws.{holds-once, holds-one}
use Rattle.rules.proofs.NodeLaws.{lt-or-le, more-at}
use Rattle.syntax.proofs.NameLaws.{all-length}
use Rattle.syntax.proofs.FormulaLaws.{all_snoc}

ltb-suc : (r n : ℕ) → ltb r n ≡ ltb (suc r) (suc n)
ltb-suc r n =
    ⊎_elim
    (λ (l : r < n). lt-ltb r n l ∙ sym (lt-ltb (suc r) (suc n) (omega arith)))
    (λ (l : n ≤ r). le-ltb r n l ∙ sym (le-ltb (suc r) (suc n) (omega arith)))
    (lt-or-le r n)

-- The first index that has a node is its place.
place-first : (vs : List ℕ) (k r : ℕ) → r ≤ length vs → ((i : ℕ) → i < r → get_or vs i 0 ≡ k → ⊥) → (r < length vs → get_or vs r 0 ≡ k) → r ≡ place_in k vs
unfolding place_in
place-first [] k r l b f = omega arith
place-first (v ∷ vs) k zero l b f = rw (eq-eqb v k (f (omega arith)))
place-first (v ∷ vs) k (suc r) l b f =
    rw (ne_eqb v k (b 0 (omega arith))) (ap suc (place-first vs k r (omega arith) (λ i m. b (suc i) (omega arith)) (λ m. f (omega arith))))

pub placed : {vs : List ℕ} {k r : ℕ} → Sought vs (length vs) k r → r ≡ place_in k vs
placed {vs} {k} {r} s = place-first vs k r s.within s.before s.found

-- The digit of a choice is that of its node's place: equal terms have equal nodes.
module _ (ns : List ℕ) (n : ℕ) (apart : Apart ns n) (v : ℕ) (a : Term) (x : Holds ns v a) (h : v < n) where
  pub digit-found : (d : ℕ) (vs : List ℕ) (σ : Choices) → HoldsAll ns vs σ → ((i : ℕ) → i < length vs → get_or vs i 0 < n)
      → digit_from d σ a ≡ cond (ltb (place_in v vs) (length vs)) (some (d + place_in v vs)) none
  unfolding digit_from place_in
  digit-found d [] [] y l = refl
  digit-found d [] (b ∷ σ) y l = absurd y
  digit-found d (w ∷ vs) [] y l = absurd y
  digit-found d (w ∷ vs) (b ∷ σ) y l = go (Term≟ b a) (digit-found (suc d) vs σ y.1 (λ i m. l (suc i) (omega arith)))
    where
      go : (q : Dec (b ≡ a)) → digit_from (suc d) σ a ≡ cond (ltb (place_in v vs) (length vs)) (some (suc d + place_in v vs)) none
          → ◌≡◌ {A = Option ℕ} (elim q [ yes p ↦ some d | no m ↦ digit_from (suc d) σ a ])
          (cond (ltb (cond (eqb w v) 0 (suc (place_in v vs))) (suc (length vs))) (some (d + cond (eqb w v) 0 (suc (place_in v vs)))) none)
      go (yes p) ih =
          let e : w ≡ v = holds-once ns n apart w v a (l 0 (omega arith)) h (rw p at y.0) x in
          let z : d + 0 ≡ d = omega arith in
          rw (eq-eqb w v e, lt-ltb 0 (suc (length vs)) (omega arith), z)
      go (no m) ih =
          let e : w ≡ v → ⊥ = λ (q : w ≡ v). m (holds-one ns v b a (rw q at y.0) x) in
          let z : suc d + place_in v vs ≡ d + suc (place_in v vs) = omega arith in
          rw (ne_eqb w v e) (ih ∙ ap₂ (λ (b : Bool) (i : ℕ). cond b (some i) none) (ltb-suc (place_in v vs) (length vs)) z)

add-known : (σ : Choices) (a : Term) {d : ℕ} → digit σ a ≡ some d → add σ a ≡ σ
unfolding add
add-known σ a e = rw (e, add)

add-new : (σ : Choices) (a : Term) → digit σ a ≡ none → add σ a ≡ σ ++ (a ∷ [])
unfolding add
add-new σ a e = rw (e, add)

add-longer : (σ : Choices) (a : Term) → length σ ≤ length (add σ a)
unfolding add
add-longer σ a = go (digit σ a)
  where
    go : (o : Option ℕ) → length σ ≤ length {A = Term} (elim o [ none ↦ σ ++ (a ∷ []) | some _ ↦ σ ])
    go none = simp length-append (omega arith)
    go (some d) = omega arith

-- The list has as many choices as it counts, where these are not too many.
pub listed-count : {ns vs : List ℕ} {n c : ℕ} {σ : Choices} → length vs ≡ choices_limit → VariableList ns n vs c σ → c ≤ choices_limit → c ≡ length σ
listed-count {ns} {vs} {n} {c} {σ} h l few =
    let q : length (take c vs) ≡ c = length-take-le c vs (omega arith) in
    sym q ∙ sym (all-length ns (take c vs) σ (l.held few))

-- The argument of an OE or AO came to the list.
module _ {ns vs : List ℕ} {n c v : ℕ} {σ : Choices} (apart : Apart ns n) (a : Term) (x : Holds ns v a) (h : v < n) (size : length vs ≡ choices_limit) (l : VariableList ns n vs c σ) where
  listed-digit : {r : ℕ} → c ≤ choices_limit → Sought vs c v r → digit σ a ≡ cond (ltb r c) (some (49 + r)) none
  listed-digit {r} few s =
      let q : length (take c vs) ≡ c = length-take-le c vs (omega arith) in
      let p : r ≡ place_in v (take c vs) =
      place-first (take c vs) v r (omega (arith, s.within)) (λ k l e. s.before k l (sym (get_or-take c vs k 0 (omega (arith, s.within))) ∙ e))
      (λ l. let m : r < c = omega arith in get_or-take c vs r 0 m ∙ s.found m) in
      rw p
      (rw q at
      (digit-found ns n apart v a x h 49 (take c vs) σ (l.held few) (λ i m. let j : i < c = omega arith in rw (get_or-take c vs i 0 j) (l.below i j (omega arith)))))

  pub listed-add : {ws : List ℕ} {d : ℕ} → Added vs c v ws d → VariableList ns n ws d (add σ a)
  listed-add (many m) =
      record {
        more = λ _. omega (arith, add-longer σ a, l.more m);
        held = λ z. absurd (omega arith);
        below = λ i p q. l.below i (omega arith) q;
      }
  listed-add (known {r = r} few s m) = rw (add-known σ a {d = 49 + r} (listed-digit few s ∙ rw (lt-ltb r c m))) l
  listed-add (over {r = r} e s m) =
      let few : c ≤ choices_limit = omega arith in
      let q = listed-count size l few in
      rw (add-new σ a (listed-digit few s ∙ rw (le-ltb r c m)))
      (record {
        more = λ _. simp length-append (omega arith);
        held = λ z. absurd (omega arith);
        below = λ i p q. l.below i (omega arith) q;
      })
  listed-add (new {r = r} e s m) =
      let few : c ≤ choices_limit = omega arith in
      let b : c < length vs = omega arith in
      rw (add-new σ a (listed-digit few s ∙ rw (le-ltb r c m)))
      (record {
        more = λ z. absurd (omega arith);
        held = λ _. rw (add-one c, take-suc-set vs c v b) (all_snoc ns (take c vs) σ v a (l.held few) x);
        below = λ i p q. more-at (λ _ (w : ℕ). w < n) vs c v 0 b (λ j m. l.below j m (omega arith)) h i p;
      })
