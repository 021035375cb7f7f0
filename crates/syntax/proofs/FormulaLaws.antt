-- What each way out of the reader of formulas gives, and what a whole text is.
-- Assumes nothing.
use mathlib.Core.Path.{◌≡◌, refl, sym, ap, subst, ◌∙◌}
use mathlib.Core.List.{List, [], ◌∷◌, ◌++◌}
use mathlib.Core.Option.{Option, none, some}
use Prim.Native.Nat.{ℕ, zero, suc, ◌+◌, ◌-◌, ◌<◌, ◌≤◌}
use native.Mathlib.Numerals.{add-one}
use native.Mathlib.Omega.{arith}
use borrow.Author.Tests.{eq-eqb, ne_eqb}
use lib.ListN.{length, get_or, drop, take, set, drop_of_length-le}
use lib.Seq.{drop-cons, take-suc-set}
use Rattle.std.specs.Prelude.{Option as Maybe, Some, None}
use Rattle.syntax.specs.Bytes.{Bytes, ascii, Read, fail, got, Reader, next, skip, either}
use Rattle.syntax.specs.Term.{Term, Choices, read_term}
use Rattle.syntax.specs.Rule.{Rule, read_rule, read_formula, whole}
use Rattle.syntax.specs.Code.Arena.{Holds, HoldsRule, HoldsAll}
use Rattle.syntax.specs.Code.Reading.{Arena, mk, Knows, Found, chosen_set, clause_room, Rooted, Reads, no_rule, some_rule}
use Rattle.syntax.specs.declared.Root.{Root}
use Rattle.syntax.proofs.BytesLaws.{next_agree, next-next}
use Rattle.syntax.proofs.ArenaLaws.{knows-later}
use Rattle.syntax.proofs.NameLaws.{Hit}

-- A whole text.

pub ended-none : {s ns : List ℕ} {r : Read Rule} → r ≡ fail → Reads s ns None (whole r)
unfolding whole
ended-none {r = r} e = no_rule {o = whole r} (rw e)

pub ended-left : {s ns : List ℕ} {at k e : ℕ} {a b : Arena} {r : Read Rule} → Found HoldsRule s at a b k e r → e < length s → Reads s ns None (whole r)
unfolding whole
ended-left {s} {e = e} {r = r} f l = no_rule {o = whole r} (rw (f.reads, drop-cons s e 0 l))

pub ended_here : {s : List ℕ} {k e : ℕ} {ns₀ : List ℕ} {b : Arena} {r : Read Rule} → Found HoldsRule s 0 (mk ns₀ 0) b k e r → length s ≤ e → Reads s b.nodes (Some (record { node = k; n = b.n })) (whole r)
unfolding whole
ended_here {s} {k} {e} {ns₀} {b} {r} f l =
    let q : whole r ≡ some f.thing = rw (f.reads, drop_of_length-le s l) in
    some_rule {w = record { node = k; n = b.n }} (record { rule = f.thing; is = q; holds = f.holds; within = f.within; few = omega (arith, f.count, f.end); tidy = f.tidy })

-- The bound on the clauses may be written in another way.
pub reads-alike : {s ns : List ℕ} {w : Maybe Root} {k m : ℕ} → k ≡ m → Reads s ns w (whole (read_rule [] k s)) → Reads s ns w (whole (read_rule [] m s))
reads-alike {s} {ns} {w} e x = subst (λ (k : ℕ). Reads s ns w (whole (read_rule [] k s))) e x

-- For those that call the reader.

pub as-nothing : {s ns : List ℕ} {o : Option Rule} → Reads s ns None o → o ≡ none
as-nothing (no_rule e) = e

pub as-root : {s ns : List ℕ} {w : Root} {o : Option Rule} → Reads s ns (Some w) o → Rooted s ns w.node w.n o
as-root (some_rule x) = x

-- No choices are known.

pub knows-none : {a : Arena} → Knows a [] []
knows-none = record { holds = tt; below = λ i h. absurd (omega arith) }

-- A quantifier behind `[v`.

module _ (σ : Choices) (s : Bytes) (at : ℕ) where
  pub set-end : length s ≤ at → chosen_set σ (drop at s) ≡ fail
  unfolding chosen_set skip next
  set-end l = rw (drop_of_length-le s l)

  module _ (l : at < length s) where
    pub set_other : (get_or s at 0 ≡ 49 + length σ → ⊥) → chosen_set σ (drop at s) ≡ fail
    unfolding chosen_set skip next
    set_other h = rw (drop-cons s at 0 l, ne_eqb (49 + length σ) (get_or s at 0) (λ e. h (sym e)))

    module _ (e : get_or s at 0 ≡ 49 + length σ) where
      set_on : chosen_set σ (drop at s) ≡ next (skip (ascii "@") (drop (at + 1) s)) (λ _ w. next (read_term σ w) (λ x v. next (skip (ascii "]") v) (λ _ u. got x u)))
      unfolding chosen_set skip next
      set_on = rw (drop-cons s at 0 l, eq-eqb (49 + length σ) (get_or s at 0) (sym e), add-one at)

      pub set-open : skip (ascii "@") (drop (at + 1) s) ≡ fail → chosen_set σ (drop at s) ≡ fail
      unfolding next
      set-open q = set_on ∙ rw q

      module _ (h : Hit s (at + 1) (ascii "@")) where
        pub set-none : read_term σ (drop (at + 2) s) ≡ fail → chosen_set σ (drop at s) ≡ fail
        unfolding next
        set-none q = let n : at + 1 + 1 ≡ at + 2 = omega arith in set_on ∙ rw (h.skips, n, q)

        module _ {a b : Arena} {k z : ℕ} (f : Found Holds s (at + 2) a b k z (read_term σ (drop (at + 2) s))) where
          pub set-left : skip (ascii "]") (drop z s) ≡ fail → chosen_set σ (drop at s) ≡ fail
          unfolding next
          set-left q = let n : at + 1 + 1 ≡ at + 2 = omega arith in set_on ∙ rw (h.skips, n, f.reads, q)

          pub set_found : Hit s z (ascii "]") → Found Holds s at a b k (z + 1) (chosen_set σ (drop at s))
          unfolding next
          set_found h' =
              let n : at + 1 + 1 ≡ at + 2 = omega arith in
              let q : chosen_set σ (drop at s) ≡ got f.thing (drop (z + 1) s) = set_on ∙ rw (h.skips, n, f.reads, h'.skips) in
              record { thing = f.thing; reads = q; holds = f.holds; within = f.within; count = omega (arith, f.count); end = h'.fits; stays = f.stays; tidy = f.tidy }

-- A formula by its first bytes.

next-fail : {A B : Type 0} (m : Read A) (f : A → Reader B) → ((a : A) (s : Bytes) → f a s ≡ fail) → next m f ≡ fail
unfolding next
next-fail fail f h = refl
next-fail (got a s) f h = h a s

chosen-next : (σ : Choices) (f : Term → Reader Rule) (w : Bytes) → next (skip ((49 + length σ) ∷ []) w) (λ _ w₁. next (skip (ascii "@") w₁) (λ _ w₂. next (read_term σ w₂) (λ x w₃. next (skip (ascii "]") w₃) (λ _. f x)))) ≡ next (chosen_set σ w) f
unfolding chosen_set next
chosen-next σ f w =
    sym
    (next-next (skip ((49 + length σ) ∷ []) w) _ f
    ∙ next_agree (skip ((49 + length σ) ∷ []) w) _ _ (λ _ w₁ _. next-next (skip (ascii "@") w₁) _ f
    ∙ next_agree (skip (ascii "@") w₁) _ _ (λ _ w₂ _. next-next (read_term σ w₂) _ f
    ∙ next_agree (read_term σ w₂) _ _ (λ x w₃ _. next-next (skip (ascii "]") w₃) _ f))))

module _ (k : ℕ) (few : k ≤ 8) (σ : Choices) (s : Bytes) (at : ℕ) where
  at_more : read_formula clause_room (9 - k) σ (drop at s) ≡ read_formula clause_room (suc (8 - k)) σ (drop at s)
  at_more = let e : 9 - k ≡ suc (8 - k) = omega arith in ap (λ (m : ℕ). read_formula clause_room m σ (drop at s)) e

  module _ (e : skip (ascii "[v") (drop at s) ≡ fail) where
    pub formula-open : skip (ascii ":") (drop at s) ≡ fail → read_formula clause_room (9 - k) σ (drop at s) ≡ fail
    unfolding either next read_formula
    formula-open q = at_more ∙ rw (e, q)

    pub formula-rule : Hit s at (ascii ":") → read_formula clause_room (9 - k) σ (drop at s) ≡ read_rule σ clause_room (drop (at + 1) s)
    unfolding either next read_formula
    formula-rule h = at_more ∙ rw (e, h.skips)

  module _ (h : Hit s at (ascii "[v")) where
    choosing : read_formula clause_room (9 - k) σ (drop at s) ≡ next (chosen_set σ (drop (at + 2) s)) (λ x. read_formula clause_room (8 - k) (σ ++ (x ∷ [])))
    unfolding either read_formula
    choosing = at_more ∙ rw h.skips (chosen-next σ (λ x. read_formula clause_room (8 - k) (σ ++ (x ∷ []))) (drop (at + 2) s))

    pub formula-lost : chosen_set σ (drop (at + 2) s) ≡ fail → read_formula clause_room (9 - k) σ (drop at s) ≡ fail
    unfolding next
    formula-lost q = choosing ∙ rw q

    pub formula-more : {a b : Arena} {i e : ℕ} (f : Found Holds s (at + 2) a b i e (chosen_set σ (drop (at + 2) s))) → read_formula clause_room (9 - k) σ (drop at s) ≡ read_formula clause_room (9 - (k + 1)) (σ ++ (f.thing ∷ [])) (drop e s)
    unfolding next
    formula-more {e = e} f =
        let q : 8 - k ≡ 9 - (k + 1) = omega arith in
        choosing ∙ rw f.reads (ap (λ (m : ℕ). read_formula clause_room m (σ ++ (f.thing ∷ [])) (drop e s)) q)

    pub formula-full : k ≡ 8 → read_formula clause_room (9 - k) σ (drop at s) ≡ fail
    unfolding read_formula
    formula-full q =
        let z : 8 - k ≡ 0 = omega arith in
        choosing ∙ next-fail (chosen_set σ (drop (at + 2) s)) _ (λ x w. ap (λ (m : ℕ). read_formula clause_room m (σ ++ (x ∷ [])) w) z)

-- One choice more.

pub all_snoc : (ns vs : List ℕ) (σ : Choices) (v : ℕ) (t : Term) → HoldsAll ns vs σ → Holds ns v t → HoldsAll ns (vs ++ (v ∷ [])) (σ ++ (t ∷ []))
all_snoc ns [] [] v t h x = (x, tt)
all_snoc ns [] (a ∷ σ) v t h x = absurd h
all_snoc ns (w ∷ vs) [] v t h x = absurd h
all_snoc ns (w ∷ vs) (a ∷ σ) v t h x = (h.0, all_snoc ns vs σ v t h.1 x)

pub take_more : (vs : List ℕ) (k v : ℕ) → k < length vs → take (k + 1) (set vs k v) ≡ take k vs ++ (v ∷ [])
take_more vs k v h = rw (add-one k) (take-suc-set vs k v h)

below-snoc : (vs : List ℕ) (n v : ℕ) → ((i : ℕ) → i < length vs → get_or vs i 0 < n) → v < n → (i : ℕ) → i < length (vs ++ (v ∷ [])) → get_or (vs ++ (v ∷ [])) i 0 < n
below-snoc [] n v h l zero q = l
below-snoc [] n v h l (suc i) q = absurd (omega arith)
below-snoc (w ∷ vs) n v h l zero q = h 0 (omega arith)
below-snoc (w ∷ vs) n v h l (suc i) q = below-snoc vs n v (λ j m. h (suc j) (omega arith)) l i (omega arith)

pub knows_more : {s : Bytes} {at i e : ℕ} {a b : Arena} {r : Read Term} (vars : List ℕ) (k : ℕ) (σ : Choices) → k < length vars → Knows a (take k vars) σ → (f : Found Holds s at a b i e r) → Knows b (take (k + 1) (set vars k i)) (σ ++ (f.thing ∷ []))
knows_more {i = i} {b = b} vars k σ l w f =
    let y = knows-later f.stays w in
    let q : take (k + 1) (set vars k i) ≡ take k vars ++ (i ∷ []) = take_more vars k i l in
    rw q (record { holds = all_snoc b.nodes (take k vars) σ i f.thing y.holds f.holds; below = below-snoc (take k vars) b.n i y.below f.within })
