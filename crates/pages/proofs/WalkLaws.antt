-- What the page's word and its number of walks mean: some line is broken, or idle; a list that has each quantifier part once.
-- Assumes nothing.
use mathlib.Core.Path.{◌≡◌, refl, ap, ◌∙◌}
use mathlib.Core.Bool.{Bool, true, false, cond, ◌||◌}
use mathlib.Core.List.{List, [], ◌∷◌, ◌++◌}
use mathlib.Core.Logic.{◌↔◌, ◌⊎◌, inl, inr}
use mathlib.Core.Option.{some}
use Prim.Native.Nat.{ℕ, zero, suc, ◌+◌}
use native.Mathlib.Omega.{arith}
use lib.Dec.{eqb}
use lib.ListN.{length, get_elem?}
use borrow.Author.Tests.{eqb-true, eq-eqb}
use Rattle.syntax.specs.Bytes.{Bytes, same}
use Rattle.syntax.proofs.BytesLaws.{same-own, same_gives}
use Rattle.verdicts.specs.declared.Outcome.{Outcome}
use Rattle.verdicts.specs.declared.Outcome.TheVariants.{Idle, Broken}
use Rattle.verdicts.specs.declared.Verdict.{Verdict}
use Rattle.verdicts.specs.Verdict.{word_number}
use Rattle.pages.specs.Page.{among, different_from, parts_of, walks_of, some_line, page_outcome}
use Rattle.pages.specs.Walks.{LineWith, In, here, there, Apart, none_apart, one_apart, EachOnce}

-- Being among some texts is being one of them.
among_in : (p : Bytes) (ps : List Bytes) → among p ps ≡ true → In p ps
unfolding among
among_in p [] e = let z : ◌≡◌ {A = ℕ} 0 1 = cc in absurd (omega arith)
among_in p (q ∷ qs) e = go (same p q) refl e (among_in p qs)
  where
    go : (b : Bool) → same p q ≡ b → (b || among p qs) ≡ true → (among p qs ≡ true → In p qs) → In p (q ∷ qs)
    go true h e f = here (same_gives p q h)
    go false h e f = there (f e)

in-among : (p : Bytes) (ps : List Bytes) → In p ps → among p ps ≡ true
unfolding among
in-among p [] i = elim i [ ]
in-among p (q ∷ qs) (here e) = rw (← e, same-own p)
in-among p (q ∷ qs) (there i) = go (same p q) (in-among p qs i)
  where
    go : (b : Bool) → among p qs ≡ true → (b || among p qs) ≡ true
    go true h = refl
    go false h = h

-- One text more behind the others.
in-front : {q : Bytes} (p : Bytes) {ps : List Bytes} → In q ps → In q (ps ++ (p ∷ []))
in-front p (here e) = here e
in-front p (there i) = there (in-front p i)

in-last : (p : Bytes) (ps : List Bytes) → In p (ps ++ (p ∷ []))
in-last p [] = here refl
in-last p (q ∷ qs) = there (in-last p qs)

in_either : {q : Bytes} (p : Bytes) (ps : List Bytes) → In q (ps ++ (p ∷ [])) → In q ps ⊎ (q ≡ p)
in_either p [] (here e) = inr e
in_either p [] (there i) = elim i [ ]
in_either p (x ∷ ps) (here e) = inl (here e)
in_either {q} p (x ∷ ps) (there i) = go (in_either p ps i)
  where
    go : In q ps ⊎ (q ≡ p) → In q (x ∷ ps) ⊎ (q ≡ p)
    go (inl j) = inl (there j)
    go (inr e) = inr e

-- The parts that are not among those before.
abbrev pick : Bool → Bytes → List Bytes → List Bytes
pick true p ds = ds
pick false p ds = p ∷ ds

new_ones : List Bytes → List Bytes → List Bytes
new_ones before [] = []
new_ones before (p ∷ ps) = pick (among p before) p (new_ones (before ++ (p ∷ [])) ps)

new-length : (before ps : List Bytes) → different_from before ps ≡ length (new_ones before ps)
unfolding different_from new_ones
new-length before [] = refl
new-length before (p ∷ ps) = go (among p before) (new-length (before ++ (p ∷ [])) ps)
  where
    go : (b : Bool) → different_from (before ++ (p ∷ [])) ps ≡ length (new_ones (before ++ (p ∷ [])) ps)
        → cond b 0 1 + different_from (before ++ (p ∷ [])) ps ≡ length (pick b p (new_ones (before ++ (p ∷ [])) ps))
    go true e = omega arith
    go false e = omega arith

new-only : {q : Bytes} (before ps : List Bytes) → In q (new_ones before ps) → In q ps × (In q before → ⊥)
unfolding new_ones
new-only before [] i = elim i [ ]
new-only {q} before (p ∷ ps) i = go (among p before) refl i (new-only (before ++ (p ∷ [])) ps)
  where
    go : (b : Bool) → among p before ≡ b → In q (pick b p (new_ones (before ++ (p ∷ [])) ps)) → (In q (new_ones (before ++ (p ∷ [])) ps) → In q ps × (In q (before ++ (p ∷ [])) → ⊥))
        → In q (p ∷ ps) × (In q before → ⊥)
    go true h i f = let (j, n) = f i in (there j, λ k. n (in-front p k))
    go false h (here e) f = (here e, λ k. let z : ◌≡◌ {A = ℕ} 0 1 = cc (in-among q before k, ap (λ (x : Bytes). among x before) e, h) in omega arith)
    go false h (there i) f = let (j, n) = f i in (there j, λ k. n (in-front p k))

new_apart : (before ps : List Bytes) → Apart (new_ones before ps)
unfolding new_ones
new_apart before [] = none_apart
new_apart before (p ∷ ps) = go (among p before) (new_apart (before ++ (p ∷ [])) ps)
  where
    go : (b : Bool) → Apart (new_ones (before ++ (p ∷ [])) ps) → Apart (pick b p (new_ones (before ++ (p ∷ [])) ps))
    go true a = a
    go false a = one_apart (λ i. (new-only (before ++ (p ∷ [])) ps i).1 (in-last p before)) a

new-all : {q : Bytes} (before ps : List Bytes) → In q ps → In q before ⊎ In q (new_ones before ps)
unfolding new_ones
new-all before [] i = elim i [ ]
new-all {q} before (p ∷ ps) i = go i (new-all (before ++ (p ∷ [])) ps)
  where
    own : (b : Bool) → among p before ≡ b → q ≡ p → In q before ⊎ In q (pick b p (new_ones (before ++ (p ∷ [])) ps))
    own true h e = inl (among_in q before (ap (λ (x : Bytes). among x before) e ∙ h))
    own false h e = inr (here e)

    later : (b : Bool) → In q (new_ones (before ++ (p ∷ [])) ps) → In q (pick b p (new_ones (before ++ (p ∷ [])) ps))
    later true j = j
    later false j = there j

    rest : In q before ⊎ (q ≡ p) → In q before ⊎ In q (pick (among p before) p (new_ones (before ++ (p ∷ [])) ps))
    rest (inl k) = inl k
    rest (inr e) = own (among p before) refl e

    found : In q (before ++ (p ∷ [])) ⊎ In q (new_ones (before ++ (p ∷ [])) ps) → In q before ⊎ In q (pick (among p before) p (new_ones (before ++ (p ∷ [])) ps))
    found (inl k) = rest (in_either p before k)
    found (inr j) = inr (later (among p before) j)

    go : In q (p ∷ ps) → (In q ps → In q (before ++ (p ∷ [])) ⊎ In q (new_ones (before ++ (p ∷ [])) ps))
        → In q before ⊎ In q (pick (among p before) p (new_ones (before ++ (p ∷ [])) ps))
    go (here e) f = own (among p before) refl e
    go (there i) f = found (f i)

-- The number of walks is the length of a list that has each quantifier part of the page once, and no other.
pub walks-different : (ws : List Bytes) → (ds : List Bytes) × EachOnce (parts_of ws) ds × (walks_of ws ≡ length ds)
walks-different ws = (
  new_ones [] (parts_of ws),
  record { apart = new_apart [] (parts_of ws); all = λ p i. nothing-before (new-all [] (parts_of ws) i); only = λ p i. (new-only [] (parts_of ws) i).0 },
  new-length [] (parts_of ws),
)
  where
    nothing-before : {p : Bytes} {ds : List Bytes} → In p [] ⊎ In p ds → In p ds
    nothing-before (inl i) = elim i [ ]
    nothing-before (inr i) = i

-- The page's word by its lines'.
there-is : (o : Outcome) (vs : List Verdict) → some_line o vs ≡ true → LineWith (word_number o) vs
unfolding some_line
there-is o [] e = let z : ◌≡◌ {A = ℕ} 0 1 = cc in absurd (omega arith)
there-is o (v ∷ vs) e = go (eqb (word_number v.outcome) (word_number o)) refl e (there-is o vs)
  where
    go : (b : Bool) → eqb (word_number v.outcome) (word_number o) ≡ b → (b || some_line o vs) ≡ true → (some_line o vs ≡ true → LineWith (word_number o) vs)
        → LineWith (word_number o) (v ∷ vs)
    go true h e f = record { place = 0; verdict = v; is = refl; says = eqb-true (word_number v.outcome) (word_number o) h }
    go false h e f = let l = f e in record { place = suc l.place; verdict = l.verdict; is = l.is; says = l.says }

is-there : (o : Outcome) (vs : List Verdict) (j : ℕ) {v : Verdict} → get_elem? vs j ≡ some v → word_number v.outcome ≡ word_number o → some_line o vs ≡ true
unfolding some_line
is-there o [] j q e = let z : ◌≡◌ {A = ℕ} 0 1 = cc in absurd (omega arith)
is-there o (u ∷ us) zero {v} q e = let s : u ≡ v = cc in rw (s, eq-eqb (word_number v.outcome) (word_number o) e)
is-there o (u ∷ us) (suc j) q e = go (eqb (word_number u.outcome) (word_number o)) (is-there o us j q e)
  where
    go : (b : Bool) → some_line o us ≡ true → (b || some_line o us) ≡ true
    go true h = refl
    go false h = h

-- "broken if some line is broken, else idle if some line is idle, else held"
data Worded (vs : List Verdict) : Type 0 where
  broken : LineWith 2 vs → word_number (page_outcome vs) ≡ 2 → Worded vs
  idle : (LineWith 2 vs → ⊥) → LineWith 1 vs → word_number (page_outcome vs) ≡ 1 → Worded vs
  held : (LineWith 2 vs → ⊥) → (LineWith 1 vs → ⊥) → word_number (page_outcome vs) ≡ 0 → Worded vs

worded : (vs : List Verdict) → Worded vs
unfolding page_outcome
worded vs = go (some_line Broken vs) (some_line Idle vs) refl refl
  where
    none_is : (o : Outcome) → some_line o vs ≡ false → LineWith (word_number o) vs → ⊥
    none_is o e l = let z : ◌≡◌ {A = ℕ} 0 1 = cc (is-there o vs l.place l.is l.says, e) in omega arith

    go : (b i : Bool) → some_line Broken vs ≡ b → some_line Idle vs ≡ i → Worded vs
    go true i p q = broken (there-is Broken vs p) (rw p)
    go false true p q = idle (none_is Broken p) (there-is Idle vs q) (rw (p, q))
    go false false p q = held (none_is Broken p) (none_is Idle q) (rw (p, q))

module _ (vs : List Verdict) where
  pub page-broken : (word_number (page_outcome vs) ≡ 2) ↔ LineWith 2 vs
  page-broken = (λ e. to (worded vs) e, λ l. back (worded vs) l)
    where
      to : Worded vs → word_number (page_outcome vs) ≡ 2 → LineWith 2 vs
      to (broken l w) e = l
      to (idle n l w) e = absurd (omega (arith, e, w))
      to (held n m w) e = absurd (omega (arith, e, w))

      back : Worded vs → LineWith 2 vs → word_number (page_outcome vs) ≡ 2
      back (broken l w) x = w
      back (idle n l w) x = absurd (n x)
      back (held n m w) x = absurd (n x)

  pub page-idle : (word_number (page_outcome vs) ≡ 1) ↔ ((LineWith 2 vs → ⊥) × LineWith 1 vs)
  page-idle = (λ e. to (worded vs) e, λ (n, l). back (worded vs) n l)
    where
      to : Worded vs → word_number (page_outcome vs) ≡ 1 → (LineWith 2 vs → ⊥) × LineWith 1 vs
      to (broken l w) e = absurd (omega (arith, e, w))
      to (idle n l w) e = (n, l)
      to (held n m w) e = absurd (omega (arith, e, w))

      back : Worded vs → (LineWith 2 vs → ⊥) → LineWith 1 vs → word_number (page_outcome vs) ≡ 1
      back (broken l w) n x = absurd (n l)
      back (idle m l w) n x = w
      back (held m k w) n x = absurd (k x)

  pub page-held : (word_number (page_outcome vs) ≡ 0) ↔ ((LineWith 2 vs → ⊥) × (LineWith 1 vs → ⊥))
  page-held = (λ e. to (worded vs) e, λ (n, m). back (worded vs) n m)
    where
      to : Worded vs → word_number (page_outcome vs) ≡ 0 → (LineWith 2 vs → ⊥) × (LineWith 1 vs → ⊥)
      to (broken l w) e = absurd (omega (arith, e, w))
      to (idle n l w) e = absurd (omega (arith, e, w))
      to (held n m w) e = (n, m)

      back : Worded vs → (LineWith 2 vs → ⊥) → (LineWith 1 vs → ⊥) → word_number (page_outcome vs) ≡ 0
      back (broken l w) n m = absurd (n l)
      back (idle k l w) n m = absurd (m l)
      back (held k l w) n m = w
