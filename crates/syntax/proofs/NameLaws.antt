-- Laws of names at a place: a fixed text that stands there or not, a chain of tests for the names of a list, numbers, choices.
-- Assumes nothing.
use mathlib.Core.Path.{◌≡◌, refl, sym, ap, ◌∙◌}
use mathlib.Core.Bool.{Bool, true, false, ◌&&◌}
use mathlib.Core.List.{List, [], ◌∷◌, ◌++◌, map}
use mathlib.Core.Option.{none, some}
use Prim.Native.Nat.{ℕ, zero, suc, ◌+◌, ◌-◌, ◌<◌, ◌≤◌}
use native.Mathlib.Numerals.{add-one}
use native.Mathlib.Omega.{arith}
use borrow.Author.Tests.{eq-eqb, ne_eqb, leb-true}
use denote.Ref.{Bor}
use lib.Dec.{leb}
use lib.ListN.{length, get_or, drop, length-drop, length-append, drop_of_length-le}
use lib.Seq.{drop-cons, drop-drop, drop-append_seam}
use Rattle.std.specs.List.{list_all}
use Rattle.std.specs.Prelude.{Option as Maybe, Some, None}
use Rattle.syntax.specs.Bytes.{Bytes, Read, fail, got, give, skip, begins, is_got, branch, either, scan}
use Rattle.syntax.specs.Term.{Term, Choices, named_from, known}
use Rattle.syntax.specs.Code.Arena.{Holds, HoldsAll}
use Rattle.syntax.specs.Code.Reading.{Stands, Signed, Named, no_name, some_name, Choice, Chosen, no_choice, some_choice, Arena, Knows, entries, text_of, number_of, Spelt}
use Rattle.syntax.specs.declared.names.Spelled.{Spelled}
use Rattle.syntax.proofs.BytesLaws.{skip-gives}

-- A fixed text w that stands at `at`.

pub record Hit (s : Bytes) (at : ℕ) (w : Bytes) : Type 0 where
  pub skips : skip w (drop at s) ≡ got tt (drop (at + length w) s)
  pub fits : at + length w ≤ length s

pub hit : {s : Bytes} {at : ℕ} {w : Bytes} {r : Bool} → Stands s at w r → r ≡ true → at ≤ length s → Hit s at w
unfolding begins
hit {s} {at} {w} {r} h e l = go (skip w (drop at s)) refl (sym h.is ∙ e)
  where
    go : (o : Read (Unit {0})) → skip w (drop at s) ≡ o → is_got o ≡ true → Hit s at w
    go fail q z = let z' : ◌≡◌ {A = ℕ} 0 1 = cc in absurd (omega arith)
    go (got u y) q z =
        let d : drop at s ≡ w ++ y = skip-gives w (drop at s) q in
        let y' : drop (at + length w) s ≡ y = sym (drop-drop (length w) at s) ∙ ap (drop (length w)) d ∙ drop-append_seam w y in
        record { skips = q ∙ ap (got tt) (sym y'); fits = omega (arith, length-drop at s, simp length-append at (ap length d)) }

pub miss : {s : Bytes} {at : ℕ} {w : Bytes} {r : Bool} → Stands s at w r → r ≡ false → skip w (drop at s) ≡ fail
unfolding begins
miss {s} {at} {w} {r} h e = go (skip w (drop at s)) refl (sym h.is ∙ e)
  where
    go : (o : Read (Unit {0})) → skip w (drop at s) ≡ o → is_got o ≡ false → skip w (drop at s) ≡ fail
    go fail q z = q
    go (got u y) q z = let z' : ◌≡◌ {A = ℕ} 0 1 = cc in absurd (omega arith)

-- The names of a list from xs on are still to be tried.

pub record From {A : Type 0} (sp : A → Bytes) (all xs : List A) (s : Bytes) (at : ℕ) : Type 0 where
  pub is : scan sp all (drop at s) ≡ scan sp xs (drop at s)
  pub within : at ≤ length s

module _ {A : Type 0} {sp : A → Bytes} {s : Bytes} {at : ℕ} where
  pub from_all : (all : List A) → at ≤ length s → From sp all all s at
  from_all all l = record { is = refl; within = l }

  pub from-these : {all xs : List A} → all ≡ xs → at ≤ length s → From sp all xs s at
  from-these e l = record { is = ap (λ (ys : List A). scan sp ys (drop at s)) e; within = l }

  pub past : {all : List A} (x : A) (xs : List A) {b : Bool} → From sp all (x ∷ xs) s at → Stands s at (sp x) b → b ≡ false → From sp all xs s at
  unfolding scan either
  past x xs f h e = record { is = f.is ∙ rw (miss h e); within = f.within }

  pub here : {all : List A} {number : A → ℕ} (x : A) (xs : List A) {b : Bool} → From sp all (x ∷ xs) s at → Stands s at (sp x) b → b ≡ true → 1 ≤ length (sp x) → Named number s at (Some (record { number = number x; next = at + length (sp x) })) (scan sp all (drop at s))
  unfolding scan either
  here {number = number} x xs f h e l =
      let y = hit h e f.within in
      some_name {h = record { number = number x; next = at + length (sp x) }} (record { thing = x; is = f.is ∙ rw y.skips; number_is = refl; more = omega arith; fits = y.fits })

  pub nowhere : {all : List A} {number : A → ℕ} → From sp all [] s at → Named number s at None (scan sp all (drop at s))
  unfolding scan
  nowhere f = no_name f.is

-- A table from its place i on.

table-cons : (names : List (Bor Bytes × ℕ)) (i : ℕ) (d : Bor Bytes × ℕ) → i < length names → entries (drop i names) ≡ ((get_or names i d).0.now, (get_or names i d).1) ∷ entries (drop (i + 1) names)
table-cons names i d l = rw (drop-cons names i d l, add-one i)

spelt-cons : (x : Bytes × ℕ) (xs : List (Bytes × ℕ)) → Spelt (x ∷ xs) → (1 ≤ length (text_of x)) × Spelt xs
spelt-cons x xs h = go (leb 1 (length (text_of x))) refl h
  where
    go : (b : Bool) → leb 1 (length (text_of x)) ≡ b → (b && list_all (λ y. leb 1 (length (text_of y))) xs) ≡ true → (1 ≤ length (text_of x)) × Spelt xs
    go true e q = (leb-true 1 (length (text_of x)) e, q)
    go false e q = let z : ◌≡◌ {A = ℕ} 0 1 = cc q in absurd (omega arith)

module _ {all : List (Bytes × ℕ)} {s : Bytes} {at : ℕ} {b : Bool} (names : List (Bor Bytes × ℕ)) (i : ℕ) (d : Bor Bytes × ℕ) (f : From text_of all (entries (drop i names)) s at) (k : Spelt (entries (drop i names))) (l : i < length names) (h : Stands s at (get_or names i d).0.now b) where
  pub table-here : b ≡ true → Named number_of s at (Some (record { number = (get_or names i d).1; next = at + length (get_or names i d).0.now })) (scan text_of all (drop at s))
  table-here e =
      let q = table-cons names i d l in
      here {number = number_of} ((get_or names i d).0.now, (get_or names i d).1) (entries (drop (i + 1) names)) (rw q at f) h e (spelt-cons ((get_or names i d).0.now, (get_or names i d).1) (entries (drop (i + 1) names)) (rw q at k)).0

  pub table-past : b ≡ false → From text_of all (entries (drop (i + 1) names)) s at × Spelt (entries (drop (i + 1) names))
  table-past e =
      let q = table-cons names i d l in
      (past ((get_or names i d).0.now, (get_or names i d).1) (entries (drop (i + 1) names)) (rw q at f) h e, (spelt-cons ((get_or names i d).0.now, (get_or names i d).1) (entries (drop (i + 1) names)) (rw q at k)).1)

-- The first byte of a name is another than that at the place.
other : (p s : Bytes) (at : ℕ) → 1 ≤ length p → at < length s → (get_or p 0 0 ≡ get_or s at 0 → ⊥) → Stands s at p false
unfolding begins skip
other [] s at k l n = absurd (omega arith)
other (x ∷ p) s at k l n = record { is = rw (drop-cons s at 0 l, ne_eqb x (get_or s at 0) n) }

pub table-other : {all : List (Bytes × ℕ)} {s : Bytes} {at b : ℕ} (names : List (Bor Bytes × ℕ)) (i : ℕ) (d : Bor Bytes × ℕ) → From text_of all (entries (drop i names)) s at → Spelt (entries (drop i names)) → i < length names → at < length s → b ≡ get_or s at 0 → (get_or (get_or names i d).0.now 0 0 ≡ b → ⊥) → From text_of all (entries (drop (i + 1) names)) s at × Spelt (entries (drop (i + 1) names))
table-other {s = s} {at = at} names i d f k l m e n =
    let x : Bytes × ℕ = ((get_or names i d).0.now, (get_or names i d).1) in
    table-past names i d f k l (other (get_or names i d).0.now s at (spelt-cons x (entries (drop (i + 1) names)) (rw (table-cons names i d l) at k)).0 m (λ q. n (q ∙ sym e))) refl

-- No byte is at the place.
skip-none : (p : Bytes) → 1 ≤ length p → skip p [] ≡ fail
unfolding skip
skip-none [] k = absurd (omega arith)
skip-none (x ∷ p) k = refl

spelt-none : (xs : List (Bytes × ℕ)) → Spelt xs → scan text_of xs [] ≡ fail
unfolding scan either
spelt-none [] h = refl
spelt-none (x ∷ xs) h = let y = spelt-cons x xs h in rw (skip-none (text_of x) y.0) (spelt-none xs y.1)

pub table-none : {s : Bytes} {at : ℕ} (names : List (Bor Bytes × ℕ)) → length s ≤ at → Spelt (entries names) → Named number_of s at None (scan text_of (entries names) (drop at s))
table-none {s} names l k = no_name (rw (drop_of_length-le s l) (spelt-none (entries names) k))

pub table-end : {all : List (Bytes × ℕ)} {s : Bytes} {at : ℕ} (i : ℕ) (names : List (Bor Bytes × ℕ)) → From text_of all (entries (drop i names)) s at → length names ≤ i → Named number_of s at None (scan text_of all (drop at s))
table-end i names f l = nowhere (rw (drop_of_length-le names l) at f)

-- A table behind another: a name of the first stands there, or one of the second.

scan-found : (xs ys : List (Bytes × ℕ)) (s r : Bytes) {x : Bytes × ℕ} → scan text_of xs s ≡ got x r → scan text_of (xs ++ ys) s ≡ got x r
unfolding scan either
scan-found [] ys s r e = let z : ◌≡◌ {A = ℕ} 0 1 = cc in absurd (omega arith)
scan-found (x ∷ xs) ys s r {x = y} e = go (skip (text_of x) s) refl (λ h. scan-found xs ys s r h) e
  where
    go : (o : Read (Unit {0})) → skip (text_of x) s ≡ o → (scan text_of xs s ≡ got y r → scan text_of (xs ++ ys) s ≡ got y r) → branch o (give x) (scan text_of xs) s ≡ got y r → scan text_of (x ∷ xs ++ ys) s ≡ got y r
    go fail q h e = rw q (h e)
    go (got u w) q h e = rw q e

scan-passed : (xs ys : List (Bytes × ℕ)) (s : Bytes) → scan text_of xs s ≡ fail → scan text_of (xs ++ ys) s ≡ scan text_of ys s
unfolding scan either
scan-passed [] ys s e = refl
scan-passed (x ∷ xs) ys s e = go (skip (text_of x) s) refl (λ h. scan-passed xs ys s h) e
  where
    go : (o : Read (Unit {0})) → skip (text_of x) s ≡ o → (scan text_of xs s ≡ fail → scan text_of (xs ++ ys) s ≡ scan text_of ys s) → branch o (give x) (scan text_of xs) s ≡ fail → scan text_of (x ∷ xs ++ ys) s ≡ scan text_of ys s
    go fail q h e = rw q (h e)
    go (got u w) q h e = let z : ◌≡◌ {A = ℕ} 0 1 = cc in absurd (omega arith)

pub in-first : {s : Bytes} {at : ℕ} {h : Spelled} (xs ys : List (Bytes × ℕ)) → Named number_of s at (Some h) (scan text_of xs (drop at s)) → Named number_of s at (Some h) (scan text_of (xs ++ ys) (drop at s))
in-first {s} {at} xs ys (some_name {h = w} y) =
    some_name {h = w} (record { thing = y.thing; is = scan-found xs ys (drop at s) (drop w.next s) y.is; number_is = y.number_is; more = y.more; fits = y.fits })

pub in-second : {s : Bytes} {at : ℕ} {h : Maybe Spelled} (xs ys : List (Bytes × ℕ)) → Named number_of s at None (scan text_of xs (drop at s)) → Named number_of s at h (scan text_of ys (drop at s)) → Named number_of s at h (scan text_of (xs ++ ys) (drop at s))
in-second {s} {at} xs ys (no_name q) n = rw (scan-passed xs ys (drop at s) q) n

-- A table that spells and numbers the things of a list.

data Told {A : Type 0} (sp : A → Bytes) (number : A → ℕ) : Read A → Read (Bytes × ℕ) → Type 0 where
  untold : Told sp number fail fail
  told : (x : A) (r : Bytes) → Told sp number (got x r) (got (sp x, number x) r)

scan-told : {A : Type 0} (sp : A → Bytes) (number : A → ℕ) (xs : List A) (s : Bytes) → Told sp number (scan sp xs s) (scan text_of (map (λ (x : A). (sp x, number x)) xs) s)
unfolding scan either
scan-told sp number [] s = untold
scan-told {A} sp number (x ∷ xs) s = go (skip (sp x) s) refl (scan-told sp number xs s)
  where
    go : (o : Read (Unit {0})) → skip (sp x) s ≡ o → Told sp number (scan sp xs s) (scan text_of (map (λ (y : A). (sp y, number y)) xs) s) → Told sp number (scan sp (x ∷ xs) s) (scan text_of (map (λ (y : A). (sp y, number y)) (x ∷ xs)) s)
    go fail q h = rw q h
    go (got u r) q h = rw q (told x r)

as-told : {A : Type 0} {sp : A → Bytes} {number : A → ℕ} {s : Bytes} {at : ℕ} {h : Maybe Spelled} {r : Read A} {r' : Read (Bytes × ℕ)} → Told sp number r r' → Named number_of s at h r' → Named number s at h r
as-told untold (no_name q) = no_name refl
as-told untold (some_name y) = let z : ◌≡◌ {A = ℕ} 0 1 = cc y.is in absurd (omega arith)
as-told (told x r) (no_name q) = let z : ◌≡◌ {A = ℕ} 0 1 = cc in absurd (omega arith)
as-told {sp = sp} {number = number} {s = s} (told x r) (some_name {h = w} y) =
    let t : (sp x, number x) ≡ y.thing = cc y.is in
    let d : r ≡ drop w.next s = cc y.is in
    some_name {h = w} (record { thing = x; is = ap (got x) d; number_is = ap number_of t ∙ y.number_is; more = y.more; fits = y.fits })

pub retold : {A : Type 0} {number : A → ℕ} {s : Bytes} {at : ℕ} {h : Maybe Spelled} {names : List (Bytes × ℕ)} (sp : A → Bytes) (xs : List A) → names ≡ map (λ (x : A). (sp x, number x)) xs → Named number_of s at h (scan text_of names (drop at s)) → Named number s at h (scan sp xs (drop at s))
retold {number = number} {s = s} {at = at} sp xs e n = as-told (scan-told sp number xs (drop at s)) (rw e at n)

-- What a name was.

pub as-unknown : {A : Type 0} {number : A → ℕ} {s : Bytes} {at : ℕ} {r : Read A} → Named number s at None r → r ≡ fail
as-unknown (no_name e) = e

-- For the way out of a `?`.
pub unnamed : {A : Type 0} {number : A → ℕ} {s : Bytes} {at : ℕ} {h : Maybe Spelled} {r : Read A} → h ≡ None → r ≡ fail → Named number s at h r
unnamed q e = rw q (no_name e)

pub as-name : {A : Type 0} {number : A → ℕ} {s : Bytes} {at : ℕ} {h : Spelled} {r : Read A} → Named number s at (Some h) r → Signed number s at h.number h.next r
as-name (some_name x) = x

-- Choices: the digit of the choice of index i is the byte 49 + i.

named-low : (d : ℕ) (σ : Choices) (c : ℕ) → c < d → named_from d σ c ≡ none
unfolding named_from
named-low d [] c h = refl
named-low d (x ∷ σ) c h = rw (ne_eqb d c (omega arith), named_from) (named-low (suc d) σ c (omega arith))

named-high : (d : ℕ) (σ : Choices) (c : ℕ) → d + length σ ≤ c → named_from d σ c ≡ none
unfolding named_from
named-high d [] c h = refl
named-high d (x ∷ σ) c h = rw (ne_eqb d c (omega arith), named_from) (named-high (suc d) σ c (omega arith))

known-none : (s : Bytes) (at : ℕ) (σ : Choices) → at < length s → named_from 49 σ (get_or s at 0) ≡ none → known σ (drop at s) ≡ fail
unfolding known
known-none s at σ h e = rw (drop-cons s at 0 h, e, known)

module _ {s : Bytes} {at : ℕ} {vars : List ℕ} where
  pub choice-end : length s ≤ at → Chosen s at vars None
  unfolding known
  choice-end h = no_choice (λ σ e. rw (drop_of_length-le s h))

  pub choice-low : at < length s → get_or s at 0 < 49 → Chosen s at vars None
  choice-low h l = no_choice (λ σ e. known-none s at σ h (named-low 49 σ (get_or s at 0) l))

  pub choice-high : at < length s → 49 ≤ get_or s at 0 → length vars ≤ get_or s at 0 - 49 → Chosen s at vars None
  choice-high h l m = no_choice (λ σ e. known-none s at σ h (named-high 49 σ (get_or s at 0) (omega arith)))

  pub choice-is : {c v : ℕ} → at < length s → 49 ≤ c → c ≡ get_or s at 0 → c - 49 < length vars → v ≡ get_or vars (c - 49) 0 → Chosen s at vars (Some (record { number = v; next = at + 1 }))
  choice-is {c} {v} h l e m n =
      some_choice {h = record { number = v; next = at + 1 }} (record { index = c - 49; byte = omega arith; known = m; node = sym n; behind = refl; fits = omega arith })

pub as-no-choice : {s : Bytes} {at : ℕ} {vars : List ℕ} → Chosen s at vars None → (σ : Choices) → length σ ≡ length vars → known σ (drop at s) ≡ fail
as-no-choice (no_choice f) = f

pub as-choice : {s : Bytes} {at : ℕ} {vars : List ℕ} {h : Spelled} → Chosen s at vars (Some h) → Choice s at vars h.number h.next
as-choice (some_choice x) = x

-- The nodes of as many choices; the choice of index i is the term at the node of that index.

pub all-length : (ns vs : List ℕ) (σ : Choices) → HoldsAll ns vs σ → length σ ≡ length vs
all-length ns [] [] h = refl
all-length ns [] (a ∷ σ) h = absurd h
all-length ns (v ∷ vs) [] h = absurd h
all-length ns (v ∷ vs) (a ∷ σ) h = ap suc (all-length ns vs σ h.1)

pub knows-length : {a : Arena} {vars : List ℕ} {σ : Choices} → Knows a vars σ → length σ ≡ length vars
knows-length {a} {vars} {σ} w = all-length a.nodes vars σ w.holds

pub record Meant (ns : List ℕ) (v : ℕ) (σ : Choices) (s : Bytes) (at : ℕ) : Type 0 where
  pub term : Term
  pub reads : known σ (drop at s) ≡ got term (drop (at + 1) s)
  pub holds : Holds ns v term

named-at : (d : ℕ) (ns vs : List ℕ) (σ : Choices) (i : ℕ) → i < length vs → HoldsAll ns vs σ → (t : Term) × (named_from d σ (d + i) ≡ some t) × Holds ns (get_or vs i 0) t
unfolding named_from
named-at d ns [] σ i h x = absurd (omega arith)
named-at d ns (v ∷ vs) [] i h x = absurd x
named-at d ns (v ∷ vs) (a ∷ σ) zero h x = (a, rw (eq-eqb d (d + 0) (omega arith), named_from), x.0)
named-at d ns (v ∷ vs) (a ∷ σ) (suc i) h x =
    let q : d + suc i ≡ suc d + i = omega arith in
    let y = named-at (suc d) ns vs σ i (omega arith) x.1 in
    (y.0, rw (ne_eqb d (d + suc i) (omega arith), q, named_from) y.1, y.2)

pub meant : {s : Bytes} {at : ℕ} {vars : List ℕ} {v e : ℕ} (ns : List ℕ) (σ : Choices) → Choice s at vars v e → HoldsAll ns vars σ → Meant ns v σ s at
unfolding known
meant {s} {at} {vars} {v} ns σ x h =
    let y = named-at 49 ns vars σ x.index x.known h in
    let l : at < length s = omega (arith, x.fits) in
    let q : get_or vars x.index 0 ≡ v = x.node in
    record { term = y.0; reads = rw (drop-cons s at 0 l, x.byte, y.1, add-one at, known); holds = rw q at y.2 }
