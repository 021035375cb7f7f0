-- Laws of `Starts` and `Spans`: the search for a separator from a place of a text on.
-- Assumes nothing.
use mathlib.Core.Path.{◌≡◌, refl, ◌∙◌}
use mathlib.Core.List.{List, [], ◌∷◌}
use mathlib.Core.Option.{Option, none, some}
use Prim.Native.Nat.{ℕ, zero, suc, ◌+◌, ◌-◌, ◌≤◌, ◌<◌}
use native.Mathlib.Decide.{ℕ_discrete}
use native.Mathlib.Omega.{arith}
use lib.ListN.{length, take, drop, get_elem?, length-drop, drop_of_length-le}
use lib.Seq.{take-length, take_all, take-nil, drop-drop}
use Rattle.texts.specs.Scan.{slice, index_of}
use Rattle.std.specs.Prelude.{Some, None}
use Rattle.texts.specs.declared.Span.{Span}
use Rattle.texts.specs.Pieces.{split, on_first, lines}
use Rattle.texts.specs.Code.Spans.{Spans, no_piece, piece, Starts, no_start, start, Sought}
use Rattle.texts.proofs.PiecesLaws.{split-first, split-few, split_one}

pub sought : {c : ℕ} {s : List ℕ} {at e : ℕ} → at ≤ length s → e ≡ at + index_of c (slice at (length s) s) → e ≤ length s → Sought c s at e
unfolding slice
sought {c} {s} {at} {e} a p h =
    let q : e ≡ at + index_of c (drop at s) = rw take-length at p in
    record { low = omega arith; high = h; rest = length-drop at s; place = omega arith }

module _ {c : ℕ} {s : List ℕ} {at e : ℕ} (f : Sought c s at e) where
  -- A separator was found: one piece, and those behind it.
  pub first_piece : (final : List (List ℕ)) → (e ≡ length s → ⊥) → split c final (drop at s) ≡ take (e - at) (drop at s) ∷ split c final (drop (e + 1) s)
  first_piece final n =
      let l : index_of c (drop at s) < length (drop at s) = omega (arith, f.low, f.high, f.rest, f.place) in
      let d : at + suc (e - at) ≡ e + 1 = omega (arith, f.low) in
      split-first c final (drop at s) l ∙ rw (f.place, drop-drop, d)

  pub few-pieces : (final : List (List ℕ)) → length final ≤ 1 → e ≡ length s → length (split c final (drop at s)) ≤ 1
  few-pieces final o q = split-few c final (drop at s) o (omega (arith, f.rest, f.place))

  pub one_piece : (final : List (List ℕ)) → ((x : ℕ) → on_first x final ≡ (x ∷ []) ∷ []) → (at ≡ length s → ⊥) → e ≡ length s → split c final (drop at s) ≡ take (e - at) (drop at s) ∷ []
  one_piece final o n q =
      let l : length (drop at s) ≤ e - at = omega (arith, f.rest) in
      split_one c final (drop at s) o (omega (arith, n, f.low, f.high, f.rest)) (omega (arith, f.rest, f.place)) ∙ rw (take_all (e - at) (drop at s) l)

-- The line that begins at a place, and those behind it.
pub next-line : {s : List ℕ} {at e : ℕ} → Sought 10 s at e → at < length s → lines (drop at s) ≡ take (e - at) (drop at s) ∷ lines (drop (e + 1) s)
unfolding split
next-line {s} {at} {e} f h = go (ℕ_discrete e (length s))
  where
    go : Dec (e ≡ length s) → split 10 [] (drop at s) ≡ take (e - at) (drop at s) ∷ split 10 [] (drop (e + 1) s)
    go (yes q) = one_piece f [] (λ x. refl) (λ n. omega arith) q ∙ rw (drop_of_length-le s {i = e + 1} (omega arith))
    go (no n) = first_piece f [] n

-- Piece k of s is piece n of what stands from `at` on, however s ends.
pub record Along (c k : ℕ) (s : List ℕ) (at n : ℕ) : Type 0 where
  pub same : (final : List (List ℕ)) → get_elem? (split c final s) k ≡ get_elem? (split c final (drop at s)) n

pub along-first : (c k : ℕ) (s : List ℕ) → Along c k s 0 k
along-first c k s = record { same = λ final. refl }

pub along-next : {c k : ℕ} {s : List ℕ} {at e n m : ℕ} → Along c k s at n → Sought c s at e → (e ≡ length s → ⊥) → n ≡ suc m → Along c k s (e + 1) m
along-next {m = m} a f x p =
    record { same = λ final. a.same final ∙ rw (p, first_piece f final x) }

pub beyond : (ws : List (List ℕ)) (n : ℕ) → length ws ≤ n → get_elem? ws n ≡ none
beyond [] n h = refl
beyond (w ∷ ws) zero h = absurd (omega arith)
beyond (w ∷ ws) (suc n) h = beyond ws n (omega arith)

pub along-none : {c k : ℕ} {s : List ℕ} {at e n : ℕ} → Along c k s at n → Sought c s at e → e ≡ length s → 0 < n → Starts c k s None
along-none {c} {s = s} {at = at} {n = n} a f x p =
    no_start (λ final o. let l : length (split c final (drop at s)) ≤ n = omega (arith, few-pieces f final o x) in a.same final ∙ beyond (split c final (drop at s)) n l)

pub along-start : {c k : ℕ} {s : List ℕ} {at n : ℕ} → at ≤ length s → Along c k s at n → n ≡ 0 → Starts c k s (Some at)
along-start h a z = start h (rw z at a.same)

-- What an answer of the search for piece k says.
pub at-nowhere : {c k : ℕ} {s : List ℕ} → Starts c k s None → (final : List (List ℕ)) → length final ≤ 1 → Spans s (get_elem? (split c final s) k) None
at-nowhere (no_start n) final o = no_piece (n final o)

pub record Begun (c k : ℕ) (s : List ℕ) (a : ℕ) : Type 0 where
  pub within : a ≤ length s
  pub same : (final : List (List ℕ)) → get_elem? (split c final s) k ≡ get_elem? (split c final (drop a s)) 0

pub at-start : {c k : ℕ} {s : List ℕ} {a : ℕ} → Starts c k s (Some a) → Begun c k s a
at-start (start h e) = record { within = h; same = e }

-- The piece that begins at a: up to the separator, or to the end.
pub piece-found : {c k : ℕ} {s : List ℕ} {a e : ℕ} (final : List (List ℕ)) → Begun c k s a → Sought c s a e → ((e ≡ length s) → split c final (drop a s) ≡ take (e - a) (drop a s) ∷ []) → Spans s (get_elem? (split c final s) k) (Some (record { start = a; end = e }))
piece-found {c} {k} {s} {a} {e} final b f one = go (ℕ_discrete e (length s))
  where
    go : Dec (e ≡ length s) → Spans s (get_elem? (split c final s) k) (Some (record { start = a; end = e }))
    go (yes q) = piece {p = record { start = a; end = e }} f.low f.high (b.same final ∙ rw (one q))
    go (no n) = piece {p = record { start = a; end = e }} f.low f.high (b.same final ∙ rw (first_piece f final n))

pub line-found : {k : ℕ} {s : List ℕ} {a e : ℕ} → Begun 10 k s a → Sought 10 s a e → (a ≡ length s → ⊥) → Spans s (get_elem? (split 10 [] s) k) (Some (record { start = a; end = e }))
line-found b f n = piece-found [] b f (λ q. one_piece f [] (λ x. refl) n q)

pub no_line : {k : ℕ} {s : List ℕ} {a : ℕ} → Begun 10 k s a → a ≡ length s → Spans s (get_elem? (split 10 [] s) k) None
unfolding split
no_line {k} {s} {a} b q = no_piece (b.same [] ∙ rw (drop_of_length-le s {i = a} (omega arith)))

pub field_found : {k : ℕ} {s : List ℕ} {a e : ℕ} → Begun 32 k s a → Sought 32 s a e → Spans s (get_elem? (split 32 ([] ∷ []) s) k) (Some (record { start = a; end = e }))
unfolding split
field_found {k} {s} {a} {e} b f = piece-found ([] ∷ []) b f (λ q. go q (ℕ_discrete a (length s)))
  where
    go : e ≡ length s → Dec (a ≡ length s) → split 32 ([] ∷ []) (drop a s) ≡ take (e - a) (drop a s) ∷ []
    go q (no n) = one_piece f ([] ∷ []) (λ x. refl) n q
    go q (yes p) = rw (drop_of_length-le s {i = a} (omega arith), take-nil)

-- What a piece that was found says of its places and its bytes.
pub record Lies (s : List ℕ) (w : Option (List ℕ)) (a e : ℕ) : Type 0 where
  pub low : a ≤ e
  pub high : e ≤ length s
  pub bytes : w ≡ some (take (e - a) (drop a s))

pub lies : {s : List ℕ} {w : Option (List ℕ)} {p : Span} → Spans s w (Some p) → Lies s w p.start p.end
lies (piece l h t) = record { low = l; high = h; bytes = t }

pub missing : {s : List ℕ} {w : Option (List ℕ)} → Spans s w None → w ≡ none
missing (no_piece n) = n
