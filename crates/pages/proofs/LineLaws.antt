-- Laws of a page's lines: how many they are, and which one stands at a place.
-- Assumes nothing.
use mathlib.Core.Path.{◌≡◌, refl, ap}
use mathlib.Core.List.{List, [], ◌∷◌}
use mathlib.Core.Option.{some}
use Prim.Native.Nat.{ℕ, zero, suc, ◌+◌, ◌-◌, ◌≤◌, ◌<◌}
use native.Mathlib.Omega.{arith}
use lib.ListN.{length, get_or, get_elem?, take, drop, drop_of_length-le}
use Rattle.syntax.specs.Bytes.{Bytes}
use Rattle.texts.specs.Pieces.{split, lines}
use Rattle.texts.specs.Code.Spans.{Spans, Sought}
use Rattle.std.specs.Prelude.{Some, None}
use Rattle.texts.specs.declared.Span.{Span}
use Rattle.texts.proofs.SpansLaws.{next-line, lies, missing}
use Rattle.pages.specs.Code.Parts.{line_at, Counted, Counting}

-- The member at a place.
some_at : {A : Type 0} (ws : List A) (k : ℕ) (d : A) {w : A} → get_elem? ws k ≡ some w → get_or ws k d ≡ w
some_at [] k d e = let z : ◌≡◌ {A = ℕ} 0 1 = cc in absurd (omega arith)
some_at (x ∷ ws) zero d e = cc
some_at (x ∷ ws) (suc k) d e = some_at ws k d e

pub at_some : {A : Type 0} (ws : List A) (k : ℕ) (d : A) → k < length ws → get_elem? ws k ≡ some (get_or ws k d)
at_some [] k d h = absurd (omega arith)
at_some (x ∷ ws) zero d h = refl
at_some (x ∷ ws) (suc k) d h = at_some ws k d (omega arith)

module _ (page : Bytes) (k : ℕ) where
  pub line-is : {p : Span} → Spans page (get_elem? (lines page) k) (Some p) → line_at page k ≡ take (p.end - p.start) (drop p.start page)
  line-is s = some_at (lines page) k [] (lies s).bytes

  pub line-there : {A : Type 0} → Spans page (get_elem? (lines page) k) None → k < length (lines page) → A
  line-there s h =
      let z : ◌≡◌ {A = ℕ} 0 1 = cc (at_some (lines page) k [] h, missing s) in
      absurd (omega arith)

-- Counting lines: one more, all.
pub counting-next : {page : Bytes} {at n e : ℕ} → Counting page at n → n ≤ 32 → Sought 10 page at e → at < length page → Counting page (e + 1) (n + 1)
counting-next {page} {at} {n} {e} c few f h = record { sofar = omega (arith, c.sofar, ap length (next-line f h)); few = omega arith }

pub counting-all : {page : Bytes} {at n : ℕ} → Counting page at n → length page ≤ at → Counted (length (lines page)) n
unfolding split
counting-all {page} {at} {n} c h =
    let none_left : length (lines (drop at page)) ≡ 0 = rw (drop_of_length-le page {i = at} h) in
    let all : n ≡ length (lines page) = omega (arith, c.sofar) in
    record { few = λ q. all; many = λ q. omega arith }
