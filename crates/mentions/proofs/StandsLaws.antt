-- A text that stands in another, place by place: what the loop over the places needs.
-- Assumes nothing.
use mathlib.Core.Path.{◌≡◌, sym, ap, ◌∙◌}
use mathlib.Core.Bool.{Bool, true, false, ◌||◌}
use Prim.Native.Nat.{ℕ, suc, ◌+◌, ◌≤◌, ◌<◌}
use native.Mathlib.Numerals.{add-one}
use native.Mathlib.Omega.{arith}
use lib.ListN.{length, drop, drop_of_length-le}
use lib.Seq.{drop-cons}
use Rattle.syntax.specs.Bytes.{Bytes}
use Rattle.syntax.specs.Code.Reading.{Stands}
use Rattle.mentions.specs.Mention.{stands}

-- The answer from i on is the answer.
pub record Onward (p s : Bytes) (i : ℕ) : Type 0 where
  pub within : i ≤ length s
  pub same : stands p s ≡ stands p (drop i s)

module _ {p s : Bytes} {i : ℕ} (o : Onward p s i) where
  -- p stands at i, or further on, as the test r says.
  at_place : {r : Bool} → i < length s → Stands s i p r → stands p s ≡ (r || stands p (drop (suc i) s))
  unfolding stands
  at_place l h = o.same ∙ rw (h.is, drop-cons s i 0 l)

  pub onward-hit : {r : Bool} → i < length s → Stands s i p r → r ≡ true → true ≡ stands p s
  onward-hit l h e = sym (rw e at (at_place l h))

  pub onward-next : {r : Bool} → i < length s → Stands s i p r → r ≡ false → Onward p s (i + 1)
  onward-next l h e = record { within = omega arith; same = rw add-one (rw e at (at_place l h)) }

  pub onward-none : length s ≤ i → false ≡ stands p s
  unfolding stands
  onward-none l = sym (o.same ∙ ap (stands p) (drop_of_length-le s l))
