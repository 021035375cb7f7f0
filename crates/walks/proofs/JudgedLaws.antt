-- What judging gives along the caller's order, from what was counted along orders of its own.
-- Assumes nothing.
use mathlib.Core.Path.{◌≡◌, refl, sym, ap, ◌∙◌}
use mathlib.Core.Bool.{Bool}
use mathlib.Core.List.{List}
use Prim.Native.Nat.{ℕ, ◌+◌, ◌<◌, ◌≤◌}
use native.Mathlib.Omega.{arith}
use lib.ListN.{length, get_or, set, take, drop}
use lib.Seq.{take-take}
use Rattle.words.specs.Words.{has}
use Rattle.walks.specs.Choices.{Sets, each, if_breaks, nothing_chosen}
use Rattle.walks.specs.Walk.{walk, choice_bytes}
use Rattle.walks.specs.Meaning.{Once, After, Reads}
use Rattle.walks.specs.Code.Tally.{Walked}
use Rattle.walks.specs.Code.Clauses.{Clauses, breaks_any, Levelled, ModeIs, weight_of}
use Rattle.walks.specs.Code.Summed.{Least}
use Rattle.walks.specs.Code.Kept.{Counted}
use Rattle.walks.specs.Code.Turning.{below_at, Descending}
use Rattle.walks.proofs.ClauseLaws.{weight-mode}
use Rattle.walks.proofs.DescentLaws.{none-breaks, descending-step, descending-end, own-counts}
use Rattle.walks.proofs.TurningLaws.{counted-breaks, least-breaks}

module _ (s : Sets) (names : ℕ → ℕ → Bool) (law : Reads s names) (K : Clauses) (n : ℕ) (order : List ℕ) (once : Once n order) (after : After names order)
    (own : List ℕ) (once' : Once n own) (after' : After names own) (levels : List ℕ) (L : Levelled K own levels) where
  -- the counts along our own order, from a choice of the variables in which both begin, are those along the caller's
  module _ {mode d full breaking : ℕ} {c : List ℕ} (same : take d own ≡ take d order) (p : Counted s K levels own mode d c full breaking) where
    pub own-full : full ≡ walk 64 s each (drop d order) c
    own-full = p.fulls ∙ own-counts s names law (breaks_any K) n order once after each own once' after' d same c

    pub own-breaking : ModeIs K levels mode (d + 1) c → breaking ≡ walk 64 s (if_breaks (breaks_any K)) (drop d order) c
    own-breaking h =
        counted-breaks s K levels own L h p ∙ own-counts s names law (breaks_any K) n order once after (if_breaks (breaks_any K)) own once' after' d same c

  -- one turn of the descent, where both orders begin alike up to its variable: the least item below which something counts, where something
  -- does, is the next item of the first breaking choice
  pub turn-least : (base : List ℕ) (mode d : ℕ) (c : List ℕ) → d < length order → d < length own → take (d + 1) own ≡ take (d + 1) order → ModeIs K levels mode (d + 1) c
      → (w : ℕ) → ((x : ℕ) → s (get_or order d 0) c x ≡ has w x) → Descending s (breaks_any K) order base d c
      → (x : ℕ) → (0 < walk 64 s (weight_of K levels mode (d + 1)) (drop d own) c → Least w (below_at s (weight_of K levels mode (d + 1)) own d c) x)
      → Descending s (breaks_any K) order base (d + 1) (set c (get_or order d 0) x)
  turn-least base mode d c lo lo' same right w set_is h x least =
      let begun : take d own ≡ take d order = sym (take-take d (d + 1) own (omega arith)) ∙ ap (take d) same ∙ take-take d (d + 1) order (omega arith) in
      let counts = own-counts s names law (breaks_any K) n order once after (if_breaks (breaks_any K)) own once' after' d begun c in
      let weighs = weight-mode K own levels L 64 s mode (d + 1) d (omega arith) c right in
      descending-step s names law (breaks_any K) n order once after base own once' after' d lo same w c set_is x
      (least-breaks s K levels own L mode d c lo' right w x (least (omega (arith, h.some, counts, weighs)))) h

  -- ---- the tally

  module _ (base : List ℕ) {mode full breaking : ℕ} (p : Counted s K levels own mode 0 base full breaking) (right : ModeIs K levels mode 1 base) where
    pub judged-none : breaking ≡ 0 → Walked s (breaks_any K) order base (record { full = full; breaking = breaking; first = nothing_chosen })
    judged-none z = record {
      fulls = own-full refl p;
      breakings = own-breaking refl p right;
      firsts = ap choice_bytes (sym (none-breaks 64 s (breaks_any K) order base (sym (own-breaking refl p right) ∙ z)));
    }

    pub judged-some : (d : ℕ) (first : List ℕ) → length order ≤ d → Descending s (breaks_any K) order base d first
        → Walked s (breaks_any K) order base (record { full = full; breaking = breaking; first = first })
    judged-some d first l h = record {
      fulls = own-full refl p;
      breakings = own-breaking refl p right;
      firsts = ap choice_bytes (sym (descending-end s names law (breaks_any K) n order once after base d first l h));
    }
