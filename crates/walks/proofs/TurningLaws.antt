-- One turn of judging: a whole choice, the loop over a variable's items, the last variable without a loop, and that every sum fits.
-- Assumes nothing.
use mathlib.Core.Path.{◌≡◌, sym, ap, ◌∙◌}
use mathlib.Core.Bool.{Bool, true, not}
use mathlib.Core.List.{List, [], ◌∷◌}
use Prim.Native.Nat.{ℕ, zero, suc, ◌+◌, ◌-◌, ◌<◌, ◌≤◌, ◌^◌}
use native.Mathlib.Omega.{arith}
use lib.Dec.{lit≤}
use lib.ListN.{length, get_or, set, drop, drop_of_length-le, length-drop}
use Rattle.words.specs.Words.{has, size_of, item_of, less_of}
use Rattle.walks.specs.Choices.{Sets, each, if_breaks, sum_over}
use Rattle.walks.specs.Walk.{walk}
use Rattle.walks.specs.Code.Clauses.{Clauses, false_in, breaks_any, level_is, level_from, Levelled, ModeIs, weight_of, mode_of}
use Rattle.walks.specs.Code.Summed.{Summed, Least}
use Rattle.walks.specs.Code.Kept.{Counted}
use Rattle.walks.specs.Code.Turning.{below_at, Turning}
use Rattle.walks.proofs.SumLaws.{gate-le}
use Rattle.walks.proofs.OrderLaws.{at}
use Rattle.walks.proofs.ClauseLaws.{weight-step, weight-end, weight-mode, mode-stays}
use Rattle.walks.proofs.SummedLaws.{summed-start, summed-step, summed-end, summed-le, walk-items, last-size, walk-small}
use Rattle.walks.proofs.SummedLaws.{least-ext}

module _ (s : Sets) (K : Clauses) (levels order : List ℕ) where
  -- a weight is at most 1
  weight-le : (mode e : ℕ) (c : List ℕ) → weight_of K levels mode e c ≤ 1
  unfolding weight_of
  weight-le zero e c = lit≤ tt
  weight-le (suc mode) e c = gate-le (false_in K (level_from levels e) c) 1

  drop-short : (d : ℕ) → length order ≤ 8 → length (drop d order) ≤ 8
  drop-short d l = omega (arith, length-drop d order)

  -- every count fits, with one more
  pub counted-small : {mode d full breaking : ℕ} {c : List ℕ} → length order ≤ 8 → Counted s K levels order mode d c full breaking
      → (full ≤ 64 ^ 8) × (breaking ≤ 64 ^ 8)
  counted-small {mode} {d} {full} {breaking} {c} l p = (
    omega (arith, p.fulls, walk-small s each (λ k. lit≤ tt) (drop d order) c (drop-short d l)),
    omega (arith, p.breakings, walk-small s (weight_of K levels mode (d + 1)) (weight-le mode (d + 1)) (drop d order) c (drop-short d l)),
  )

  -- ---- the loop over the items of the variable at depth d

  module _ (mode d : ℕ) (c : List ℕ) (w : ℕ) where
    pub turning-start : w < 2 ^ 64 → Turning s K levels order mode d c w w 0 0
    turning-start l = record { fulls = summed-start w _ l; breakings = summed-start w _ l }

    module _ (lo : d < length order) (set_is : (x : ℕ) → s (get_or order d 0) c x ≡ has w x) where
      pub turning-end : {rest full breaking : ℕ} → Turning s K levels order mode d c w rest full breaking → rest ≡ 0
          → Counted s K levels order mode d c full breaking
      turning-end p z = record {
        fulls = summed-end p.fulls z ∙ sym (rw (at order d lo) (walk-items s each (get_or order d 0) w (drop (d + 1) order) c set_is));
        breakings = summed-end p.breakings z
            ∙ sym (rw (at order d lo) (walk-items s (weight_of K levels mode (d + 1)) (get_or order d 0) w (drop (d + 1) order) c set_is));
      }

      -- one item more still fits
      sum-small : (g : List ℕ → ℕ) → ((k : List ℕ) → g k ≤ 1) → length order ≤ 8 → {rest sum : ℕ} → Summed w (below_at s g order d c) rest sum
          → (x : ℕ) → x < 64 → has rest x ≡ true → sum + below_at s g order d c x ≤ 64 ^ 8
      sum-small g h l {rest} {sum} p x lx hx =
          let whole : walk 64 s g (drop d order) c ≡ sum_over w (below_at s g order d c) =
          rw (at order d lo) (walk-items s g (get_or order d 0) w (drop (d + 1) order) c set_is) in
          omega (arith, summed-le p x lx hx, walk-small s g h (drop d order) c (drop-short d l), whole)

      -- the last variable, once a clause is false: a count of its set's items
      pub turning-last : mode ≡ 0 → d + 1 ≡ length order → Counted s K levels order mode d c (size_of w) (size_of w)
      unfolding weight_of
      turning-last z e =
          let end : length order ≤ d + 1 = omega arith in
          let one : drop d order ≡ get_or order d 0 ∷ [] = at order d lo ∙ ap (λ (l : List ℕ). get_or order d 0 ∷ l) (drop_of_length-le order end) in
          let size : size_of w ≡ walk 64 s each (drop d order) c = rw one (sym (last-size s (get_or order d 0) w c set_is)) in
          record { fulls = size; breakings = rw z size }

    module _ (L : Levelled K order levels) where
      -- an item: its level's clauses were looked at, `ok` where they all hold, and what is below it counted in the mode that follows
      module _ (x : ℕ) (ok : Bool) (test : false_in K (level_is levels (d + 1)) (set c (get_or order d 0) x) ≡ not ok) (f b : ℕ)
          (p : Counted s K levels order (mode_of mode ok) (d + 1) (set c (get_or order d 0) x) f b) where
        pub item-full : f ≡ below_at s each order d c x
        item-full = p.fulls

        pub item-breaking : b ≡ below_at s (weight_of K levels mode (d + 1)) order d c x
        item-breaking = p.breakings ∙ sym (weight-step K order levels L 64 s mode (d + 1) (d + 1) (omega arith) (set c (get_or order d 0) x) ok test)

        pub turning-step : {rest full breaking : ℕ} → Turning s K levels order mode d c w rest full breaking → x < 64 → has rest x ≡ true
            → Turning s K levels order mode d c w (less_of rest (item_of x)) (full + f) (breaking + b)
        turning-step t l h = rw (item-full, item-breaking) (record { fulls = summed-step t.fulls x l h; breakings = summed-step t.breakings x l h })

        -- the sums so far and one item more fit
        pub turning-room : d < length order → ((y : ℕ) → s (get_or order d 0) c y ≡ has w y) → length order ≤ 8
            → {rest full breaking : ℕ} → Turning s K levels order mode d c w rest full breaking → x < 64 → has rest x ≡ true
            → (full + f ≤ 64 ^ 8) × (breaking + b ≤ 64 ^ 8)
        turning-room lo e l t lx h = (
          rw item-full (sum-small lo e each (λ k. lit≤ tt) l t.fulls x lx h),
          rw item-breaking (sum-small lo e (weight_of K levels mode (d + 1)) (weight-le mode (d + 1)) l t.breakings x lx h),
        )

  -- ---- whole choices, and the rule's own count

  module _ (L : Levelled K order levels) where
    -- the end of the order: one full choice
    whole-full : (d : ℕ) → length order ≤ d → (c : List ℕ) → 1 ≡ walk 64 s each (drop d order) c
    unfolding walk
    whole-full d l c = rw (drop_of_length-le order l)

    pub counted-whole : (mode d : ℕ) → mode ≤ 1 → length order ≤ d → (c : List ℕ) → Counted s K levels order mode d c 1 (1 - mode)
    counted-whole mode d h l c = record { fulls = whole-full d l c; breakings = omega (arith, weight-end K order levels L 64 s mode d h l c) }

    -- where the mode is right, the count is the rule's
    pub counted-breaks : {mode d full breaking : ℕ} {c : List ℕ} → ModeIs K levels mode (d + 1) c → Counted s K levels order mode d c full breaking
        → breaking ≡ walk 64 s (if_breaks (breaks_any K)) (drop d order) c
    counted-breaks {mode} {d} {full} {breaking} {c} h p = p.breakings ∙ sym (weight-mode K order levels L 64 s mode (d + 1) d (omega arith) c h)

    -- and the least item that counts is the least below which the rule breaks
    pub least-breaks : (mode d : ℕ) (c : List ℕ) → d < length order → ModeIs K levels mode (d + 1) c
        → (w x : ℕ) → Least w (below_at s (weight_of K levels mode (d + 1)) order d c) x → Least w (below_at s (if_breaks (breaks_any K)) order d c) x
    least-breaks mode d c lo h w x p =
        least-ext w _ _ (λ y. sym (weight-mode K order levels L 64 s mode (d + 1) (d + 1) (omega arith) (set c (get_or order d 0) y) (stays y))) x p
      where
        stays : (y : ℕ) → ModeIs K levels mode (d + 1) (set c (get_or order d 0) y)
        stays y = (rw (at order d lo) at (mode-stays K order levels L mode (d + 1) d (omega arith))).0 c y h
