-- What is said of a line that was looked at for a false clause, and of one that was not.
-- Assumes nothing.
use mathlib.Core.Path.{◌≡◌, sym, ap, ◌∙◌}
use mathlib.Core.Bool.{Bool, true, false, not}
use mathlib.Core.List.{List}
use Prim.Native.Nat.{ℕ, ◌^◌, ◌<◌}
use native.Mathlib.Omega.{arith}
use Rattle.words.specs.Words.{has, item_of, join_of, less_of}
use Rattle.values.specs.Code.Plan.{HoldsAmong}
use Rattle.sharing.specs.Code.Lines.{from_of, to_of}
use Rattle.sharing.proofs.LineLaws.{join-here, join-other, Going, going_on, Turn}

abbrev pub Told : List ℕ → List ℕ → List ℕ → ℕ → ℕ → ℕ → Type 0
Told plan lines cache level found l = HoldsAmong plan cache level (from_of lines l) (to_of lines l) (not (has found l))

abbrev pub Untold : ℕ → ℕ → Type 0
Untold found l = has found l ≡ false

module _ (plan lines cache : List ℕ) (level : ℕ) where
  pub told-as : (l : ℕ) (b : Bool) (found : ℕ) → not (has found l) ≡ b → HoldsAmong plan cache level (from_of lines l) (to_of lines l) b → Told plan lines cache level found l
  told-as l b found e h = rw e h

  -- The line l has a false clause, and is found.
  pub false-on : (found : ℕ) {active many rest l : ℕ} → found < 2 ^ 64 → Turn active many rest l → (b : Bool) → b ≡ false
      → HoldsAmong plan cache level (from_of lines l) (to_of lines l) b → Going active rest (Told plan lines cache level found) (Untold found)
      → Going active (less_of rest (item_of l)) (Told plan lines cache level (join_of found (item_of l))) (Untold (join_of found (item_of l)))
  false-on found {active} {many} {rest} {l} small t b e h g =
      let new : ℕ = join_of found (item_of l) in
      going_on (Told plan lines cache level found) (Untold found) (Told plan lines cache level new) (Untold new) t g
      (told-as l b new (ap not (join-here found l (omega (arith, t.few))) ∙ sym e) h)
      (λ j ne p. told-as j (not (has found j)) new (ap not (join-other found l j small ne)) p)
      (λ j ne q. join-other found l j small ne ∙ q)

  -- It has none.
  pub true-on : (found : ℕ) {active many rest l : ℕ} → Turn active many rest l → (b : Bool) → b ≡ true
      → HoldsAmong plan cache level (from_of lines l) (to_of lines l) b → Going active rest (Told plan lines cache level found) (Untold found)
      → Going active (less_of rest (item_of l)) (Told plan lines cache level found) (Untold found)
  true-on found {active} {many} {rest} {l} t b e h g =
      going_on (Told plan lines cache level found) (Untold found) (Told plan lines cache level found) (Untold found) t g
      (told-as l b found (ap not (g.ahead l t.coming) ∙ sym e) h) (λ j ne p. p) (λ j ne q. q)
