-- What is said of a line whose summand was added, and of one whose was not.
-- Assumes nothing.
use mathlib.Core.Path.{◌≡◌, ◌∙◌}
use mathlib.Core.Bool.{Bool, true, false, cond}
use mathlib.Core.List.{List}
use Prim.Native.Nat.{ℕ, ◌+◌, ◌<◌}
use native.Mathlib.Omega.{arith}
use lib.ListN.{length, get_or, set}
use lib.Seq.{get_or-set_same, get_or-set_other}
use Rattle.words.specs.Words.{has, item_of, less_of}
use Rattle.sharing.proofs.LineLaws.{Going, going_on, Turn}

abbrev pub Added : ℕ → ℕ → List ℕ → List ℕ → List ℕ → ℕ → Type 0
Added closed full under old new l = get_or new l 0 ≡ get_or old l 0 + cond (has closed l) full (get_or under l 0)

abbrev pub Same : List ℕ → List ℕ → ℕ → Type 0
Same old new l = get_or new l 0 ≡ get_or old l 0

-- The line l has its summand.
pub added : (closed full : ℕ) (under old now : List ℕ) {active many rest l : ℕ} → Turn active many rest l → l < length now
    → (more : ℕ) → more ≡ cond (has closed l) full (get_or under l 0)
    → Going active rest (Added closed full under old now) (Same old now)
    → Going active (less_of rest (item_of l)) (Added closed full under old (set now l (get_or now l 0 + more))) (Same old (set now l (get_or now l 0 + more)))
added closed full under old now {active} {many} {rest} {l} t b more e g =
    let new : List ℕ = set now l (get_or now l 0 + more) in
    going_on (Added closed full under old now) (Same old now) (Added closed full under old new) (Same old new) t g
    (get_or-set_same now l (get_or now l 0 + more) 0 b ∙ omega (arith, g.ahead l t.coming, e))
    (λ j ne p. get_or-set_other now l j (get_or now l 0 + more) 0 ne ∙ p)
    (λ j ne q. get_or-set_other now l j (get_or now l 0 + more) 0 ne ∙ q)

-- What is added is the one or the other.
pub more-is : (b : Bool) (full x : ℕ) → b ≡ true → full ≡ cond b full x
more-is b full x p = rw p

pub more-not : (b : Bool) (full x : ℕ) → b ≡ false → x ≡ cond b full x
more-not b full x p = rw p
