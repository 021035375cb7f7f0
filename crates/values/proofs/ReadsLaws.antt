-- A term's value depends only on the variables that it names.
-- Assumes nothing.
use mathlib.Core.Path.{◌≡◌, refl, ap, ap₂}
use mathlib.Core.Bool.{Bool, true, false, ◌||◌}
use mathlib.Core.List.{List}
use Prim.Native.Nat.{ℕ}
use lib.Dec.{eqb}
use lib.ListN.{get_or}
use borrow.Author.Tests.{eq-eqb}
use Rattle.words.specs.Words.{has, item_of, less_of}
use Rattle.walks.specs.Meaning.{Reads}
use Rattle.tables.specs.Tables.{Tables}
use Rattle.syntax.specs.Term.{Term, base, call, oe, ao, two, Choices}
use Rattle.rules.specs.Kind.{kind}
use Rattle.values.specs.Values.{call_value, two_value, one_value, variable_of, value}
use Rattle.values.specs.Sets.{set_of, in_set, names_in, names}
use Rattle.words.proofs.LoopLaws.{or_right}

pub or_left : (a b : Bool) → a ≡ true → (a || b) ≡ true
or_left a b e = ap (λ (x : Bool). x || b) e

pub or_case : {C : Type 0} (a b : Bool) → (a || b) ≡ true → (a ≡ true → C) → (b ≡ true → C) → C
or_case true b e f g = f refl
or_case false b e f g = g e

-- Two choices that agree in the variables that t names.
abbrev Agree : Choices → Term → List ℕ → List ℕ → Type 0
Agree σ t c d = (u : ℕ) → names_in σ t u ≡ true → get_or c u 0 ≡ get_or d u 0

pub value-reads : (T : Tables) (σ : Choices) (c d : List ℕ) (t : Term) → Agree σ t c d → value T σ c t ≡ value T σ d t
unfolding value names_in
value-reads T σ c d (base b) h = refl
value-reads T σ c d (call f a) h = ap (call_value T f (kind a)) (value-reads T σ c d a h)
value-reads T σ c d (oe a) h = ap (one_value T (kind a)) (h (variable_of σ a) (eq-eqb (variable_of σ a) (variable_of σ a) refl))
value-reads T σ c d (ao a) h =
    ap₂ (λ (w x : ℕ). less_of w (item_of x))
    (value-reads T σ c d a (λ u e. h u (or_right (eqb (variable_of σ a) u) (names_in σ a u) e)))
    (h (variable_of σ a) (or_left (eqb (variable_of σ a) (variable_of σ a)) (names_in σ a (variable_of σ a)) (eq-eqb (variable_of σ a) (variable_of σ a) refl)))
value-reads T σ c d (two o a b) h =
    ap₂ (two_value T o)
    (value-reads T σ c d a (λ u e. h u (or_left (names_in σ a u) (names_in σ b u) e)))
    (value-reads T σ c d b (λ u e. h u (or_right (names_in σ a u) (names_in σ b u) e)))

-- So the sets of the variables read only what they name, which is all that the walk's theorems ask of sets.
pub sets-read : (T : Tables) (σ : Choices) → Reads (in_set T σ) (names σ)
sets-read T σ v c d h x = ap (λ (w : ℕ). has w x) (value-reads T σ c d (set_of σ v) h)
