-- A rule's clauses by number: which are false under a choice, which levels an order gives them, and how a choice weighs while they are settled.
-- Internal: contracts of entry points do not speak of it. Assumes nothing.
use Rattle.std.specs.Prelude.{◌≡◌, Bool, true, false, not, ◌&&◌, List, ℕ, zero, suc, ◌<◌, ◌≤◌, eqb, leb, ltb, length, get_or}
use Rattle.words.specs.Words.{any_to}
use Rattle.walks.specs.Choices.{each, if_breaks}
use Rattle.walks.specs.Meaning.{Every}

-- The clauses 0, 1, ..: a clause holds or not, and reads a choice only at the variables that it names.
pub record Clauses : Type 0 where
  pub many : ℕ
  pub holds : ℕ → List ℕ → Bool
  pub named : ℕ → ℕ → Bool
  pub reads : (i : ℕ) → i < many → (c d : List ℕ) → ((u : ℕ) → named i u ≡ true → get_or c u 0 ≡ get_or d u 0) → holds i c ≡ holds i d

-- One of the clauses that are picked is false: of the first n, and of all.
unfoldable pub false_to : Clauses → (ℕ → Bool) → List ℕ → ℕ → Bool
false_to K pick c n = any_to n (λ i. pick i && not (K.holds i c))

unfoldable pub false_in : Clauses → (ℕ → Bool) → List ℕ → Bool
false_in K pick c = false_to K pick c K.many

-- The rule breaks where a clause is false.
abbrev pub breaks_any : Clauses → List ℕ → Bool
breaks_any K = false_in K (λ i. true)

-- The clauses that are picked name none of the variables.
abbrev pub Settled : Clauses → (ℕ → Bool) → List ℕ → Type 0
Settled K pick vs = (i : ℕ) → i < K.many → pick i ≡ true → Every (λ w. K.named i w ≡ false) vs

-- The clauses of the levels below e, of the level e, and of those from it on.
abbrev pub level_below : List ℕ → ℕ → ℕ → Bool
level_below levels e i = ltb (get_or levels i 0) e

abbrev pub level_is : List ℕ → ℕ → ℕ → Bool
level_is levels e i = eqb (get_or levels i 0) e

abbrev pub level_from : List ℕ → ℕ → ℕ → Bool
level_from levels e i = leb e (get_or levels i 0)

-- A clause of a level names no variable of the order from that place on.
pub record Levelled (K : Clauses) (order levels : List ℕ) : Type 0 where
  pub within : (i : ℕ) → i < K.many → get_or levels i 0 ≤ length order
  pub above : (i : ℕ) → i < K.many → (j : ℕ) → j < length order → K.named i (get_or order j 0) ≡ true → j < get_or levels i 0

-- What the mode says where the levels below e are settled: with 0 one of their clauses is false, else none is.
abbrev pub lost : ℕ → Bool
lost zero = true
lost (suc m) = false

abbrev pub ModeIs : Clauses → List ℕ → ℕ → ℕ → List ℕ → Type 0
ModeIs K levels mode e c = false_in K (level_below levels e) c ≡ lost mode

-- How much a choice weighs in a mode: with 0 every choice breaks, else where a clause from the level e on is false.
unfoldable pub weight_of : Clauses → List ℕ → ℕ → ℕ → List ℕ → ℕ
weight_of K levels zero e = each
weight_of K levels (suc m) e = if_breaks (false_in K (level_from levels e))

-- The mode once the clauses of one level more were looked at: `ok` where they all hold.
abbrev pub mode_of : ℕ → Bool → ℕ
mode_of mode true = mode
mode_of mode false = 0
