-- The context of a count: the earlier variables on which it depends what is below a choice.
-- Internal: contracts of entry points do not speak of it. Assumes nothing.
use Rattle.std.specs.Prelude.{◌≡◌, Bool, true, false, List, ℕ, zero, suc, ◌+◌, ◌*◌, ◌<◌, length, get_or, drop}
use Rattle.words.specs.Words.{has}
use Rattle.walks.specs.Order.{count}
use Rattle.walks.specs.Meaning.{Every}
use Rattle.walks.specs.Code.Clauses.{Clauses, level_from}

-- Two choices have the same items at the variables of the word.
abbrev pub Alike : ℕ → List ℕ → List ℕ → Type 0
Alike word a b = (u : ℕ) → has word u ≡ true → get_or a u 0 ≡ get_or b u 0

-- The word has each variable that the test tells.
abbrev pub Covers : ℕ → (ℕ → Bool) → Type 0
Covers word f = (u : ℕ) → f u ≡ true → has word u ≡ true

-- The clauses that still matter where the levels below e are settled: none once one is false.
abbrev pub open_in : List ℕ → ℕ → ℕ → ℕ → Bool
open_in levels zero e i = false
open_in levels (suc m) e i = level_from levels e i

-- The word has what the sets of the variables left, and the clauses that are picked, name of the other variables.
pub record Context (names : ℕ → ℕ → Bool) (K : Clauses) (pick : ℕ → Bool) (vs : List ℕ) (word : ℕ) : Type 0 where
  pub sets : Every (λ v. (u : ℕ) → names v u ≡ true → count u vs ≡ 0 → has word u ≡ true) vs
  pub clauses : (i : ℕ) → i < K.many → pick i ≡ true → (u : ℕ) → K.named i u ≡ true → count u vs ≡ 0 → has word u ≡ true

-- The contexts of an order: 8 depths for each of the two modes.
abbrev pub Contexts : (ℕ → ℕ → Bool) → Clauses → List ℕ → List ℕ → List ℕ → Type 0
Contexts names K levels order contexts =
    (mode d : ℕ) → mode < 2 → d < length order → Context names K (open_in levels mode (d + 1)) (drop d order) (get_or contexts (8 * mode + d) 0)
