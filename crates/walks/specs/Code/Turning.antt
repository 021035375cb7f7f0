-- What judging's two loops keep: over the items of a variable, and over the variables of the first breaking choice.
-- Internal: contracts of entry points do not speak of it. Assumes nothing.
use Rattle.std.specs.Prelude.{◌≡◌, Bool, List, ℕ, ◌+◌, ◌<◌, get_or, set, drop}
use Rattle.walks.specs.Choices.{Sets, each, if_breaks}
use Rattle.walks.specs.Walk.{walk, walk_first}
use Rattle.walks.specs.Code.Clauses.{Clauses, weight_of}
use Rattle.walks.specs.Code.Summed.{Summed}

-- What is below the item x of the variable at depth d, for a weight.
abbrev pub below_at : Sets → (List ℕ → ℕ) → List ℕ → ℕ → List ℕ → ℕ → ℕ
below_at s g order d c x = walk 64 s g (drop (d + 1) order) (set c (get_or order d 0) x)

-- The two sums over the items of the variable at depth d, whose set is w: what is below the items but those of rest.
pub record Turning (s : Sets) (K : Clauses) (levels order : List ℕ) (mode d : ℕ) (c : List ℕ) (w rest full breaking : ℕ) : Type 0 where
  pub fulls : Summed w (below_at s each order d c) rest full
  pub breakings : Summed w (below_at s (weight_of K levels mode (d + 1)) order d c) rest breaking

-- The first breaking choice along the order has the first d of its items in c, and something breaks below.
pub record Descending (s : Sets) (b : List ℕ → Bool) (order base : List ℕ) (d : ℕ) (c : List ℕ) : Type 0 where
  pub first : walk_first 64 s b order base ≡ walk_first 64 s b (drop d order) c
  pub some : 0 < walk 64 s (if_breaks b) (drop d order) c
