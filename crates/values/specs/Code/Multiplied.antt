-- What the product of the variables' items is on the way to the ceiling, whatever the slices hold.
-- Internal: contracts of entry points do not speak of it. Assumes nothing.
use Rattle.std.specs.Prelude.{◌≡◌, List, ℕ, ◌^◌, ◌≤◌, length}
use Rattle.tables.specs.Tables.{Tables}
use Rattle.syntax.specs.Term.{Choices}
use Rattle.rules.specs.Kind.{kind}
use Rattle.walks.specs.Choices.{product_to}
use Rattle.values.specs.Sets.{set_of}
use Rattle.values.specs.Ceiling.{count_of_kind, ceiling_of}
use Rattle.values.specs.Code.Nodes.{World}

-- r is the ceiling of the arguments at the nodes vs.
abbrev pub CeilingBy : List ℕ → List ℕ → List ℕ → ℕ → Type 0
CeilingBy ts ks vs r = (T : Tables) (ns : List ℕ) (n : ℕ) (σ : Choices) → World ts ns n ks vs T σ → r ≡ ceiling_of T σ

-- r is the product of the first i of them.
pub record Multiplied (ts ks vs : List ℕ) (i r : ℕ) : Type 0 where
  pub within : i ≤ length vs
  pub small : r ≤ 64 ^ i
  pub is : (T : Tables) (ns : List ℕ) (n : ℕ) (σ : Choices) → World ts ns n ks vs T σ → r ≡ product_to i (λ v. count_of_kind T (kind (set_of σ v)))
