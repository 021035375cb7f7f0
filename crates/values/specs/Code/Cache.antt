-- What a cache has of the nodes' values, and what is shown by it.
-- Internal: contracts of entry points do not speak of it. Assumes nothing.
use Rattle.std.specs.Prelude.{◌≡◌, Bool, true, List, ℕ, ◌<◌, ◌≤◌, length, get_or}
use Rattle.tables.specs.Tables.{Tables}
use Rattle.syntax.specs.Term.{Term, Choices}
use Rattle.syntax.specs.Rule.{Test, Clause}
use Rattle.syntax.specs.Code.Arena.{Holds}
use Rattle.syntax.specs.Code.Nodes.{first_call, oe_op, first_pair, op_at, left_at, right_at}
use Rattle.values.specs.Values.{value}
use Rattle.values.specs.Truth.{test_true, clause_true}
use Rattle.values.specs.Sets.{names_in}
use Rattle.values.specs.Code.Nodes.{World, ValueAt}
use Rattle.values.specs.Code.Clauses.{test_names, clause_names, TestNode, ClauseNodes}

-- The cache has, under the choice c, the values of the terms at node k's left and right, where its operation is of them.
pub record Fed (T : Tables) (σ : Choices) (c ns cache : List ℕ) (k : ℕ) : Type 0 where
  pub left : first_call ≤ op_at ns k → (op_at ns k ≡ oe_op → ⊥) → (a : Term) → Holds ns (left_at ns k) a
      → get_or cache (left_at ns k) 0 ≡ value T σ c a
  pub right : first_pair ≤ op_at ns k → (a : Term) → Holds ns (right_at ns k) a → get_or cache (right_at ns k) 0 ≡ value T σ c a

-- So r is the value of node k's term where the cache has what stands right below it.
abbrev pub StepAt : List ℕ → List ℕ → ℕ → List ℕ → List ℕ → List ℕ → ℕ → List ℕ → ℕ → Type 0
StepAt ts ns n ks vs c k cache r = (T : Tables) (σ : Choices) → World ts ns n ks vs T σ → (a : Term) → Holds ns k a → Fed T σ c ns cache k → r ≡ value T σ c a

-- The cache has, under the choice c, the values of the terms among the first n nodes that name only what `named` says: those of a clause, once its variables are chosen.
abbrev pub ValuedIn : List ℕ → ℕ → List ℕ → Tables → Choices → List ℕ → (ℕ → Bool) → Type 0
ValuedIn ns n cache T σ c named =
    (i : ℕ) → i < n → (a : Term) → Holds ns i a → ((u : ℕ) → names_in σ a u ≡ true → named u ≡ true) → get_or cache i 0 ≡ value T σ c a

-- What is shown under each choice for which the cache has the values of its terms: r says whether the test of a node, the clause of two
-- tests' nodes is true.
abbrev pub TestOf : ℕ → List ℕ → Bool → Type 0
TestOf v cache r =
    (ns : List ℕ) (n : ℕ) (p : Test) → TestNode ns n v p → (T : Tables) (σ : Choices) (c : List ℕ) → ValuedIn ns n cache T σ c (test_names σ p) → r ≡ test_true T σ c p

abbrev pub ClauseOf : ℕ → ℕ → List ℕ → Bool → Type 0
ClauseOf first second cache r =
    (ns : List ℕ) (n : ℕ) (q : Clause) → ClauseNodes ns n first second q → (T : Tables) (σ : Choices) (c : List ℕ) → ValuedIn ns n cache T σ c (clause_names σ q)
    → r ≡ clause_true T σ c q

-- The cache has, under the choice c, the value of each node's term whose level is below the depth.
pub record Stored (ts ns : List ℕ) (n : ℕ) (ks vs c cache levels : List ℕ) (depth : ℕ) : Type 0 where
  pub long : n ≤ length cache
  pub holds : (k : ℕ) → k < n → get_or levels k 0 < depth → ValueAt ts ns n ks vs c k (get_or cache k 0)
