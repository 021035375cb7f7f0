-- The choices of a rule as nodes: the nodes of their arguments in order, as many as a rule may have, counted to one above that.
-- Internal: contracts of entry points do not speak of it. Assumes nothing.
use Rattle.std.specs.Prelude.{◌≡◌, cond, List, [], ◌∷◌, ℕ, suc, ◌+◌, ◌<◌, ◌≤◌, eqb, length, get_or, take, set}
use Rattle.syntax.specs.Term.{Choices}
use Rattle.syntax.specs.Rule.{Rule, rule_vars}
use Rattle.syntax.specs.Code.Arena.{HoldsAll, HoldsRule}
use Rattle.syntax.specs.Code.Reading.{Sought}
use Rattle.rules.specs.Accept.{choices_limit}
use Rattle.rules.specs.Code.Thing.{Thing, HoldsThing, thing_vars}

-- The first place of k in a list, or the list's length.
unfoldable pub place_in : ℕ → List ℕ → ℕ
place_in k [] = 0
place_in k (v ∷ vs) = cond (eqb v k) 0 (suc (place_in k vs))

-- The first c of vs are the nodes of the choices σ; c is above the limit where σ are more.
pub record VariableList (ns : List ℕ) (n : ℕ) (vs : List ℕ) (c : ℕ) (σ : Choices) : Type 0 where
  pub more : choices_limit < c → choices_limit < length σ
  pub held : c ≤ choices_limit → HoldsAll ns (take c vs) σ
  pub below : (i : ℕ) → i < c → i < choices_limit → get_or vs i 0 < n

-- A walk over what node k holds has turned the list vs with count c into ws with count d.
pub record Walked (ns : List ℕ) (n k : ℕ) (vs : List ℕ) (c : ℕ) (ws : List ℕ) (d : ℕ) : Type 0 where
  pub size : length ws ≡ length vs
  pub adds : (x : Thing) → HoldsThing ns k x → (σ : Choices) → VariableList ns n vs c σ → VariableList ns n ws d (thing_vars σ x)

-- The node v came behind the first c of vs, unless it is one of them: the list is ws, and the count d.
pub data Added (vs : List ℕ) (c v : ℕ) : List ℕ → ℕ → Type 0 where
  many : choices_limit < c → Added vs c v vs c
  known : {r : ℕ} → c ≤ choices_limit → Sought vs c v r → r < c → Added vs c v vs c
  over : {r : ℕ} → c ≡ choices_limit → Sought vs c v r → c ≤ r → Added vs c v vs (c + 1)
  new : {r : ℕ} → c < choices_limit → Sought vs c v r → c ≤ r → Added vs c v (set vs c v) (c + 1)

-- The variables of the rule at a node.
pub record VarsOf (ns : List ℕ) (n root : ℕ) (vs : List ℕ) (c : ℕ) : Type 0 where
  pub size : length vs ≡ choices_limit
  pub listed : (ρ : Rule) → HoldsRule ns root ρ → VariableList ns n vs c (rule_vars [] ρ)
