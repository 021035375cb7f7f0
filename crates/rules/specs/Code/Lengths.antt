-- Lengths of what nodes hold, as it is written where some choices are known, without writing it.
-- Internal: contracts of entry points do not speak of it. Assumes nothing.
use Rattle.std.specs.Prelude.{◌≡◌, Bool, cond, List, [], ◌∷◌, ℕ, ◌+◌, ◌<◌, min, eqb, ltb, length, get_or}
use Rattle.syntax.specs.Term.{Choices}
use Rattle.syntax.specs.Rule.{Rule, rule_vars, formula}
use Rattle.syntax.specs.Code.Arena.{has_two, HoldsRule}
use Rattle.syntax.specs.Code.Reading.{mk, Knows}
use Rattle.syntax.specs.Code.Nodes.{first_call, oe_op, ao_op, first_numbered, operation_of, left_of, right_of}
use Rattle.rules.specs.Code.Thing.{Thing, HoldsThing, thing_text}
use Rattle.rules.specs.Code.Variables.{place_in}

-- How many bytes an operation adds to what it stands on, by its number.
unfoldable pub extra_table : List ℕ
extra_table =
    1 ∷ 1 ∷ 2 ∷ 3 ∷ 1 ∷ 1 ∷ 2 ∷ 2 ∷ 2
    ∷ 6 ∷ 7 ∷ 8 ∷ 10 ∷ 13 ∷ 14 ∷ 8 ∷ 4 ∷ 4
    ∷ 13 ∷ 7 ∷ 3 ∷ 3 ∷ 1 ∷ 1 ∷ 2 ∷ 3 ∷ 4
    ∷ 3 ∷ 4 ∷ 3 ∷ 4 ∷ 3 ∷ 4 ∷ 5 ∷ 6 ∷ 5 ∷ 6 ∷ 5 ∷ 6
    ∷ 2 ∷ 1 ∷ []

unfoldable pub extra : ℕ → ℕ
extra o = get_or extra_table o 0

-- The length of an operation's text, by those of its parts; m is the number of a count that is compared with one.
unfoldable pub plain_length : ℕ → ℕ → ℕ → ℕ → ℕ
plain_length o a b m = cond (has_two o) (extra o + a + b) (cond (ltb o first_numbered) (extra o + a) (extra o + a + cond (ltb m 10) 1 2))

-- With OE as `v1` and AO as `(X-{v1})`, where the choice is known.
unfoldable pub known_length : ℕ → ℕ → ℕ → ℕ → ℕ
known_length o a b m = cond (eqb o oe_op) 2 (cond (eqb o ao_op) (7 + a) (plain_length o a b m))

unfoldable pub node_length : ℕ → Bool → ℕ → ℕ → ℕ → ℕ
node_length o known a b m = cond (ltb o first_call) (extra o) (cond known (known_length o a b m) (plain_length o a b m))

-- By r the length is the known or the plain one. Whether i is among the choices at vs makes a difference to OE and AO alone.
pub record Knowing (o i : ℕ) (vs : List ℕ) (r : Bool) : Type 0 where
  pub is : (a b m : ℕ) → node_length o (ltb (place_in i vs) (length vs)) a b m ≡ cond r (known_length o a b m) (plain_length o a b m)

-- No length above this number is told apart from it.
abbrev pub length_cap : ℕ
length_cap = 65535

abbrev pub capped : ℕ → ℕ
capped l = min length_cap l

-- The length of what a node holds, by those of the nodes below it, where the choices at the nodes vs are known.
abbrev pub step_length : List ℕ → List ℕ → ℕ → ℕ
step_length ls vs v = capped (node_length (operation_of v) (ltb (place_in (left_of v) vs) (length vs)) (capped (get_or ls (left_of v) 0)) (capped (get_or ls (right_of v) 0)) (right_of v))

-- The list ls has the length of what each node below k holds, where the choices σ are known.
pub record Measured (ns : List ℕ) (σ : Choices) (k : ℕ) (ls : List ℕ) : Type 0 where
  pub at : (i : ℕ) (x : Thing) → i < k → HoldsThing ns i x → get_or ls i 0 ≡ capped (length (thing_text σ x))

-- The lengths of the first n nodes, whatever choices the nodes vs hold.
pub record LengthsOf (ns : List ℕ) (n : ℕ) (vs ls : List ℕ) : Type 0 where
  pub measured : (σ : Choices) → Knows (mk ns n) vs σ → Measured ns σ n ls

-- The length of the quantifiers of the nodes vs: "[v1@" and "]" and what stands between.
unfoldable pub quantifier_length : List ℕ → List ℕ → ℕ
quantifier_length ls [] = 0
quantifier_length ls (v ∷ vs) = 5 + capped (get_or ls v 0) + quantifier_length ls vs

-- r is the length of the formula of the rule at root, whose choices are at the nodes vs, by the lengths ls.
pub record FormulaLength (ls vs : List ℕ) (root r : ℕ) : Type 0 where
  pub is : (ns : List ℕ) (n : ℕ) (ρ : Rule) → root < n → HoldsRule ns root ρ → Knows (mk ns n) vs (rule_vars [] ρ) → Measured ns (rule_vars [] ρ) n ls → r ≡ capped (length (formula ρ))

-- r is that length, whatever rule the nodes hold there.
abbrev pub FormulaIn : List ℕ → ℕ → List ℕ → ℕ → ℕ → Type 0
FormulaIn ns n vs root r = (ρ : Rule) → HoldsRule ns root ρ → Knows (mk ns n) vs (rule_vars [] ρ) → r ≡ capped (length (formula ρ))
