-- What the slices hold that judging is lent: a rule's tree with its kinds and variables, and an order of them.
-- Internal: contracts of entry points do not speak of it. Assumes nothing.
use Rattle.std.specs.Prelude.{List, [], ℕ, ◌<◌, ◌≤◌, length, get_or, take}
use Rattle.tables.specs.Tables.{Tables}
use Rattle.syntax.specs.Term.{Choices}
use Rattle.syntax.specs.Rule.{Rule, rule_vars}
use Rattle.syntax.specs.Code.Arena.{HoldsRule}
use Rattle.rules.specs.declared.Parsed.{Parsed}
use Rattle.walks.specs.Meaning.{After}
use Rattle.walks.specs.Code.Among.{Within}
use Rattle.values.specs.Sets.{items_of, in_set, names}
use Rattle.values.specs.Code.Nodes.{Evaluable, Variables, World}

-- Under a full choice the rule's variables have items of their sorts.
abbrev pub InSorts : Tables → Rule → Type 0
InSorts T ρ = Within (items_of T (rule_vars [] ρ)) (in_set T (rule_vars [] ρ)) (length (rule_vars [] ρ))

-- The tables T and the rule ρ are what the slices hold.
pub record Case (ts ns : List ℕ) (n : ℕ) (ks vs : List ℕ) (root : ℕ) (T : Tables) (ρ : Rule) : Type 0 where
  pub world : World ts ns n ks vs T (rule_vars [] ρ)
  pub holds : HoldsRule ns root ρ
  pub sorts : InSorts T ρ

-- The slices hold some tables and some rule with at most 8 variables, whose nodes are among the first n.
pub record Lent (ts ns : List ℕ) (n : ℕ) (ks vs : List ℕ) (root : ℕ) : Type 0 where
  pub ready : Evaluable ts ns n ks root
  pub small : n ≤ 256
  pub few : length vs ≤ 8
  pub nodes : (i : ℕ) → i < length vs → get_or vs i 0 < n
  pub tables : Tables
  pub rule : Rule
  pub is_case : Case ts ns n ks vs root tables rule

-- The order lists variables, each fewer than there are nodes of variables.
pub record OrderList (vs order : List ℕ) : Type 0 where
  pub short : length order ≤ 8
  pub small : (i : ℕ) → i < length order → get_or order i 0 < length vs

-- No set names its own variable or one later in the order.
abbrev pub InTurn : List ℕ → ℕ → List ℕ → List ℕ → Type 0
InTurn ns n vs order = (σ : Choices) → Variables ns n vs σ → After (names σ) order

-- The nodes of a parsed rule's variables; what its slices hold; the slices lent.
abbrev pub vars_of : Parsed → List ℕ
vars_of p = take p.count p.vars

abbrev pub CaseBy : List ℕ → Parsed → Tables → Rule → Type 0
CaseBy ts p T ρ = Case ts p.nodes p.n p.kinds (vars_of p) p.root T ρ

pub record LentBy (ts : List ℕ) (p : Parsed) : Type 0 where
  pub lent : Lent ts p.nodes p.n p.kinds (vars_of p) p.root
  pub few : p.count ≤ 8
