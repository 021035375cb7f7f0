-- Gathering the rules of several lines: one tree for all, a list of the nodes of their clauses line by line, and the variables that they have in common.
-- Internal: contracts of entry points do not speak of it. Assumes nothing.
use Rattle.std.specs.Prelude.{◌≡◌, Bool, true, List, [], ◌∷◌, ◌++◌, ℕ, zero, suc, ◌+◌, ◌<◌, ◌≤◌, length, get_or, take}
use Rattle.std.proofs.Math.Option.{some}
use Rattle.std.specs.declared.option.Option.{Option}
use Rattle.std.specs.declared.option.Option.TheVariants.{Some, None}
use Rattle.syntax.specs.Bytes.{Bytes}
use Rattle.syntax.specs.Term.{Choices}
use Rattle.syntax.specs.Rule.{Clause, Rule, last, also, clause_vars, rule_vars, rule_of}
use Rattle.syntax.specs.Code.Arena.{HoldsClause, HoldsRule, Tidy}
use Rattle.syntax.specs.Code.Reading.{mk, Knows}
use Rattle.rules.specs.Accept.{rule_limit, choices_limit}
use Rattle.rules.specs.Code.Parsed.{Fitted}
use Rattle.rules.specs.Code.Variables.{VariableList}
use Rattle.values.specs.Code.Clauses.{clause_count}
use Rattle.sharing.specs.declared.gathering.Size.{Size}
use Rattle.sharing.specs.Code.Part.{Part}

-- Lists of clauses.

-- The clauses of a rule, and of several rules one behind the other.
unfoldable pub clauses_of : Rule → List Clause
clauses_of (last k) = k ∷ []
clauses_of (also k ρ) = k ∷ clauses_of ρ

unfoldable pub all_clauses : List Rule → List Clause
all_clauses [] = []
all_clauses (κ ∷ κs) = clauses_of κ ++ all_clauses κs

-- Where the clauses of the rule of number l begin among all.
unfoldable pub start_of : List Rule → ℕ → ℕ
start_of κs zero = 0
start_of [] (suc l) = 0
start_of (κ ∷ κs) (suc l) = clause_count κ + start_of κs l

-- The variables of a list of clauses behind those of σ.
unfoldable pub clauses_vars : Choices → List Clause → Choices
clauses_vars σ [] = σ
clauses_vars σ (k ∷ ks) = clauses_vars (clause_vars σ k) ks

-- Nodes.

-- There is room for so many nodes and for so many clauses, while those that stay are half of them: a line that does not fit is read before that is known.
abbrev pub gather_room : ℕ
gather_room = 512

-- The lent slices: n nodes, c nodes of clauses and `count` nodes of variables, with room for a node between each two clauses and for a line more.
pub record Room (ns list vs : List ℕ) (n c count : ℕ) : Type 0 where
  pub nodes : length ns ≡ gather_room
  pub clauses : length list ≡ gather_room
  pub vars : length vs ≡ choices_limit
  pub tidy : Tidy ns n
  pub few : n + c ≤ rule_limit
  pub below : (i : ℕ) → i < c → get_or list i 0 < n
  pub known : count ≤ choices_limit

-- They hold the rules κs: the list has their clauses, and each has the variables whose nodes are the first of vs.
pub record Sheaf (κs : List Rule) (ns list vs : List ℕ) (n c count : ℕ) : Type 0 where
  pub room : Room ns list vs n c count
  pub bare : n ≡ 0 → κs ≡ []
  pub many : length (all_clauses κs) ≡ c
  pub each : (i : ℕ) (d : Clause) → i < c → HoldsClause ns (get_or list i 0) (get_or (all_clauses κs) i d)
  pub choices : Choices
  pub knows : Knows (mk ns n) (take count vs) choices
  pub common : (l : ℕ) (d : Rule) → l < length κs → rule_vars [] (get_or κs l d) ≡ choices

-- What became of a line: it was left out, or its rule is the last one.
pub data Adds (κs : List Rule) (s : Bytes) (ns list vs : List ℕ) (n c count : ℕ) : Option Size → Type 0 where
  left : Sheaf κs ns list vs n c count → Adds κs s ns list vs n c count None
  taken : {size : Size} (κ : Rule) → rule_of s ≡ some κ → Sheaf (κs ++ (κ ∷ [])) ns list vs size.n size.c size.count → Adds κs s ns list vs n c count (Some size)

-- The rule of all, with its tree, its kinds and its variables; each rule is a part of it.
pub record Bound (κs : List Rule) (ns : List ℕ) (n root : ℕ) (ks vs : List ℕ) (count : ℕ) : Type 0 where
  pub tree : Rule
  pub holds : HoldsRule ns root tree
  pub within : root < n
  pub tidy : Tidy ns n
  pub small : n ≤ rule_limit
  pub fitted : Fitted ns n ks vs count tree
  pub part : (l : ℕ) (d : Rule) → l < length κs → Part tree (get_or κs l d) (start_of κs l) (start_of κs (l + 1))

-- On the way.

-- Where r is true, and there is a line already, its variables are those counted.
pub record Shared (vs : List ℕ) (n k : ℕ) (own : List ℕ) (count : ℕ) (r : Bool) : Type 0 where
  pub size : r ≡ true → 0 < n → count ≡ k
  pub same : r ≡ true → 0 < n → take count own ≡ take k vs

-- The first of vs are the variables of the first i clauses of a list, whatever clauses its nodes hold; c counts them.
pub record Varied (ns : List ℕ) (n : ℕ) (list : List ℕ) (i : ℕ) (vs : List ℕ) (c : ℕ) : Type 0 where
  pub size : length vs ≡ choices_limit
  pub listed : (ks : List Clause) → ((j : ℕ) (d : Clause) → j < i → HoldsClause ns (get_or list j 0) (get_or ks j d)) → i ≤ length ks → VariableList ns n vs c (clauses_vars [] (take i ks))
