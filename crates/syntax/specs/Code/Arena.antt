-- How the code holds a tree: nodes in a flat list, each an operation with at most two smaller indexes, no two nodes equal.
-- Internal: contracts of entry points do not speak of it. Assumes nothing.
use Rattle.std.specs.Prelude.{◌≡◌, Bool, true, ◌||◌, ◌&&◌, List, [], ◌∷◌, ℕ, ◌+◌, ◌<◌, ◌≤◌, ltb, leb, length, get_or}
use Rattle.syntax.specs.Term.{Base, b_u, b_r, b_op, b_obj, b_p, b_s, b_cr, b_cp, b_cu, Fn, user, roles, roles*, sessions, permissions}
use Rattle.syntax.specs.Term.{permissions*, object, operations, done, meet, join, Pair, calls, joins, Term, base, call, oe, ao, two}
use Rattle.syntax.specs.Rule.{Cmp, lt, le, gt, ge, eq, ne, Sign, is, isnt, number, count, Test, member, alike, empty, sized}
use Rattle.syntax.specs.Rule.{Clause, plain, when, Rule, last, also}
use Rattle.syntax.specs.Code.Nodes.{first_call, oe_op, ao_op, first_pair, first_join, member_op, first_alike, first_empty, first_numbered, first_counted, when_op, also_op, ops_end, operation_of, left_of, right_of, node_of, index_room}

-- The number of each operation.

unfoldable pub base_op : Base → ℕ
base_op b_u = 0
base_op b_r = 1
base_op b_op = 2
base_op b_obj = 3
base_op b_p = 4
base_op b_s = 5
base_op b_cr = 6
base_op b_cp = 7
base_op b_cu = 8

unfoldable pub fn_op : Fn → ℕ
fn_op user = first_call
fn_op roles = first_call + 1
fn_op roles* = first_call + 2
fn_op sessions = first_call + 3
fn_op permissions = first_call + 4
fn_op permissions* = first_call + 5
fn_op object = first_call + 6

unfoldable pub two_op : Pair → ℕ
two_op (calls operations) = first_pair
two_op (calls done) = first_pair + 1
two_op (joins meet) = first_join
two_op (joins join) = first_join + 1

unfoldable pub alike_op : Sign → ℕ
alike_op is = first_alike
alike_op isnt = first_alike + 1

unfoldable pub empty_op : Sign → ℕ
empty_op is = first_empty
empty_op isnt = first_empty + 1

unfoldable pub cmp_number : Cmp → ℕ
cmp_number lt = 0
cmp_number le = 1
cmp_number gt = 2
cmp_number ge = 3
cmp_number eq = 4
cmp_number ne = 5

pub record None (ns : List ℕ) (k o : ℕ) : Type 0 where
  pub node : get_or ns k 0 ≡ o

-- Node k is the operation o on node i.
pub record One (ns : List ℕ) (k o i : ℕ) : Type 0 where
  pub below : i < k
  pub small : i < index_room
  pub node : get_or ns k 0 ≡ node_of o i 0

-- Node k is the operation o on node i and the number m.
pub record Numbered (ns : List ℕ) (k o i m : ℕ) : Type 0 where
  pub below : i < k
  pub small : i < index_room
  pub few : m ≤ 64
  pub node : get_or ns k 0 ≡ node_of o i m

-- Node k is the operation o on nodes i and j.
pub record Both (ns : List ℕ) (k o i j : ℕ) : Type 0 where
  pub below : i < k
  pub small : i < index_room
  pub below₂ : j < k
  pub small₂ : j < index_room
  pub node : get_or ns k 0 ≡ node_of o i j

-- Node k of ns holds the term, the test, the clause, the rule.

unfoldable pub Holds : List ℕ → ℕ → Term → Type 0
Holds ns k (base b) = None ns k (base_op b)
Holds ns k (call f a) = (i : ℕ) × One ns k (fn_op f) i × Holds ns i a
Holds ns k (oe a) = (i : ℕ) × One ns k oe_op i × Holds ns i a
Holds ns k (ao a) = (i : ℕ) × One ns k ao_op i × Holds ns i a
Holds ns k (two o a b) = (i : ℕ) × (j : ℕ) × Both ns k (two_op o) i j × Holds ns i a × Holds ns j b

unfoldable pub HoldsTest : List ℕ → ℕ → Test → Type 0
HoldsTest ns k (member a b) = (i : ℕ) × (j : ℕ) × Both ns k member_op i j × Holds ns i a × Holds ns j b
HoldsTest ns k (alike g a b) = (i : ℕ) × (j : ℕ) × Both ns k (alike_op g) i j × Holds ns i a × Holds ns j b
HoldsTest ns k (empty g a) = (i : ℕ) × One ns k (empty_op g) i × Holds ns i a
HoldsTest ns k (sized c a (number m)) = (i : ℕ) × Numbered ns k (first_numbered + cmp_number c) i m × Holds ns i a
HoldsTest ns k (sized c a (count b)) = (i : ℕ) × (j : ℕ) × Both ns k (first_counted + cmp_number c) i j × Holds ns i a × Holds ns j b

unfoldable pub HoldsClause : List ℕ → ℕ → Clause → Type 0
HoldsClause ns k (plain p) = HoldsTest ns k p
HoldsClause ns k (when p q) = (i : ℕ) × (j : ℕ) × Both ns k when_op i j × HoldsTest ns i p × HoldsTest ns j q

unfoldable pub HoldsRule : List ℕ → ℕ → Rule → Type 0
HoldsRule ns k (last c) = HoldsClause ns k c
HoldsRule ns k (also c ρ) = (i : ℕ) × (j : ℕ) × Both ns k also_op i j × HoldsClause ns i c × HoldsRule ns j ρ

-- The nodes v₁, v₂, .. hold the terms of a list.
abbrev pub HoldsAll : List ℕ → List ℕ → List Term → Type 0
HoldsAll ns [] [] = Unit {0}
HoldsAll ns [] (a ∷ σ) = ⊥
HoldsAll ns (v ∷ vs) [] = ⊥
HoldsAll ns (v ∷ vs) (a ∷ σ) = Holds ns v a × HoldsAll ns vs σ

-- No two nodes below n are equal.
unfoldable pub Apart : List ℕ → ℕ → Type 0
Apart ns n = (i j : ℕ) → i < n → j < n → get_or ns i 0 ≡ get_or ns j 0 → i ≡ j

-- What the node v has below it stands below k.
unfoldable pub has_two : ℕ → Bool
has_two o = (leb first_pair o && ltb o first_empty) || leb first_counted o

pub record Low (v k : ℕ) : Type 0 where
  pub op : operation_of v < ops_end
  pub left : first_call ≤ operation_of v → left_of v < k
  pub right : has_two (operation_of v) ≡ true → right_of v < k

unfoldable pub Down : List ℕ → ℕ → Type 0
Down ns n = (k : ℕ) → k < n → Low (get_or ns k 0) k

pub record Tidy (ns : List ℕ) (n : ℕ) : Type 0 where
  pub size : length ns ≤ 4096
  pub fits : n ≤ length ns
  pub apart : Apart ns n
  pub down : Down ns n
