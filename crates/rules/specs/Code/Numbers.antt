-- How the code numbers kinds, and what its list of kinds says of the nodes of a tree.
-- Internal: contracts of entry points do not speak of it. Assumes nothing.
use Rattle.std.specs.Prelude.{◌≡◌, List, [], ◌∷◌, Bool, false, cond, ℕ, ◌+◌, ◌*◌, ◌-◌, ◌<◌, eqb, ltb, length, get_or}
use Rattle.std.proofs.Math.Option.{Option, none, some}
use Rattle.syntax.specs.Term.{Term, user, roles, roles*, sessions, permissions, permissions*, object}
use Rattle.syntax.specs.Rule.{Test, Clause, Rule}
use Rattle.syntax.specs.Code.Arena.{Holds, HoldsTest, HoldsClause, HoldsRule}
use Rattle.syntax.specs.Code.Nodes.{first_call, first_pair, first_join, member_op, first_alike, first_empty, first_counted, when_op, operation_of, left_of, right_of}
use Rattle.rules.specs.Kind.{s_u, s_r, s_op, s_obj, s_p, s_s, CR, CP, CU, Kind, element, set, collection, call_kind, one_kind, others_kind}
use Rattle.rules.specs.Kind.{kind, test_kinds, clause_kinds, rule_kinds}

-- 0 to 5 are elements of U, R, OP, OBJ, P, S; 6 to 11 sets of them; 12 to 14 are CR, CP, CU.
abbrev pub first_set : ℕ
first_set = 6

abbrev pub first_collection : ℕ
first_collection = 12

-- How many kinds there are; and what stands behind them.
abbrev pub kind_count : ℕ
kind_count = 15

abbrev pub no_kind : ℕ
no_kind = 15

-- The number of a test, a clause or a rule whose kinds fit.
abbrev pub kinds_fit : ℕ
kinds_fit = 16

unfoldable pub kind_list : List (Option Kind)
kind_list =
    some (element s_u) ∷ some (element s_r) ∷ some (element s_op) ∷ some (element s_obj) ∷ some (element s_p) ∷ some (element s_s)
    ∷ some (set s_u) ∷ some (set s_r) ∷ some (set s_op) ∷ some (set s_obj) ∷ some (set s_p) ∷ some (set s_s)
    ∷ some (collection CR) ∷ some (collection CP) ∷ some (collection CU) ∷ []

unfoldable pub kind_of : ℕ → Option Kind
kind_of x = get_or kind_list x none

-- The calls of one argument in the order of their operations, and their table: an entry for each kind, the number of a kind or `no_kind`.
unfoldable pub one_argument : List (Kind → Option Kind)
one_argument =
    call_kind user ∷ call_kind roles ∷ call_kind roles* ∷ call_kind sessions ∷ call_kind permissions ∷ call_kind permissions* ∷ call_kind object
    ∷ one_kind ∷ others_kind ∷ []

unfoldable pub one_table : List ℕ
one_table =
    15 ∷ 6 ∷ 15 ∷ 15 ∷ 15 ∷ 0 ∷ 15 ∷ 6 ∷ 15 ∷ 15 ∷ 15 ∷ 6 ∷ 15 ∷ 15 ∷ 15
    ∷ 7 ∷ 15 ∷ 15 ∷ 15 ∷ 7 ∷ 7 ∷ 7 ∷ 15 ∷ 15 ∷ 15 ∷ 7 ∷ 7 ∷ 15 ∷ 15 ∷ 15
    ∷ 7 ∷ 15 ∷ 15 ∷ 15 ∷ 7 ∷ 7 ∷ 7 ∷ 15 ∷ 15 ∷ 15 ∷ 7 ∷ 7 ∷ 15 ∷ 15 ∷ 15
    ∷ 11 ∷ 15 ∷ 15 ∷ 15 ∷ 15 ∷ 15 ∷ 11 ∷ 15 ∷ 15 ∷ 15 ∷ 15 ∷ 15 ∷ 15 ∷ 15 ∷ 15
    ∷ 15 ∷ 10 ∷ 15 ∷ 15 ∷ 15 ∷ 15 ∷ 15 ∷ 10 ∷ 15 ∷ 15 ∷ 15 ∷ 15 ∷ 15 ∷ 15 ∷ 15
    ∷ 15 ∷ 10 ∷ 15 ∷ 15 ∷ 15 ∷ 15 ∷ 15 ∷ 10 ∷ 15 ∷ 15 ∷ 15 ∷ 15 ∷ 15 ∷ 15 ∷ 15
    ∷ 15 ∷ 15 ∷ 15 ∷ 15 ∷ 9 ∷ 15 ∷ 15 ∷ 15 ∷ 15 ∷ 15 ∷ 9 ∷ 15 ∷ 15 ∷ 15 ∷ 15
    ∷ 15 ∷ 15 ∷ 15 ∷ 15 ∷ 15 ∷ 15 ∷ 0 ∷ 1 ∷ 2 ∷ 3 ∷ 4 ∷ 5 ∷ 7 ∷ 10 ∷ 6
    ∷ 15 ∷ 15 ∷ 15 ∷ 15 ∷ 15 ∷ 15 ∷ 6 ∷ 7 ∷ 8 ∷ 9 ∷ 10 ∷ 11 ∷ 12 ∷ 13 ∷ 14 ∷ []

-- The kind's number of an operation's term, by those of its arguments; of a test, a clause, a rule `kinds_fit` where they fit.
unfoldable pub one_number : ℕ → ℕ → ℕ
one_number o a = cond (ltb a no_kind) (get_or one_table (kind_count * (o - first_call) + a) 0) no_kind

-- An element counts as the set of itself.
unfoldable pub set_number : ℕ → ℕ
set_number a = cond (ltb a first_set) (a + first_set) a

-- The calls of two terms, a row for each: the kind of the first as a set, that of the second, that of the call.
unfoldable pub pair_table : List ℕ
pair_table =
    7 ∷ 3 ∷ 8
    ∷ 6 ∷ 3 ∷ 8 ∷ []

unfoldable pub call2_number : ℕ → ℕ → ℕ → ℕ
call2_number o a b =
    cond (eqb (set_number a) (get_or pair_table (3 * (o - first_pair)) 0)) (cond (eqb b (get_or pair_table (3 * (o - first_pair) + 1) 0)) (get_or pair_table (3 * (o - first_pair) + 2) 0) no_kind) no_kind

unfoldable pub two_number : ℕ → ℕ → ℕ → ℕ
two_number o a b =
    cond (ltb o first_join)
    (call2_number o a b)
    (cond (eqb (set_number a) (set_number b)) (set_number a) no_kind)

unfoldable pub countable_number : ℕ → Bool
countable_number a = cond (ltb a first_set) false (ltb a no_kind)

unfoldable pub fits_number : ℕ → ℕ → ℕ → Bool
fits_number o a b =
    cond (ltb o first_alike)
    (cond (ltb a first_set) (eqb b (a + first_set)) false)
    (cond (ltb o first_empty)
    (cond (ltb a no_kind) (eqb a b) false)
    (cond (ltb o first_counted)
    (countable_number a)
    (cond (ltb o when_op)
    (cond (countable_number a) (countable_number b) false)
    (cond (eqb a kinds_fit) (eqb b kinds_fit) false))))

unfoldable pub node_number : ℕ → ℕ → ℕ → ℕ
node_number o a b =
    cond (ltb o first_call) (o + first_set) (cond (ltb o first_pair) (one_number o a) (cond (ltb o member_op) (two_number o a b) (cond (fits_number o a b) kinds_fit no_kind)))

-- The number of a node, by those of the nodes below it.
abbrev pub step_number : List ℕ → ℕ → ℕ
step_number ks v = node_number (operation_of v) (get_or ks (left_of v) no_kind) (get_or ks (right_of v) no_kind)

-- x is the number of what node k holds.
pub record KindAt (ns : List ℕ) (k x : ℕ) : Type 0 where
  pub term : (t : Term) → Holds ns k t → (x < kinds_fit) × (kind_of x ≡ kind t)
  pub test : (p : Test) → HoldsTest ns k p → eqb x kinds_fit ≡ test_kinds p
  pub clause : (c : Clause) → HoldsClause ns k c → eqb x kinds_fit ≡ clause_kinds c
  pub rule : (ρ : Rule) → HoldsRule ns k ρ → eqb x kinds_fit ≡ rule_kinds ρ

-- The list ks has the number of each node below n.
pub record Kinded (ns : List ℕ) (n : ℕ) (ks : List ℕ) : Type 0 where
  pub at : (k : ℕ) → k < n → KindAt ns k (get_or ks k no_kind)

-- The list before became ks, and r says whether the number at root is that of kinds that fit.
pub record Fills (ns : List ℕ) (n root : ℕ) (before ks : List ℕ) (r : Bool) : Type 0 where
  pub size : length ks ≡ length before
  pub kinded : Kinded ns n ks
  pub fits : r ≡ eqb (get_or ks root no_kind) kinds_fit
