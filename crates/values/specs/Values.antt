-- The value of a term under a choice, as a word: a set is the word of its items, an element the word of its one item,
-- a collection the word of its positions. Assumes nothing.
use Rattle.std.specs.Prelude.{Bool, true, false, List, [], ◌∷◌, ℕ, suc, get_or}
use Rattle.std.proofs.Math.Option.{Option, none, some}
use Rattle.words.specs.Words.{item_of, meet_of, join_of, less_of}
use Rattle.tables.specs.Tables.{Tables}
use Rattle.tables.specs.Functions.{user_of_sessions, user_of_roles, roles_of_users, roles_of_sessions, roles_of_permissions, juniors_of_users}
use Rattle.tables.specs.Functions.{juniors_of_sessions, seniors_of_permissions, sessions_of_users, permissions_of_roles, permissions_of_juniors}
use Rattle.tables.specs.Functions.{objects_of_permissions, operations_on, done_by}
use Rattle.syntax.specs.Term.{Fn, user, roles, roles*, sessions, permissions, permissions*, object, Fn2, operations, done, Op, meet, join, Pair, calls, joins, Term, base, call, oe, ao, two, Term≟, Choices}
use Rattle.rules.specs.Kind.{Sort, Sort≟, s_u, s_r, s_p, CR, CP, CU, Kind, element, set, collection, holds, base_kind, kind}
use Rattle.values.specs.Items.{kind_items}

-- An element or a set of the sort.
unfoldable pub of_sort : Sort → Option Kind → Bool
of_sort s none = false
of_sort s (some (element r)) = holds (Sort≟ r s)
of_sort s (some (set r)) = holds (Sort≟ r s)
of_sort s (some (collection c)) = false

-- The first where the test holds, else the second.
abbrev pub if : Bool → ℕ → ℕ → ℕ
if true a b = a
if false a b = b

-- A function of the value w, which is of the kind k ("Functions").
unfoldable pub call_value : Tables → Fn → Option Kind → ℕ → ℕ
call_value T user k w = if (of_sort s_r k) (user_of_roles T w) (user_of_sessions T w)
call_value T roles k w = if (of_sort s_u k) (roles_of_users T w) (if (of_sort s_p k) (roles_of_permissions T w) (roles_of_sessions T w))
call_value T roles* k w = if (of_sort s_u k) (juniors_of_users T w) (if (of_sort s_p k) (seniors_of_permissions T w) (juniors_of_sessions T w))
call_value T sessions k w = sessions_of_users T w
call_value T permissions k w = permissions_of_roles T w
call_value T permissions* k w = permissions_of_juniors T w
call_value T object k w = objects_of_permissions T w

unfoldable pub call2_value : Tables → Fn2 → ℕ → ℕ → ℕ
call2_value T operations v w = operations_on T v w
call2_value T done v w = done_by T v w

-- "`(term&term)` (intersection), `(term+term)` (union)"
unfoldable pub op_value : Op → ℕ → ℕ → ℕ
op_value meet v w = meet_of v w
op_value join v w = join_of v w

unfoldable pub two_value : Tables → Pair → ℕ → ℕ → ℕ
two_value T (calls f) v w = call2_value T f v w
two_value T (joins o) v w = op_value o v w

-- "Equal argument texts choose the same element": the variable (from 0) of OE and AO of the argument a, where σ has the arguments in order.
unfoldable pub variable_of : Choices → Term → ℕ
variable_of [] a = 0
variable_of (x ∷ σ) a = elim (Term≟ x a) [ yes p ↦ 0 | no n ↦ suc (variable_of σ a) ]

abbrev pub item_in : Choices → List ℕ → Term → ℕ
item_in σ c a = get_or c (variable_of σ a) 0

-- "each variable is read as its item (for a collection, the word there)": the item x of a set or collection of the kind k.
unfoldable pub one_value : Tables → Option Kind → ℕ → ℕ
one_value T none x = 0
one_value T (some (element s)) x = item_of x
one_value T (some (set s)) x = item_of x
one_value T (some (collection CU)) x = get_or T.cu x 0
one_value T (some (collection CR)) x = get_or T.cr x 0
one_value T (some (collection CP)) x = get_or T.cp x 0

-- "`U R OP OBJ P S CR CP CU`" are all items of their kind; "`AO(X)` means X without `OE(X)`."
unfoldable pub value : Tables → Choices → List ℕ → Term → ℕ
value T σ c (base b) = kind_items T (base_kind b)
value T σ c (call f a) = call_value T f (kind a) (value T σ c a)
value T σ c (oe a) = one_value T (kind a) (item_in σ c a)
value T σ c (ao a) = less_of (value T σ c a) (item_of (item_in σ c a))
value T σ c (two o a b) = two_value T o (value T σ c a) (value T σ c b)
