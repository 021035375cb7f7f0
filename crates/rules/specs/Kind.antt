-- Document 01, "Kinds": the kind of a term, and whether the kinds of a rule fit (14).
-- Assumes nothing.
use Rattle.std.specs.Prelude.{List, [], ◌∷◌, Bool, true, false, ◌&&◌, ◌||◌}
use Rattle.std.proofs.Math.Option.{Option, none, some}
use Rattle.syntax.specs.Term.{Base, b_u, b_r, b_op, b_obj, b_p, b_s, b_cr, b_cp, b_cu, Fn, user, roles, roles*, sessions, permissions}
use Rattle.syntax.specs.Term.{permissions*, object, Fn2, operations, done, Pair, calls, joins, Term, base, call, oe, ao, two}
use Rattle.syntax.specs.Rule.{Count, number, count, Test, member, alike, empty, sized, Clause, plain, when, Rule, last, also}

-- "element or set of each of the six sorts U, R, OP, OBJ, P, S; collections CR, CP, CU"
pub data Sort : Type 0 where
  s_u s_r s_op s_obj s_p s_s : Sort
  deriving Discrete as Sort≟

pub data Collection : Type 0 where
  CR CP CU : Collection
  deriving Discrete as Collection≟

-- Fifteen and no more.
pub data Kind : Type 0 where
  element set : Sort → Kind
  collection : Collection → Kind
  deriving Discrete as Kind≟'

abbrev pub Kind≟ : Discrete Kind
Kind≟ = Kind≟' Sort≟ Collection≟

abbrev pub holds : {A : Type 0} → Dec A → Bool
holds (yes p) = true
holds (no n) = false

unfoldable pub one_of : Sort → List Sort → Bool
one_of s [] = false
one_of s (x ∷ xs) = holds (Sort≟ s x) || one_of s xs

unfoldable pub base_kind : Base → Kind
base_kind b_u = set s_u
base_kind b_r = set s_r
base_kind b_op = set s_op
base_kind b_obj = set s_obj
base_kind b_p = set s_p
base_kind b_s = set s_s
base_kind b_cr = collection CR
base_kind b_cp = collection CP
base_kind b_cu = collection CU

-- "Functions take an element or a set of the sorts named": the sorts that a function takes, and the sort of which it gives a set.
unfoldable pub takes : Fn → List Sort
takes user = s_s ∷ s_r ∷ []
takes roles = s_u ∷ s_p ∷ s_s ∷ []
takes roles* = s_u ∷ s_p ∷ s_s ∷ []
takes sessions = s_u ∷ []
takes permissions = s_r ∷ []
takes permissions* = s_r ∷ []
takes object = s_p ∷ []

unfoldable pub makes : Fn → Sort
makes user = s_u
makes roles = s_r
makes roles* = s_r
makes sessions = s_s
makes permissions = s_p
makes permissions* = s_p
makes object = s_obj

-- "user: of a session its user (one element)"; every other call gives a set.
unfoldable pub of_element : Fn → Sort → Kind
of_element user s = elim (Sort≟ s s_s) [ yes p ↦ element s_u | no n ↦ set s_u ]
of_element roles s = set s_r
of_element roles* s = set s_r
of_element sessions s = set s_s
of_element permissions s = set s_p
of_element permissions* s = set s_p
of_element object s = set s_obj

unfoldable pub call_kind : Fn → Kind → Option Kind
call_kind f (element s) = elim (one_of s (takes f)) [ true ↦ some (of_element f s) | false ↦ none ]
call_kind f (set s) = elim (one_of s (takes f)) [ true ↦ some (set (makes f)) | false ↦ none ]
call_kind f (collection c) = none

-- "OE of a set gives an element; of CR, CP, CU a set of R, P, U. AO of a set or collection keeps the kind; OE or AO of an element is kind 14."
unfoldable pub inside : Collection → Sort
inside CR = s_r
inside CP = s_p
inside CU = s_u

unfoldable pub one_kind : Kind → Option Kind
one_kind (element s) = none
one_kind (set s) = some (element s)
one_kind (collection c) = some (set (inside c))

unfoldable pub others_kind : Kind → Option Kind
others_kind (element s) = none
others_kind (set s) = some (set s)
others_kind (collection c) = some (collection c)

-- "& and + join one kind; an element there counts as the set of itself, so the result is never an element."
unfoldable pub as_set : Kind → Kind
as_set (element s) = set s
as_set (set s) = set s
as_set (collection c) = collection c

unfoldable pub joined : Kind → Kind → Option Kind
joined k l = elim (Kind≟ (as_set k) (as_set l)) [ yes p ↦ some (as_set k) | no n ↦ none ]

-- A call of two terms takes an element or a set of one sort and one element of another, and gives a set.
pub record Row : Type 0 where
  pub first : Sort
  pub second : Sort
  pub gives : Sort

-- "operations(r,o): a role or roles and one object; a set of operations."
-- Document 02, N8: "done(u,o) takes a user or users and one object (an element) and gives the operations done."
unfoldable pub row : Fn2 → Row
row operations = record { first = s_r; second = s_obj; gives = s_op }
row done = record { first = s_u; second = s_obj; gives = s_op }

unfoldable pub call2_kind : Row → Kind → Kind → Option Kind
call2_kind ρ k l = elim (holds (Kind≟ (as_set k) (set ρ.first)) && holds (Kind≟ l (element ρ.second))) [ true ↦ some (set ρ.gives) | false ↦ none ]

unfoldable pub two_kind : Pair → Kind → Kind → Option Kind
two_kind (calls f) k l = call2_kind (row f) k l
two_kind (joins o) k l = joined k l

abbrev pub with : {A : Type 0} → Option Kind → (Kind → Option A) → Option A
with none f = none
with (some k) f = f k

-- The kind of a term: none where kinds do not fit.
unfoldable pub kind : Term → Option Kind
kind (base b) = some (base_kind b)
kind (call f a) = with (kind a) (call_kind f)
kind (oe a) = with (kind a) one_kind
kind (ao a) = with (kind a) others_kind
kind (two o a b) = with (kind a) (λ k. with (kind b) (λ l. two_kind o k l))

abbrev pub check : Option Kind → (Kind → Bool) → Bool
check none f = false
check (some k) f = f k

-- "counts and {} take sets or collections"
unfoldable pub countable : Kind → Bool
countable (element s) = false
countable (set s) = true
countable (collection c) = true

-- "@ puts an element in a set of its sort"
unfoldable pub is_member : Kind → Kind → Bool
is_member (element s) l = holds (Kind≟ l (set s))
is_member (set s) l = false
is_member (collection c) l = false

-- "= and != compare two terms of one kind .. Anything else is kind 14."
unfoldable pub count_kinds : Count → Bool
count_kinds (number n) = true
count_kinds (count a) = check (kind a) countable

unfoldable pub test_kinds : Test → Bool
test_kinds (member a b) = check (kind a) (λ k. check (kind b) (λ l. is_member k l))
test_kinds (alike g a b) = check (kind a) (λ k. check (kind b) (λ l. holds (Kind≟ k l)))
test_kinds (empty g a) = check (kind a) countable
test_kinds (sized c a k) = check (kind a) countable && count_kinds k

unfoldable pub clause_kinds : Clause → Bool
clause_kinds (plain p) = test_kinds p
clause_kinds (when p q) = test_kinds p && test_kinds q

unfoldable pub rule_kinds : Rule → Bool
rule_kinds (last c) = clause_kinds c
rule_kinds (also c ρ) = clause_kinds c && rule_kinds ρ
