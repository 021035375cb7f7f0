-- The functions of Figure 2 of source document 002 as document 01 fixes them ("Functions"): for each a relation between items and, "on a set, the union
-- over its members", what a word reaches along it. Assumes nothing.
use Rattle.std.specs.Prelude.{Bool, ◌&&◌, List, ℕ, ◌+◌, ◌*◌, eqb, ltb, length, get_or}
use Rattle.words.specs.Words.{has, any_to}
use Rattle.words.specs.Relations.{Relation, some_in, reach, back, composed}
use Rattle.tables.specs.Tables.{Tables, user_rows, session_users, session_roles, done_users, done_objects, done_operations}

-- ---- the relations

-- "Junior or equal" is domination by the role rows: role r is senior or equal to q.
abbrev pub dominates : List ℕ → Relation
dominates rows r q = has (get_or rows r 0) q

-- UA: user u is assigned role r. Session s has the role r active. PA: permission p is held by role r.
abbrev pub assigned : Tables → Relation
assigned T u r = has (get_or (user_rows T) u 0) r

abbrev pub active : Tables → Relation
active T s r = has (get_or (session_roles T) s 0) r

abbrev pub held_by : Tables → Relation
held_by T p r = has (get_or T.permission_rows p 0) r

-- Session s is open and is user u's.
abbrev pub session_of : Tables → Relation
session_of T s u = ltb s (length T.sessions) && eqb (get_or (session_users T) s 0) u

-- Permission p is the operation a on the object b: "Permission number = operation × object count + object". It is on the object b.
abbrev pub is_permission : Tables → ℕ → ℕ → ℕ → Bool
is_permission T p a b = ltb p (length T.permission_rows) && (ltb b T.object_count && eqb p (a * T.object_count + b))

abbrev pub on_object : Tables → Relation
on_object T p b = any_to 64 (λ a. is_permission T p a b)

-- Role r may do the operation a on the object b: it holds that permission.
abbrev pub may : Tables → ℕ → ℕ → ℕ → Bool
may T r a b = any_to 64 (λ p. is_permission T p a b && held_by T p r)

-- Document 02, N8: row k of Done is user u's, of the operation a on the object b; the user did that where some row says so:
-- "Repeated rows count once."
abbrev pub done_row_is : Tables → ℕ → ℕ → ℕ → ℕ → Bool
done_row_is T k u a b =
    ltb k (length T.done) && (eqb (get_or (done_users T) k 0) u && (eqb (get_or (done_operations T) k 0) a && eqb (get_or (done_objects T) k 0) b))

abbrev pub did : Tables → ℕ → ℕ → ℕ → Bool
did T u a b = any_to 64 (λ k. done_row_is T k u a b)

-- Of what is done by someone on an object: which operations, on some object of o.
abbrev pub on_some : ℕ → (ℕ → ℕ → ℕ → Bool) → Relation
on_some o does i a = some_in o (λ b. does i a b)

-- ---- the functions

-- `user`: of a session its user; of a role or roles those assigned by UA.
unfoldable pub user_of_sessions : Tables → ℕ → ℕ
user_of_sessions T w = reach (session_of T) w

unfoldable pub user_of_roles : Tables → ℕ → ℕ
user_of_roles T w = reach (back (assigned T)) w

-- `roles`: of users, permissions or sessions.
unfoldable pub roles_of_users : Tables → ℕ → ℕ
roles_of_users T w = reach (assigned T) w

unfoldable pub roles_of_sessions : Tables → ℕ → ℕ
roles_of_sessions T w = reach (active T) w

unfoldable pub roles_of_permissions : Tables → ℕ → ℕ
roles_of_permissions T w = reach (held_by T) w

-- `roles*` of a user or session: each role junior or equal to one it has;
unfoldable pub juniors_of_users : Tables → ℕ → ℕ
juniors_of_users T w = reach (composed (assigned T) (dominates T.role_rows)) w

unfoldable pub juniors_of_sessions : Tables → ℕ → ℕ
juniors_of_sessions T w = reach (composed (active T) (dominates T.role_rows)) w

-- of a permission: each role senior or equal to one holding it.
unfoldable pub seniors_of_permissions : Tables → ℕ → ℕ
seniors_of_permissions T w = reach (composed (held_by T) (back (dominates T.role_rows))) w

-- `sessions` of users.
unfoldable pub sessions_of_users : Tables → ℕ → ℕ
sessions_of_users T w = reach (back (session_of T)) w

-- `permissions` of roles; `permissions*` adds those of junior roles.
unfoldable pub permissions_of_roles : Tables → ℕ → ℕ
permissions_of_roles T w = reach (back (held_by T)) w

unfoldable pub permissions_of_juniors : Tables → ℕ → ℕ
permissions_of_juniors T w = reach (composed (dominates T.role_rows) (back (held_by T))) w

-- `object` of permissions, a set.
unfoldable pub objects_of_permissions : Tables → ℕ → ℕ
objects_of_permissions T w = reach (on_object T) w

-- `operations(r,o)`: a role or roles and one object; a set of operations.
unfoldable pub operations_on : Tables → ℕ → ℕ → ℕ
operations_on T w o = reach (on_some o (may T)) w

-- Document 02, N8: `done(u,o)` "takes a user or users and one object (an element) and gives the operations done".
unfoldable pub done_by : Tables → ℕ → ℕ → ℕ
done_by T w o = reach (on_some o (did T)) w
