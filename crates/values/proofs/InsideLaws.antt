-- The functions of Figure 2 give only items that are there.
-- Assumes nothing.
use mathlib.Core.Path.{◌≡◌, sym, ap, ◌∙◌}
use mathlib.Core.Bool.{Bool, true, false, ◌&&◌, true≢false}
use mathlib.Core.List.{List}
use mathlib.Core.Option.{Option}
use Prim.Native.Nat.{ℕ, ◌+◌, ◌*◌, ◌<◌, ◌≤◌}
use native.Mathlib.Decide.{dec_lt}
use native.Mathlib.Nat.{mul-le-mul, mul-le-mul_right}
use native.Mathlib.Omega.{arith}
use lib.Dec.{eqb, ltb}
use lib.ListN.{length, get_or, get_or-eq_default}
use borrow.Author.Tests.{eqb-true, ltb-true, lt-ltb}
use Rattle.words.specs.Words.{has, all_of}
use Rattle.words.specs.Relations.{Relation, reach, back, composed}
use Rattle.words.proofs.WordsLaws.{has-out, has-zero, has_all, and-true, any-witness}
use Rattle.words.proofs.RelationLaws.{some_of, reached-from}
use Rattle.tables.specs.Tables.{Tables, present_users, user_rows, session_users, session_roles}
use Rattle.tables.specs.Accepted.{Fits, Below, Bounded, Passes}
use Rattle.tables.proofs.FitsLaws.{active-below, deeds-below}
use Rattle.tables.proofs.PresentLaws.{present-word}
use Rattle.tables.proofs.LeaverLaws.{role-present, session-present}
use Rattle.tables.specs.Functions.{dominates, assigned, active, held_by, session_of, is_permission, on_object, may, done_row_is, did, on_some}
use Rattle.tables.specs.Functions.{user_of_sessions, user_of_roles, roles_of_users, roles_of_sessions, roles_of_permissions, juniors_of_users, juniors_of_sessions}
use Rattle.tables.specs.Functions.{seniors_of_permissions, sessions_of_users, permissions_of_roles, permissions_of_juniors, objects_of_permissions, operations_on, done_by}
use Rattle.functions.proofs.DoneLaws.{row-says}
use Rattle.syntax.specs.Term.{Fn, user, roles, roles*, sessions, permissions, permissions*, object, Fn2, operations, done}
use Rattle.rules.specs.Kind.{Kind, s_u, s_r, s_p, makes, row}
use Rattle.values.specs.Values.{of_sort, if, call_value, call2_value}
use Rattle.values.specs.Items.{sort_items}

-- Every item of w is below n.
abbrev pub Inside : ℕ → ℕ → Type 0
Inside n w = (x : ℕ) → has w x ≡ true → x < n

-- Every item of w is one of the word u.
abbrev pub Among : ℕ → ℕ → Type 0
Among u w = (x : ℕ) → has w x ≡ true → has u x ≡ true

pub among-all : (n w : ℕ) → n ≤ 64 → Inside n w → Among (all_of n) w
among-all n w l h x q = let m = h x q in has_all n x (omega arith) ∙ lt-ltb x n m

-- A word of a row that is held to n items; a row that has an item is there.
pub row_inside : (n : ℕ) (rows : List ℕ) → Below n rows → (i : ℕ) → Inside n (get_or rows i 0)
unfolding Below
row_inside n rows b i x h = go (dec_lt x n)
  where
    go : Dec (x < n) → x < n
    go (yes l) = l
    go (no l) = absurd (true≢false (sym h ∙ has-out (get_or rows i 0) n x (b i) (omega arith)))

row-there : (rows : List ℕ) (i x : ℕ) → has (get_or rows i 0) x ≡ true → i < length rows
row-there rows i x h = go (dec_lt i (length rows))
  where
    go : Dec (i < length rows) → i < length rows
    go (yes l) = l
    go (no l) =
        let past : length rows ≤ i = omega arith in
        absurd (true≢false (sym h ∙ ap (λ (w : ℕ). has w x) (get_or-eq_default rows 0 past) ∙ has-zero x))

-- What a relation gives is below n; then so is what is reached along it,
abbrev Gives : ℕ → Relation → Type 0
Gives n R = (i x : ℕ) → R i x ≡ true → x < n

inside : (n : ℕ) (R : Relation) (w : ℕ) → Gives n R → Inside n (reach R w)
inside n R w g x h = let (i, _, r) = reached-from R w x h in g i x r

-- what is given behind another relation,
composed-gives : (n : ℕ) (R Q : Relation) → Gives n Q → Gives n (composed R Q)
composed-gives n R Q g i x h = let (j, _, q) = any-witness 64 (λ j. R i j && Q j x) h in g j x (and-true (R i j) (Q j x) q).1

-- and what is done on some object.
some-gives : (n o : ℕ) (does : ℕ → ℕ → ℕ → Bool) → ((i a b : ℕ) → does i a b ≡ true → a < n) → Gives n (on_some o does)
some-gives n o does g i a h = let (b, _, d) = some_of o (does i a) h in g i a b d

-- Rows give items that are there, forth where they are held to n items, and back.
back-gives : (rows : List ℕ) → Gives (length rows) (λ x i. has (get_or rows i 0) x)
back-gives rows x i h = row-there rows i x h

module _ (T : Tables) (pass : Passes T) (w : ℕ) where
  fits : Fits T
  fits = pass.sound.fits

  b : Bounded T
  b = pass.sound.bounded

  abbrev role_count : ℕ
  role_count = length T.role_rows

  -- A function that gives users gives none who left.
  pub users-of-sessions : Among (present_users T) (user_of_sessions T w)
  unfolding user_of_sessions
  users-of-sessions u h =
      let (s, _, q) = reached-from (session_of T) w u h in
      present-word T.users u fits.users (session-present T pass u s q)

  pub users-of-roles : Among (present_users T) (user_of_roles T w)
  unfolding user_of_roles
  users-of-roles u h =
      let (r, _, q) = reached-from (back (assigned T)) w u h in
      present-word T.users u fits.users (role-present T pass u r q)

  juniors-give : (R : Relation) → Gives role_count (composed R (dominates T.role_rows))
  juniors-give R = composed-gives role_count R (dominates T.role_rows) (row_inside role_count T.role_rows b.roles)

  roles-of-users : Inside role_count (roles_of_users T w)
  unfolding roles_of_users
  roles-of-users = inside role_count (assigned T) w (row_inside role_count (user_rows T) b.users)

  roles-of-sessions : Inside role_count (roles_of_sessions T w)
  unfolding roles_of_sessions
  roles-of-sessions = inside role_count (active T) w (row_inside role_count (session_roles T) (active-below _ _ T.sessions b.sessions))

  roles-of-permissions : Inside role_count (roles_of_permissions T w)
  unfolding roles_of_permissions
  roles-of-permissions = inside role_count (held_by T) w (row_inside role_count T.permission_rows b.permissions)

  juniors-of-users : Inside role_count (juniors_of_users T w)
  unfolding juniors_of_users
  juniors-of-users = inside role_count _ w (juniors-give (assigned T))

  juniors-of-sessions : Inside role_count (juniors_of_sessions T w)
  unfolding juniors_of_sessions
  juniors-of-sessions = inside role_count _ w (juniors-give (active T))

  seniors-of-permissions : Inside role_count (seniors_of_permissions T w)
  unfolding seniors_of_permissions
  seniors-of-permissions =
      inside role_count _ w (composed-gives role_count (held_by T) (back (dominates T.role_rows)) (back-gives T.role_rows))

  sessions-of-users : Inside (length T.sessions) (sessions_of_users T w)
  unfolding sessions_of_users
  sessions-of-users =
      inside (length T.sessions) (back (session_of T)) w (λ u s h.
      ltb-true s (length T.sessions) (and-true (ltb s (length T.sessions)) (eqb (get_or (session_users T) s 0) u) h).0)

  permissions-of-roles : Inside (length T.permission_rows) (permissions_of_roles T w)
  unfolding permissions_of_roles
  permissions-of-roles = inside (length T.permission_rows) (back (held_by T)) w (back-gives T.permission_rows)

  permissions-of-juniors : Inside (length T.permission_rows) (permissions_of_juniors T w)
  unfolding permissions_of_juniors
  permissions-of-juniors =
      inside (length T.permission_rows) _ w
      (composed-gives (length T.permission_rows) (dominates T.role_rows) (back (held_by T)) (back-gives T.permission_rows))

  -- What a permission is: its number is there, and so is its object.
  abbrev Parts : ℕ → ℕ → ℕ → Type 0
  Parts p a o = (p < length T.permission_rows) × (o < T.object_count) × (p ≡ a * T.object_count + o)

  parts : (p a o : ℕ) → is_permission T p a o ≡ true → Parts p a o
  parts p a o h =
      let e = and-true (ltb p (length T.permission_rows)) (ltb o T.object_count && eqb p (a * T.object_count + o)) h in
      let g = and-true (ltb o T.object_count) (eqb p (a * T.object_count + o)) e.1 in
      (ltb-true p (length T.permission_rows) e.0, ltb-true o T.object_count g.0, eqb-true p (a * T.object_count + o) g.1)

  objects-of-permissions : Inside T.object_count (objects_of_permissions T w)
  unfolding objects_of_permissions
  objects-of-permissions =
      inside T.object_count (on_object T) w (λ p o h. let (a, _, q) = any-witness 64 (λ a. is_permission T p a o) h in (parts p a o q).1)

  operation-there : (p a o : ℕ) → Parts p a o → Dec (a < T.operation_count) → a < T.operation_count
  operation-there p a o e (yes l) = l
  operation-there p a o e (no l) =
      let more : T.operation_count * T.object_count ≤ a * T.object_count = mul-le-mul_right T.object_count (omega arith) in
      absurd (omega (arith, e.0, e.2, fits.permissions, more))

  operations-on : (v : ℕ) → Inside T.operation_count (operations_on T w v)
  unfolding operations_on
  operations-on v =
      inside T.operation_count _ w (some-gives T.operation_count v (may T) (λ r a o h.
      let (p, _, q) = any-witness 64 (λ p. is_permission T p a o && held_by T p r) h in
      operation-there p a o (parts p a o (and-true (is_permission T p a o) (held_by T p r) q).0) (dec_lt a T.operation_count)))

  done-by : (v : ℕ) → Inside T.operation_count (done_by T w v)
  unfolding done_by
  done-by v =
      inside T.operation_count _ w (some-gives T.operation_count v (did T) (λ u a o h.
      let (k, _, q) = any-witness 64 (λ k. done_row_is T k u a o) h in
      let (row, _, what, _) = row-says T k u a o q in
      rw what at (deeds-below _ _ _ T.done b.done k row)))

  pub call2-among : (f : Fn2) (v : ℕ) → Among (sort_items T (row f).gives) (call2_value T f w v)
  unfolding sort_items row call2_value
  call2-among operations v = among-all T.operation_count (operations_on T w v) (omega (arith, fits.operations)) (operations-on v)
  call2-among done v = among-all T.operation_count (done_by T w v) (omega (arith, fits.operations)) (done-by v)

  pub permissions-few : length T.permission_rows ≤ 64
  permissions-few = omega (arith, fits.permissions, mul-le-mul fits.operations fits.objects)

  -- Each function gives items of the sort that it makes.
  if-inside : (t : Bool) (n x y : ℕ) → Inside n x → Inside n y → Inside n (if t x y)
  if-inside true n x y f g = f
  if-inside false n x y f g = g

  pub call-among : (f : Fn) (k : Option Kind) → Among (sort_items T (makes f)) (call_value T f k w)
  unfolding sort_items makes call_value
  call-among user k = go (of_sort s_r k)
    where
      go : (t : Bool) → Among (present_users T) (if t (user_of_roles T w) (user_of_sessions T w))
      go true = users-of-roles
      go false = users-of-sessions
  call-among roles k =
      let n : ℕ = length T.role_rows in
      let other : ℕ = if (of_sort s_p k) (roles_of_permissions T w) (roles_of_sessions T w) in
      among-all n (if (of_sort s_u k) (roles_of_users T w) other) fits.roles
      (if-inside (of_sort s_u k) n (roles_of_users T w) other roles-of-users
      (if-inside (of_sort s_p k) n (roles_of_permissions T w) (roles_of_sessions T w) roles-of-permissions roles-of-sessions))
  call-among roles* k =
      let n : ℕ = length T.role_rows in
      let other : ℕ = if (of_sort s_p k) (seniors_of_permissions T w) (juniors_of_sessions T w) in
      among-all n (if (of_sort s_u k) (juniors_of_users T w) other) fits.roles
      (if-inside (of_sort s_u k) n (juniors_of_users T w) other juniors-of-users
      (if-inside (of_sort s_p k) n (seniors_of_permissions T w) (juniors_of_sessions T w) seniors-of-permissions juniors-of-sessions))
  call-among sessions k = among-all (length T.sessions) (sessions_of_users T w) fits.sessions sessions-of-users
  call-among permissions k = among-all (length T.permission_rows) (permissions_of_roles T w) permissions-few permissions-of-roles
  call-among permissions* k = among-all (length T.permission_rows) (permissions_of_juniors T w) permissions-few permissions-of-juniors
  call-among object k = among-all T.object_count (objects_of_permissions T w) (omega (arith, fits.objects)) objects-of-permissions
