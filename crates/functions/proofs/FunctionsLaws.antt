-- Each function of Figure 2 is one or two steps along sections.
-- Assumes nothing.
use mathlib.Core.Path.{◌≡◌, refl, sym, ap, ap₂, ◌∙◌}
use mathlib.Core.Bool.{Bool, true, false, ◌&&◌}
use mathlib.Core.List.{List, map}
use Prim.Native.Nat.{ℕ, zero, suc, ◌+◌, ◌*◌, ◌/◌, ◌%◌, ◌≤◌, ◌<◌}
use native.Mathlib.Nat.{mul-zero, mod-lt, div-add-mod', div-le_self}
use native.Mathlib.Omega.{arith}
use borrow.Author.Tests.{ltb-true, ltb-false, lt-ltb, eqb-true, eq-eqb}
use lib.Arith.{digits_div, digits_mod}
use lib.Dec.{eqb, ltb}
use lib.ListN.{length, get_or, length-map, get_or-eq_default}
use Rattle.words.specs.Words.{has, any_to, item_of, meet_of, image_of, preimage_of}
use Rattle.words.proofs.WordsLaws.{word-ext, both, eqb_comm, and-true, and_both, any_here, any-witness, any-ext, has-zero, has-item, has_meet}
use Rattle.words.specs.Relations.{reach}
use Rattle.words.proofs.RelationLaws.{reach-ext, image-reach, preimage-reach, image-image, preimage-image, has-preimage}
use Rattle.tables.specs.Tables.{Tables, user_rows, session_users, session_roles, done_users, done_objects, done_operations}
use Rattle.tables.specs.Accepted.{Fits}
use Rattle.tables.specs.Code.Layout.{role_count_at, user_count_at, session_count_at, permission_count_at, role_rows_at, user_rows_at, session_users_at}
use Rattle.tables.specs.Code.Layout.{session_roles_at, permission_rows_at, object_rows_at, operation_rows_at, done_count_at, done_users_at, done_objects_at, done_operations_at, section_at}
use Rattle.tables.specs.Flat.{counts, object_rows, operation_rows, sections}
use Rattle.tables.proofs.FlatLaws.{map_at, numbers-long, length-tabulate, tabulate-at}
use Rattle.tables.proofs.ReachLaws.{juniors-words}
use Rattle.tables.specs.Functions.{session_of, is_permission, on_object, may, done_row_is, did, on_some}
use Rattle.tables.specs.Functions.{user_of_sessions, user_of_roles, roles_of_users, roles_of_sessions, roles_of_permissions}
use Rattle.tables.specs.Functions.{juniors_of_users, juniors_of_sessions, seniors_of_permissions, sessions_of_users}
use Rattle.tables.specs.Functions.{permissions_of_roles, permissions_of_juniors, objects_of_permissions, operations_on, done_by}

-- ---- the rows of one item

-- Row i is the word of the item y, or 0 past the last row.
row_is : (rows : List ℕ) (n i x y : ℕ) → x < 64 → length rows ≡ n → (i < n → get_or rows i 0 ≡ item_of y) → has (get_or rows i 0) x ≡ (ltb i n && eqb y x)
row_is rows n i x y l long within = go (ltb i n) refl
  where
    go : (b : Bool) → ltb i n ≡ b → has (get_or rows i 0) x ≡ (b && eqb y x)
    go true e = ap (λ (w : ℕ). has w x) (within (ltb-true i n e)) ∙ has-item y x l ∙ eqb_comm x y
    go false e =
        let past : n ≤ i = ltb-false i n e in
        let h : length rows ≤ i = omega arith in
        ap (λ (w : ℕ). has w x) (get_or-eq_default rows 0 h) ∙ has-zero x

-- Rows whose items are the numbers that f gives of the members of a list.
number-row : {A : Type 0} (xs : List A) (f : A → ℕ) (i x : ℕ) → x < 64
    → has (get_or (map item_of (map f xs)) i 0) x ≡ (ltb i (length xs) && eqb (get_or (map f xs) i 0) x)
number-row xs f i x l =
    row_is (map item_of (map f xs)) (length xs) i x (get_or (map f xs) i 0) l (numbers-long xs f) (λ h. map_at item_of (map f xs) i (omega (arith, length-map xs f)))

session-row : (T : Tables) (s u : ℕ) → u < 64 → has (get_or (map item_of (session_users T)) s 0) u ≡ session_of T s u
session-row T s u l = number-row T.sessions (λ s. s.user) s u l

object-row : (T : Tables) (p b : ℕ) → b < 64 → has (get_or (object_rows T) p 0) b ≡ (ltb p (length T.permission_rows) && eqb (p % T.object_count) b)
unfolding object_rows
object-row T p b l =
    let f : ℕ → ℕ = λ q. item_of (q % T.object_count) in
    let n : ℕ = length T.permission_rows in
    row_is (object_rows T) n p b (p % T.object_count) l (length-tabulate n f) (λ h. tabulate-at n f p h)

operation-row : (T : Tables) (p a : ℕ) → a < 64 → has (get_or (operation_rows T) p 0) a ≡ (ltb p (length T.permission_rows) && eqb (p / T.object_count) a)
unfolding operation_rows
operation-row T p a l =
    let f : ℕ → ℕ = λ q. item_of (q / T.object_count) in
    let n : ℕ = length T.permission_rows in
    row_is (operation_rows T) n p a (p / T.object_count) l (length-tabulate n f) (λ h. tabulate-at n f p h)

some-object : (x m p : ℕ) → p < x * m → 0 < m
some-object x zero p h = absurd (omega (arith, mul-zero x))
some-object x (suc m) p h = omega arith

-- A permission is known by its object and its operation.
permission-is : (T : Tables) → Fits T → (p a b : ℕ) → a < 64 → b < 64
    → is_permission T p a b ≡ (has (get_or (object_rows T) p 0) b && has (get_or (operation_rows T) p 0) a)
permission-is T fits p a b la lb = both (ltb p n && (ltb b m && eqb p (a * m + b))) (on && by) there back
  where
    n : ℕ
    n = length T.permission_rows

    m : ℕ
    m = T.object_count

    on : Bool
    on = has (get_or (object_rows T) p 0) b

    by : Bool
    by = has (get_or (operation_rows T) p 0) a

    there : (ltb p n && (ltb b m && eqb p (a * m + b))) ≡ true → (on && by) ≡ true
    there e =
        let q = and-true (ltb p n) (ltb b m && eqb p (a * m + b)) e in
        let r = and-true (ltb b m) (eqb p (a * m + b)) q.1 in
        let h : b < m = ltb-true b m r.0 in
        let s : p ≡ a * m + b = eqb-true p (a * m + b) r.1 in
        and_both
        (object-row T p b lb ∙ and_both q.0 (eq-eqb (p % m) b (ap (λ (x : ℕ). x % m) s ∙ digits_mod a h)))
        (operation-row T p a la ∙ and_both q.0 (eq-eqb (p / m) a (ap (λ (x : ℕ). x / m) s ∙ digits_div a h)))

    back : (on && by) ≡ true → (ltb p n && (ltb b m && eqb p (a * m + b))) ≡ true
    back e =
        let q = and-true on by e in
        let r = and-true (ltb p n) (eqb (p % m) b) (sym (object-row T p b lb) ∙ q.0) in
        let s = and-true (ltb p n) (eqb (p / m) a) (sym (operation-row T p a la) ∙ q.1) in
        let d : p % m ≡ b = eqb-true (p % m) b r.1 in
        let k : p / m ≡ a = eqb-true (p / m) a s.1 in
        let h : p < T.operation_count * m = omega (arith, ltb-true p n r.0, fits.permissions) in
        let l : b < m = omega (arith, mod-lt p (some-object T.operation_count m p h)) in
        and_both r.0 (and_both (lt-ltb b m l) (eq-eqb p (a * m + b) (sym (div-add-mod' p m) ∙ ap₂ (λ (x y : ℕ). x * m + y) k d)))

object-is : (T : Tables) → Fits T → (p b : ℕ) → p < 64 → b < 64 → has (get_or (object_rows T) p 0) b ≡ any_to 64 (λ a. is_permission T p a b)
object-is T fits p b lp lb = both (has (get_or (object_rows T) p 0) b) (any_to 64 (λ a. is_permission T p a b)) there back
  where
    there : has (get_or (object_rows T) p 0) b ≡ true → any_to 64 (λ a. is_permission T p a b) ≡ true
    there e =
        let a : ℕ = p / T.object_count in
        let la : a < 64 = omega (arith, div-le_self p T.object_count) in
        let q = and-true (ltb p (length T.permission_rows)) (eqb (p % T.object_count) b) (sym (object-row T p b lb) ∙ e) in
        any_here 64 (λ a. is_permission T p a b) a la
        (permission-is T fits p a b la lb ∙ and_both e (operation-row T p a la ∙ and_both q.0 (eq-eqb a a refl)))

    back : any_to 64 (λ a. is_permission T p a b) ≡ true → has (get_or (object_rows T) p 0) b ≡ true
    back e =
        let w = any-witness 64 (λ a. is_permission T p a b) e in
        (and-true (has (get_or (object_rows T) p 0) b) (has (get_or (operation_rows T) p 0) w.0) (sym (permission-is T fits p w.0 b w.1 lb) ∙ w.2)).0

-- ---- the count of each section that is gone back along

pub counted-roles : (T : Tables) → get_or (counts T) role_count_at 0 ≡ length (section_at T role_rows_at)
unfolding counts sections
counted-roles T = refl

pub counted-users : (T : Tables) → get_or (counts T) user_count_at 0 ≡ length (section_at T user_rows_at)
unfolding counts sections
counted-users T = sym (length-map T.users (λ u. u.assigned))

pub counted-sessions : (T : Tables) → get_or (counts T) session_count_at 0 ≡ length (section_at T session_users_at)
unfolding counts sections
counted-sessions T = sym (numbers-long T.sessions (λ s. s.user))

pub counted-permissions : (T : Tables) → get_or (counts T) permission_count_at 0 ≡ length (section_at T permission_rows_at)
unfolding counts sections
counted-permissions T = refl

pub counted-objects : (T : Tables) → get_or (counts T) permission_count_at 0 ≡ length (section_at T object_rows_at)
unfolding counts sections object_rows
counted-objects T = sym (length-tabulate (length T.permission_rows) (λ p. item_of (p % T.object_count)))

pub counted-done-users : (T : Tables) → get_or (counts T) done_count_at 0 ≡ length (section_at T done_users_at)
unfolding counts sections
counted-done-users T = sym (numbers-long T.done (λ d. d.user))

pub counted-done-objects : (T : Tables) → get_or (counts T) done_count_at 0 ≡ length (section_at T done_objects_at)
unfolding counts sections
counted-done-objects T = sym (numbers-long T.done (λ d. d.object))

-- ---- one step

pub user-of-sessions : (T : Tables) (w : ℕ) → image_of (section_at T session_users_at) w ≡ user_of_sessions T w
unfolding sections user_of_sessions
user-of-sessions T w =
    image-reach (map item_of (session_users T)) w
    ∙ reach-ext (λ s u. has (get_or (map item_of (session_users T)) s 0) u) (session_of T) w (λ s u _ l. session-row T s u l)

pub sessions-of-users : (T : Tables) (w : ℕ) → preimage_of (section_at T session_users_at) w ≡ sessions_of_users T w
unfolding sections sessions_of_users
sessions-of-users T w =
    preimage-reach (map item_of (session_users T)) w
    ∙ reach-ext (λ u s. has (get_or (map item_of (session_users T)) s 0) u) (λ u s. session_of T s u) w (λ u s l _. session-row T s u l)

pub user-of-roles : (T : Tables) (w : ℕ) → preimage_of (section_at T user_rows_at) w ≡ user_of_roles T w
unfolding sections user_of_roles
user-of-roles T w = preimage-reach (user_rows T) w

pub roles-of-users : (T : Tables) (w : ℕ) → image_of (section_at T user_rows_at) w ≡ roles_of_users T w
unfolding sections roles_of_users
roles-of-users T w = image-reach (user_rows T) w

pub roles-of-sessions : (T : Tables) (w : ℕ) → image_of (section_at T session_roles_at) w ≡ roles_of_sessions T w
unfolding sections roles_of_sessions
roles-of-sessions T w = image-reach (session_roles T) w

pub roles-of-permissions : (T : Tables) (w : ℕ) → image_of (section_at T permission_rows_at) w ≡ roles_of_permissions T w
unfolding sections roles_of_permissions
roles-of-permissions T w = image-reach T.permission_rows w

pub permissions-of-roles : (T : Tables) (w : ℕ) → preimage_of (section_at T permission_rows_at) w ≡ permissions_of_roles T w
unfolding sections permissions_of_roles
permissions-of-roles T w = preimage-reach T.permission_rows w

pub objects-of-permissions : (T : Tables) → Fits T → (w : ℕ) → image_of (section_at T object_rows_at) w ≡ objects_of_permissions T w
unfolding sections objects_of_permissions
objects-of-permissions T fits w =
    image-reach (object_rows T) w ∙ reach-ext (λ p b. has (get_or (object_rows T) p 0) b) (on_object T) w (λ p b lp lb. object-is T fits p b lp lb)

-- ---- two steps

pub juniors-of-users : (T : Tables) (w : ℕ) → image_of (section_at T role_rows_at) (image_of (section_at T user_rows_at) w) ≡ juniors_of_users T w
unfolding sections
juniors-of-users T w = juniors-words T w

pub juniors-of-sessions : (T : Tables) (w : ℕ) → image_of (section_at T role_rows_at) (image_of (section_at T session_roles_at) w) ≡ juniors_of_sessions T w
unfolding sections juniors_of_sessions
juniors-of-sessions T w = image-image (session_roles T) T.role_rows w

pub seniors-of-permissions : (T : Tables) (w : ℕ)
    → preimage_of (section_at T role_rows_at) (image_of (section_at T permission_rows_at) w) ≡ seniors_of_permissions T w
unfolding sections seniors_of_permissions
seniors-of-permissions T w = preimage-image T.permission_rows T.role_rows w

pub permissions-of-juniors : (T : Tables) (w : ℕ)
    → preimage_of (section_at T permission_rows_at) (image_of (section_at T role_rows_at) w) ≡ permissions_of_juniors T w
unfolding sections permissions_of_juniors
permissions-of-juniors T w = preimage-image T.role_rows T.permission_rows w

-- ---- the operations that rows say of somebody and an object

-- Some p that a W holds, that touches a B, and that is in A: first the W, then the B, then p.
regroup : (W B A : ℕ → Bool) (H O : ℕ → ℕ → Bool)
    → any_to 64 (λ p. (any_to 64 (λ r. H p r && W r) && any_to 64 (λ b. O p b && B b)) && A p)
    ≡ any_to 64 (λ r. W r && any_to 64 (λ b. B b && any_to 64 (λ p. (O p b && A p) && H p r)))
regroup W B A H O = both (any_to 64 first) (any_to 64 outer) there back
  where
    first : ℕ → Bool
    first p = (any_to 64 (λ r. H p r && W r) && any_to 64 (λ b. O p b && B b)) && A p

    inner : ℕ → ℕ → ℕ → Bool
    inner r b p = (O p b && A p) && H p r

    middle : ℕ → ℕ → Bool
    middle r b = B b && any_to 64 (inner r b)

    outer : ℕ → Bool
    outer r = W r && any_to 64 (middle r)

    to-outer : (p r b : ℕ) → p < 64 → r < 64 → b < 64 → (H p r && W r) ≡ true → (O p b && B b) ≡ true → A p ≡ true → any_to 64 outer ≡ true
    to-outer p r b lp lr lb h o a =
        let (held, w) = and-true (H p r) (W r) h in
        let (on, v) = and-true (O p b) (B b) o in
        any_here 64 outer r lr (and_both w (any_here 64 (middle r) b lb (and_both v (any_here 64 (inner r b) p lp (and_both (and_both on a) held)))))

    to-first : (p r b : ℕ) → p < 64 → r < 64 → b < 64 → inner r b p ≡ true → W r ≡ true → B b ≡ true → any_to 64 first ≡ true
    to-first p r b lp lr lb h w v =
        let (oa, held) = and-true (O p b && A p) (H p r) h in
        let (on, a) = and-true (O p b) (A p) oa in
        any_here 64 first p lp
        (and_both (and_both (any_here 64 (λ r. H p r && W r) r lr (and_both held w)) (any_here 64 (λ b. O p b && B b) b lb (and_both on v))) a)

    there : any_to 64 first ≡ true → any_to 64 outer ≡ true
    there e =
        let (p, lp, h) = any-witness 64 first e in
        let (ho, a) = and-true (any_to 64 (λ r. H p r && W r) && any_to 64 (λ b. O p b && B b)) (A p) h in
        let (hh, oo) = and-true (any_to 64 (λ r. H p r && W r)) (any_to 64 (λ b. O p b && B b)) ho in
        let (r, lr, hw) = any-witness 64 (λ r. H p r && W r) hh in
        let (b, lb, ov) = any-witness 64 (λ b. O p b && B b) oo in
        to-outer p r b lp lr lb hw ov a

    back : any_to 64 outer ≡ true → any_to 64 first ≡ true
    back e =
        let (r, lr, h) = any-witness 64 outer e in
        let (w, m) = and-true (W r) (any_to 64 (middle r)) h in
        let (b, lb, k) = any-witness 64 (middle r) m in
        let (v, i) = and-true (B b) (any_to 64 (inner r b)) k in
        let (p, lp, q) = any-witness 64 (inner r b) i in
        to-first p r b lp lr lb q w v

-- Rows of three words, who, which object and which operation: those of w and on o, and forth to their operations, is what w reaches where `does` is what some row says.
by_rows : (who objects operations : List ℕ) (does : ℕ → ℕ → ℕ → Bool)
    → ((i a b : ℕ) → i < 64 → a < 64 → b < 64
    → any_to 64 (λ k. (has (get_or objects k 0) b && has (get_or operations k 0) a) && has (get_or who k 0) i) ≡ does i a b)
    → (w o : ℕ) → image_of operations (meet_of (preimage_of who w) (preimage_of objects o)) ≡ reach (on_some o does) w
unfolding image_of reach
by_rows who objects operations does says w o = word-ext 64 (λ a. any_to 64 (code a)) (λ a. any_to 64 (told a)) bit
  where
    theirs : ℕ → ℕ → Bool
    theirs k i = has (get_or who k 0) i

    on : ℕ → ℕ → Bool
    on k b = has (get_or objects k 0) b

    by : ℕ → ℕ → Bool
    by a k = has (get_or operations k 0) a

    code : ℕ → ℕ → Bool
    code a k = has (meet_of (preimage_of who w) (preimage_of objects o)) k && by a k

    told : ℕ → ℕ → Bool
    told a i = has w i && any_to 64 (λ b. has o b && does i a b)

    met : (k : ℕ) → k < 64
        → has (meet_of (preimage_of who w) (preimage_of objects o)) k ≡ (any_to 64 (λ i. theirs k i && has w i) && any_to 64 (λ b. on k b && has o b))
    met k l =
        has_meet (preimage_of who w) (preimage_of objects o) k l
        ∙ ap₂ (λ (x y : Bool). x && y) (has-preimage who w k l) (has-preimage objects o k l)

    bit : (a : ℕ) → a < 64 → any_to 64 (code a) ≡ any_to 64 (told a)
    bit a la =
        any-ext 64 (code a) (λ k. (any_to 64 (λ i. theirs k i && has w i) && any_to 64 (λ b. on k b && has o b)) && by a k) (λ k l.
        ap (λ (x : Bool). x && by a k) (met k l))
        ∙ regroup (has w) (has o) (by a) theirs on
        ∙ any-ext 64 (λ i. has w i && any_to 64 (λ b. has o b && any_to 64 (λ k. (on k b && by a k) && theirs k i))) (told a) (λ i li.
        ap (λ (x : Bool). has w i && x)
        (any-ext 64 (λ b. has o b && any_to 64 (λ k. (on k b && by a k) && theirs k i)) (λ b. has o b && does i a b) (λ b lb.
        ap (λ (x : Bool). has o b && x) (says i a b li la lb))))

-- Permissions: the roles that hold them.
pub operations-on : (T : Tables) → Fits T → (w o : ℕ)
    → image_of (section_at T operation_rows_at) (meet_of (preimage_of (section_at T permission_rows_at) w) (preimage_of (section_at T object_rows_at) o)) ≡ operations_on T w o
unfolding sections operations_on
operations-on T fits =
    by_rows T.permission_rows (object_rows T) (operation_rows T) (may T) (λ r a b _ la lb.
    any-ext 64 _ _ (λ p _. ap (λ (x : Bool). x && has (get_or T.permission_rows p 0) r) (sym (permission-is T fits p a b la lb))))

-- Rows of Done: their users.
gather : (n u a b : Bool) → (((n && b) && (n && a)) && (n && u)) ≡ (n && (u && (a && b)))
gather false u a b = refl
gather true false true true = refl
gather true false true false = refl
gather true false false true = refl
gather true false false false = refl
gather true true true true = refl
gather true true true false = refl
gather true true false true = refl
gather true true false false = refl

done-row : (T : Tables) (k u a b : ℕ) → u < 64 → a < 64 → b < 64
    → ((has (get_or (map item_of (done_objects T)) k 0) b && has (get_or (map item_of (done_operations T)) k 0) a) && has (get_or (map item_of (done_users T)) k 0) u)
    ≡ done_row_is T k u a b
done-row T k u a b lu la lb =
    rw (number-row T.done (λ d. d.user) k u lu, number-row T.done (λ d. d.operation) k a la, number-row T.done (λ d. d.object) k b lb)
    (gather (ltb k (length T.done)) (eqb (get_or (done_users T) k 0) u) (eqb (get_or (done_operations T) k 0) a) (eqb (get_or (done_objects T) k 0) b))

pub done-by : (T : Tables) (w o : ℕ)
    → image_of (section_at T done_operations_at) (meet_of (preimage_of (section_at T done_users_at) w) (preimage_of (section_at T done_objects_at) o)) ≡ done_by T w o
unfolding sections done_by
done-by T =
    by_rows (map item_of (done_users T)) (map item_of (done_objects T)) (map item_of (done_operations T)) (did T) (λ u a b lu la lb.
    any-ext 64 _ _ (λ k _. done-row T k u a b lu la lb))
