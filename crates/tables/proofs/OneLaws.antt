-- The flat words of sound tables are those of no other tables.
-- Assumes nothing.
use mathlib.Core.Path.{◌≡◌, refl, sym, ap, ap₂, ◌∙◌}
use mathlib.Core.Bool.{true, false}
use mathlib.Core.List.{List, [], ◌∷◌, map}
use Prim.Native.Nat.{ℕ, ◌+◌, ◌*◌, ◌<◌, ◌≤◌}
use native.Mathlib.Omega.{arith}
use lib.Dec.{eqb}
use lib.ListN.{length, get_or, length-map}
use lib.Seq.{ext_get_or}
use borrow.Author.Tests.{eq-eqb, eqb-true}
use Rattle.words.specs.Words.{has, item_of}
use Rattle.words.proofs.WordsLaws.{has-item}
use Rattle.tables.specs.Tables.{User, Session, Deed, Tables, user_rows, is_present, present_in, session_roles}
use Rattle.tables.specs.Flat.{room, counts, sections, flat}
use Rattle.tables.specs.Accepted.{Fits, Known, KnownDeed, Every, Sound}
use Rattle.tables.proofs.FlatLaws.{flat-at, numbers-long}
use Rattle.tables.proofs.SectionsLaws.{product-few}
use Rattle.tables.proofs.PresentLaws.{has-present}

-- An item's word is that of no other number.
item-one : (x y : ℕ) → y < 64 → item_of x ≡ item_of y → x ≡ y
item-one x y l e =
    let q : eqb y x ≡ true = sym (has-item x y l) ∙ ap (λ (w : ℕ). has w y) e ∙ has-item y y l ∙ eq-eqb y y refl in
    sym (eqb-true y x q)

-- Users are known by their rows and the word of those present.
users-each : (us vs : List User) → map (λ u. u.present) us ≡ map (λ u. u.present) vs → map (λ u. u.assigned) us ≡ map (λ u. u.assigned) vs → us ≡ vs
users-each [] [] e f = refl
users-each [] (v ∷ vs) e f = absurd (omega (arith, ap length f))
users-each (u ∷ us) [] e f = absurd (omega (arith, ap length f))
users-each (u ∷ us) (v ∷ vs) e f =
    let present : u.present ≡ v.present = cc in
    let assigned : u.assigned ≡ v.assigned = cc in
    let rest : map (λ (x : User). x.present) us ≡ map (λ (x : User). x.present) vs = cc in
    let rest' : map (λ (x : User). x.assigned) us ≡ map (λ (x : User). x.assigned) vs = cc in
    let same : ◌≡◌ {A = User} (record { present = u.present; assigned = u.assigned }) (record { present = v.present; assigned = v.assigned }) = rw (present, assigned) in
    ap₂ (λ (x : User) (xs : List User). x ∷ xs) same (users-each us vs rest rest')

users-one : (us vs : List User) → length us ≤ 64 → length us ≡ length vs → map (λ u. u.assigned) us ≡ map (λ u. u.assigned) vs → present_in us ≡ present_in vs → us ≡ vs
users-one us vs few l rows here = users-each us vs (ext_get_or false _ _ (length-map us (λ u. u.present) ∙ l ∙ sym (length-map vs (λ u. u.present))) at) rows
  where
    at : (i : ℕ) → i < length (map (λ (u : User). u.present) us) → is_present us i ≡ is_present vs i
    at i k =
        let m : i < 64 = omega (arith, length-map us (λ u. u.present)) in
        sym (has-present us i m) ∙ ap (λ (w : ℕ). has w i) here ∙ has-present vs i m

-- Sessions are known by their users' words and their roles.
sessions-one : (users roles : ℕ) (ss us : List Session) → users ≤ 64 → Every (Known users roles) us
    → map item_of (map (λ s. s.user) ss) ≡ map item_of (map (λ s. s.user) us) → map (λ s. s.active) ss ≡ map (λ s. s.active) us → ss ≡ us
sessions-one users roles [] [] l k e f = refl
sessions-one users roles [] (u ∷ us) l k e f = absurd (omega (arith, ap length f))
sessions-one users roles (s ∷ ss) [] l k e f = absurd (omega (arith, ap length f))
sessions-one users roles (s ∷ ss) (u ∷ us) l k e f =
    let words : item_of s.user ≡ item_of u.user = cc in
    let user : s.user ≡ u.user = item-one s.user u.user (omega (arith, k.0.user)) words in
    let active : s.active ≡ u.active = cc in
    let rest : map item_of (map (λ t. t.user) ss) ≡ map item_of (map (λ t. t.user) us) = cc in
    let rest' : map (λ t. t.active) ss ≡ map (λ t. t.active) us = cc in
    let same : ◌≡◌ {A = Session} (record { user = s.user; active = s.active }) (record { user = u.user; active = u.active }) = rw (user, active) in
    ap₂ (λ (t : Session) (ts : List Session). t ∷ ts) same (sessions-one users roles ss us l k.1 rest rest')

-- Rows of Done are known by the words of their users, objects and operations.
deeds-one : (users operations objects : ℕ) (ds es : List Deed) → users ≤ 64 → operations ≤ 8 → objects ≤ 8 → Every (KnownDeed users operations objects) es
    → map item_of (map (λ d. d.user) ds) ≡ map item_of (map (λ d. d.user) es) → map item_of (map (λ d. d.object) ds) ≡ map item_of (map (λ d. d.object) es)
    → map item_of (map (λ d. d.operation) ds) ≡ map item_of (map (λ d. d.operation) es) → ds ≡ es
deeds-one users operations objects [] [] lu la lb k e f g = refl
deeds-one users operations objects [] (y ∷ es) lu la lb k e f g = absurd (omega (arith, ap length f))
deeds-one users operations objects (x ∷ ds) [] lu la lb k e f g = absurd (omega (arith, ap length f))
deeds-one users operations objects (x ∷ ds) (y ∷ es) lu la lb k e f g =
    let eu : item_of x.user ≡ item_of y.user = cc in
    let eb : item_of x.object ≡ item_of y.object = cc in
    let ea : item_of x.operation ≡ item_of y.operation = cc in
    let user : x.user ≡ y.user = item-one x.user y.user (omega (arith, k.0.user)) eu in
    let object : x.object ≡ y.object = item-one x.object y.object (omega (arith, k.0.object)) eb in
    let operation : x.operation ≡ y.operation = item-one x.operation y.operation (omega (arith, k.0.operation)) ea in
    let ru : map item_of (map (λ (d : Deed). d.user) ds) ≡ map item_of (map (λ (d : Deed). d.user) es) = cc in
    let rb : map item_of (map (λ (d : Deed). d.object) ds) ≡ map item_of (map (λ (d : Deed). d.object) es) = cc in
    let ra : map item_of (map (λ (d : Deed). d.operation) ds) ≡ map item_of (map (λ (d : Deed). d.operation) es) = cc in
    let same : ◌≡◌ {A = Deed} (record { user = x.user; operation = x.operation; object = x.object })
    (record { user = y.user; operation = y.operation; object = y.object }) = rw (user, operation, object) in
    ap₂ (λ (d : Deed) (rest : List Deed). d ∷ rest) same (deeds-one users operations objects ds es lu la lb k.1 ru rb ra)

-- Tables are all of their parts.
abbrev again : Tables → Tables
again T = record {
  role_rows = T.role_rows;
  users = T.users;
  sessions = T.sessions;
  operation_count = T.operation_count;
  object_count = T.object_count;
  permission_rows = T.permission_rows;
  cr = T.cr;
  cu = T.cu;
  cp = T.cp;
  done = T.done;
}

module _ (T U : Tables) (e : flat T ≡ flat U) where
  word-one : (k i : ℕ) → i < room → get_or (get_or (sections T) k []) i 0 ≡ get_or (get_or (sections U) k []) i 0
  word-one k i l = sym (flat-at T k i l) ∙ ap (λ (ws : List ℕ). get_or ws (room * k + i) 0) e ∙ flat-at U k i l

  count-one : (i : ℕ) → i < room → get_or (counts T) i 0 ≡ get_or (counts U) i 0
  unfolding sections
  count-one i l = word-one 0 i l

  list-one : (k : ℕ) → length (get_or (sections T) k []) ≤ room → length (get_or (sections T) k []) ≡ length (get_or (sections U) k [])
      → get_or (sections T) k [] ≡ get_or (sections U) k []
  list-one k l q = ext_get_or 0 (get_or (sections T) k []) (get_or (sections U) k []) q (λ i h. word-one k i (omega arith))

  -- A section of the numbers that f gives of the members of a list.
  numbers-one : {A : Type 0} (xs ys : List A) (f : A → ℕ) (k : ℕ) → length xs ≤ room → length xs ≡ length ys
      → get_or (sections T) k [] ≡ map item_of (map f xs) → get_or (sections U) k [] ≡ map item_of (map f ys) → map item_of (map f xs) ≡ map item_of (map f ys)
  numbers-one xs ys f k l q p p' =
      sym p ∙ list-one k (omega (arith, ap length p, numbers-long xs f)) (ap length p ∙ numbers-long xs f ∙ q ∙ sym (ap length p' ∙ numbers-long ys f)) ∙ p'

  pub tables-one : Fits T → Sound U → T ≡ U
  unfolding sections counts
  tables-one F S =
      let held : length T.permission_rows ≤ 64 = rw F.permissions (product-few F.operations F.objects) in
      let many : length T.sessions ≡ length U.sessions = count-one 3 (omega arith) in
      let at : length (session_roles T) ≡ length T.sessions = length-map T.sessions (λ s. s.active) in
      let au : length (session_roles U) ≡ length U.sessions = length-map U.sessions (λ s. s.active) in
      let users = numbers-one T.sessions U.sessions (λ s. s.user) 3 F.sessions many refl refl in
      let actives : session_roles T ≡ session_roles U = list-one 4 (omega (arith, F.sessions)) (omega arith) in
      let role_rows : T.role_rows ≡ U.role_rows = list-one 1 F.roles (count-one 0 (omega arith)) in
      let many-users : length T.users ≡ length U.users = count-one 1 (omega arith) in
      let rt = length-map T.users (λ u. u.assigned) in
      let ru = length-map U.users (λ u. u.assigned) in
      let rows : user_rows T ≡ user_rows U = list-one 2 (omega (arith, F.users)) (omega arith) in
      let people : T.users ≡ U.users = users-one T.users U.users F.users many-users rows (count-one 2 (omega arith)) in
      let sessions : T.sessions ≡ U.sessions = sessions-one (length U.users) (length U.role_rows) T.sessions U.sessions S.fits.users S.bounded.sessions users actives in
      let operations : T.operation_count ≡ U.operation_count = count-one 4 (omega arith) in
      let objects : T.object_count ≡ U.object_count = count-one 5 (omega arith) in
      let permissions : T.permission_rows ≡ U.permission_rows = list-one 5 held (count-one 6 (omega arith)) in
      let crs : T.cr ≡ U.cr = list-one 6 F.crs (count-one 7 (omega arith)) in
      let cus : T.cu ≡ U.cu = list-one 7 F.cus (count-one 8 (omega arith)) in
      let cps : T.cp ≡ U.cp = list-one 8 F.cps (count-one 9 (omega arith)) in
      let rows-done : length T.done ≡ length U.done = count-one 10 (omega arith) in
      let eu = numbers-one T.done U.done (λ d. d.user) 11 F.done rows-done refl refl in
      let eb = numbers-one T.done U.done (λ d. d.object) 12 F.done rows-done refl refl in
      let ea = numbers-one T.done U.done (λ d. d.operation) 13 F.done rows-done refl refl in
      let deeds : T.done ≡ U.done =
      deeds-one (length U.users) U.operation_count U.object_count T.done U.done S.fits.users S.fits.operations S.fits.objects S.bounded.done eu eb ea in
      let same : again T ≡ again U = rw (role_rows, people, sessions, operations, objects, permissions, crs, cus, cps, deeds) in
      same
