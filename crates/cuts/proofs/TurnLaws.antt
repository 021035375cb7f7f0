-- Sections of the words are written anew: the words are those of the tables as the reader sees them in that part.
-- Assumes nothing.
use mathlib.Core.Path.{◌≡◌, refl, sym, ap, ap₂, ◌∙◌}
use mathlib.Core.List.{List, [], ◌∷◌, map}
use Prim.Native.Nat.{ℕ, ◌*◌, ◌^◌, ◌≤◌, ◌<◌}
use native.Mathlib.Omega.{arith}
use lib.ListN.{length, get_or, set, take, drop, length-map}
use Rattle.words.specs.Words.{item_of, meet_of}
use Rattle.tables.specs.Tables.{Session, Deed, Tables, user_rows, present_in}
use Rattle.tables.specs.Accepted.{Fits}
use Rattle.tables.specs.Flat.{room, padded, counts, object_rows, operation_rows, sections, laid, flat}
use Rattle.tables.specs.Code.Layout.{user_count_at, present_at, session_count_at, cu_count_at, done_count_at, user_rows_at, session_users_at, session_roles_at, cu_at}
use Rattle.tables.specs.Code.Layout.{done_users_at, done_objects_at, done_operations_at}
use Rattle.tables.specs.Code.Reads.{put}
use Rattle.tables.proofs.FlatLaws.{count_at, length-flat, numbers-long}
use Rattle.tables.proofs.PartLaws.{part-laid}
use Rattle.tables.proofs.ReplaceLaws.{section-put, count-put}
use Rattle.cuts.specs.Cut.{rows_from, of_reader, sessions_for, done_for, words_for, cut}
use Rattle.cuts.specs.Code.Cutting.{rows_to, kept_to, firsts_to, Fills, ClosesUp, seen_users, seen_sessions, seen_words, seen_done, Counted}
use Rattle.cuts.proofs.CutLaws.{rows-length}
use Rattle.cuts.proofs.MadeLaws.{rows_made, present-made, column-made, words-made}

map-map : {A : Type 0} (f : A → ℕ) (g : ℕ → ℕ) (xs : List A) → map g (map f xs) ≡ map (λ x. g (f x)) xs
map-map f g [] = refl
map-map f g (x ∷ xs) = ap (λ (r : List ℕ). g (f x) ∷ r) (map-map f g xs)

-- ---- a column beside users

module _ {A : Type 0} (user : A → ℕ) (xs : List A) (w : ℕ) (h : w < 2 ^ 64) (few : length xs ≤ room) where
  -- Section k of the words has what f gives of the rows, section u their users: those that are kept stand in section k.
  pub column-closed : (f : A → ℕ) (ss : List (List ℕ)) (u k : ℕ) {n users at r : ℕ} {old new : List ℕ} → get_or ss u [] ≡ map item_of (map user xs) → get_or ss k [] ≡ map f xs
      → k < length ss → n ≡ length xs → users ≡ room * u → at ≡ room * k → old ≡ laid ss → ClosesUp w users n at old new r
      → (new ≡ laid (set ss k (map f (of_reader user w xs)))) × (r ≡ length (of_reader user w xs))
  column-closed f ss u k {n} {users} {at} {r} {old} {new} us fs l en eu ek e c =
      let lu : length (get_or ss u []) ≡ length xs = ap length us ∙ numbers-long xs user in
      let lk : length (get_or ss k []) ≡ length xs = ap length fs ∙ length-map xs f in
      let pu : take n (drop users old) ≡ map item_of (map user xs) = rw (eu, e, en ∙ sym lu) (part-laid ss u (omega arith) ∙ us) in
      let pk : take n (drop at old) ≡ map f xs = rw (ek, e, en ∙ sym lk) (part-laid ss k (omega arith) ∙ fs) in
      let made : kept_to w (take n (drop users old)) (take n (drop at old)) n ≡ map f (of_reader user w xs) = rw (pu, pk, en) (column-made user w h f xs) in (
        c.words ∙ rw (made, e, ek) (section-put ss k (map f (of_reader user w xs)) l),
        c.count ∙ ap length made ∙ length-map (of_reader user w xs) f,
      )

-- ---- the parts of the tables

module _ (w : ℕ) (h : w < 2 ^ 64) (T : Tables) (fits : Fits T) {old : List ℕ} (e : old ≡ flat T) where
  pub counts-here : (j : ℕ) → j < room → get_or old j 0 ≡ get_or (counts T) j 0
  counts-here j l = rw e (count_at T j l)

  part_at : (j k : ℕ) {p : List ℕ} → j < room → get_or (counts T) j 0 ≡ length (get_or (sections T) k []) → length (get_or (sections T) k []) ≤ room
      → p ≡ take (get_or old j 0) (drop (room * k) old) → p ≡ get_or (sections T) k []
  unfolding flat
  part_at j k l q m s = s ∙ rw (counts-here j l ∙ q, e) (part-laid (sections T) k m)

  -- The sessions' roles, and then their users.
  pub sessions-turned : {mid last : List ℕ} {q r n : ℕ} → n ≡ get_or old session_count_at 0 → ClosesUp w session_users_at n session_roles_at old mid q
      → ClosesUp w session_users_at n session_users_at mid last r → set last session_count_at r ≡ flat (seen_sessions w T)
  unfolding flat sections counts object_rows operation_rows
  sessions-turned {mid} {last} {q} {r} en a b =
      let xs = T.sessions in
      let user : Session → ℕ = λ s. s.user in
      let many = en ∙ counts-here session_count_at (omega arith) in
      let roles = column-closed user xs w h fits.sessions (λ s. s.active) (sections T) 3 4 refl refl (omega arith) many refl refl e a in
      let users = column-closed user xs w h fits.sessions (λ s. item_of s.user) (set (sections T) 4 (map (λ s. s.active) (sessions_for w xs))) 3 3 refl (map-map user item_of xs)
      (omega arith) many refl refl roles.0 b in
      rw (users.0, users.1, ← map-map user item_of (sessions_for w xs)) (count-put (counts T) _ session_count_at _ (omega arith) (omega arith))

  -- The objects and operations of the rows of Done, and then their users.
  pub done-turned : {one two last : List ℕ} {p q r n : ℕ} → n ≡ get_or old done_count_at 0 → ClosesUp w done_users_at n done_objects_at old one p
      → ClosesUp w done_users_at n done_operations_at one two q → ClosesUp w done_users_at n done_users_at two last r → set last done_count_at r ≡ flat (seen_done w T)
  unfolding flat sections counts object_rows operation_rows
  done-turned {r = r} en a b c =
      let xs = T.done in
      let user : Deed → ℕ = λ d. d.user in
      let many = en ∙ counts-here done_count_at (omega arith) in
      let of : (Deed → ℕ) → List ℕ = λ f. map (λ d. item_of (f d)) (done_for w xs) in
      let objects = column-closed user xs w h fits.done (λ d. item_of d.object) (sections T) 11 12 refl (map-map (λ d. d.object) item_of xs) (omega arith) many refl refl e a in
      let operations = column-closed user xs w h fits.done (λ d. item_of d.operation) (set (sections T) 12 (of (λ d. d.object))) 11 13 refl (map-map (λ d. d.operation) item_of xs)
      (omega arith) many refl refl objects.0 b in
      let users = column-closed user xs w h fits.done (λ d. item_of d.user) (set (set (sections T) 12 (of (λ d. d.object))) 13 (of (λ d. d.operation))) 11 11 refl (map-map user item_of xs)
      (omega arith) many refl refl operations.0 c in
      rw (users.0, users.1, map-map user item_of (done_for w xs), map-map (λ (d : Deed). d.object) item_of (done_for w xs), map-map (λ (d : Deed). d.operation) item_of (done_for w xs))
      (count-put (counts T) _ done_count_at _ (omega arith) (omega arith))

  -- The rows of the users, and who of them is present.
  pub users-turned : {p kept : List ℕ} {m : ℕ} → p ≡ take (get_or old user_count_at 0) (drop user_rows_at old) → kept ≡ padded room (rows_to w p (length p))
      → m ≡ meet_of (get_or old present_at 0) w → put (set old present_at m) user_rows_at kept ≡ flat (seen_users w T)
  unfolding flat sections counts object_rows operation_rows
  users-turned {p} {kept} {m} qp qk qm =
      let us = T.users in
      let many = length-map us (λ u. u.assigned) in
      let is = part_at user_count_at 2 (omega arith) (sym many) (omega (arith, fits.users)) qp in
      let k : kept ≡ padded room (user_rows (seen_users w T)) = qk ∙ ap (padded room) (ap₂ (rows_to w) is (ap length is ∙ many) ∙ rows_made w us) in
      let mm : m ≡ present_in (rows_from w 0 us) = qm ∙ ap (λ (x : ℕ). meet_of x w) (counts-here present_at (omega arith)) ∙ present-made w us in
      rw (e, k, mm, count-put (counts T) _ present_at (present_in (rows_from w 0 us)) (omega arith) (omega arith))
      (section-put _ 2 (user_rows (seen_users w T)) (omega arith) ∙ rw (rows-length w 0 us))

  -- The words of CU.
  pub words-turned : {p kept : List ℕ} {n : ℕ} → p ≡ take (get_or old cu_count_at 0) (drop cu_at old) → Fills (firsts_to w p (length p)) kept n
      → put (set old cu_count_at n) cu_at kept ≡ flat (seen_words w T)
  unfolding flat sections counts object_rows operation_rows
  words-turned {p} {kept} {n} qp f =
      let is = part_at cu_count_at 7 (omega arith) refl fits.cus qp in
      let cs : firsts_to w p (length p) ≡ words_for w T.cu = rw is (words-made w T.cu) in
      let many : n ≡ length (words_for w T.cu) = f.count ∙ ap length cs in
      let k : kept ≡ padded room (words_for w T.cu) = f.words ∙ ap (padded room) cs in
      rw (e, k, many, count-put (counts T) _ cu_count_at (length (words_for w T.cu)) (omega arith) (omega arith))
      (section-put _ 7 (words_for w T.cu) (omega arith))

-- The counts of tables that fit.
pub counted : {T : Tables} {ts : List ℕ} → Fits T → ts ≡ flat T → Counted ts
unfolding counts
counted {T} {ts} f e =
    record {
      whole = ap length e ∙ length-flat T;
      users = rw (e, count_at T user_count_at (omega arith)) f.users;
      sessions = rw (e, count_at T session_count_at (omega arith)) f.sessions;
      cus = rw (e, count_at T cu_count_at (omega arith)) f.cus;
      done = rw (e, count_at T done_count_at (omega arith)) f.done;
    }

-- The four parts one after another are the tables as the reader sees them.
pub cut-is : (w : ℕ) (T : Tables) → seen_users w (seen_words w (seen_done w (seen_sessions w T))) ≡ cut w T
unfolding cut
cut-is w T = refl
