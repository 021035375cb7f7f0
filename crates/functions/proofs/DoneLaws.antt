-- Document 02, N8: which operations `done` gives; "Repeated rows count once"; "A leaver may stand in Done".
-- Assumes nothing.
use mathlib.Core.Path.{◌≡◌, refl, sym, ap, ◌∙◌}
use mathlib.Core.Bool.{Bool, true, ◌&&◌}
use mathlib.Core.List.{List}
use mathlib.Core.Logic.{◌↔◌}
use Prim.Native.Nat.{ℕ, ◌<◌, ◌≤◌}
use native.Mathlib.Omega.{arith}
use borrow.Author.Tests.{ltb-true, lt-ltb, eqb-true, eq-eqb}
use lib.Dec.{eqb, ltb}
use lib.ListN.{length, get_or}
use Rattle.words.specs.Words.{has, item_of}
use Rattle.words.proofs.WordsLaws.{both, any-ext, any_here, any-witness, and-true, and_both}
use Rattle.words.proofs.RelationLaws.{some_item, has-reach, reached-from, reach-alike}
use Rattle.tables.specs.Tables.{Deed, User, Tables, is_present, done_users, done_objects, done_operations}
use Rattle.tables.specs.Accepted.{KnownDeed, Every, Sound}
use Rattle.tables.specs.Encode.{encode}
use Rattle.tables.specs.Reading.{Bytes, taken, tables_of}
use Rattle.tables.specs.Checks.{leavers_gone, withdrawn, in_reach, late_checks, first_failing, late}
use Rattle.tables.specs.Functions.{juniors_of_users, done_row_is, did, on_some, done_by}
use Rattle.tables.proofs.FitsLaws.{doers-below, accepted-passes}
use Rattle.tables.proofs.EncodeLaws.{passes-accepted}
use Rattle.functions.specs.Done.{RowOf, with_done, RowsIn, SameRows}

-- What a row says, number by number.
module _ (T : Tables) (k u a b : ℕ) where
  abbrev user : ℕ
  user = get_or (done_users T) k 0

  abbrev operation : ℕ
  operation = get_or (done_operations T) k 0

  abbrev object : ℕ
  object = get_or (done_objects T) k 0

  pub row-says : done_row_is T k u a b ≡ true → (k < length T.done) × (user ≡ u) × (operation ≡ a) × (object ≡ b)
  row-says e =
      let (row, r) = and-true (ltb k (length T.done)) (eqb user u && (eqb operation a && eqb object b)) e in
      let (who, q) = and-true (eqb user u) (eqb operation a && eqb object b) r in
      let (what, on) = and-true (eqb operation a) (eqb object b) q in
      (ltb-true k (length T.done) row, eqb-true user u who, eqb-true operation a what, eqb-true object b on)

  says_row : k < length T.done → user ≡ u → operation ≡ a → object ≡ b → done_row_is T k u a b ≡ true
  says_row row who what on =
      and_both (lt-ltb k (length T.done) row) (and_both (eq-eqb user u who) (and_both (eq-eqb operation a what) (eq-eqb object b on)))

-- An operation is in `done` exactly where some row has a member, that operation and the object.
module _ (T : Tables) (sound : Sound T) (w a b : ℕ) (la : a < 64) (lb : b < 64) where
  on-item : (u : ℕ) → on_some (item_of b) (did T) u a ≡ did T u a b
  on-item u = some_item b (λ o. did T u a o) lb

  some-row : has (done_by T w (item_of b)) a ≡ true → (k : ℕ) × RowOf T w a b k
  unfolding done_by
  some-row h =
      let (u, m, d) = reached-from (on_some (item_of b) (did T)) w a h in
      let (k, lk, q) = any-witness 64 (λ k. done_row_is T k u a b) (sym (on-item u) ∙ d) in
      let (row, who, what, on) = row-says T k u a b q in
      (k, record { row = row; user = ap (has w) who ∙ m; operation = what; object = on })

  row_gives : (k : ℕ) × RowOf T w a b k → has (done_by T w (item_of b)) a ≡ true
  unfolding done_by
  row_gives (k, r) =
      let u : ℕ = get_or (done_users T) k 0 in
      let lk : k < 64 = omega (arith, r.row, sound.fits.done) in
      let lu : u < 64 = omega (arith, doers-below _ _ _ T.done sound.bounded.done k r.row, sound.fits.users) in
      let is = says_row T k u a b r.row refl r.operation r.object in
      has-reach (on_some (item_of b) (did T)) w a la
      ∙ any_here 64 (λ u. has w u && on_some (item_of b) (did T) u a) u lu
      (and_both r.user (on-item u ∙ any_here 64 (λ k. done_row_is T k u a b) k lk is))

  pub done-exactly : (has (done_by T w (item_of b)) a ≡ true) ↔ ((k : ℕ) × RowOf T w a b k)
  done-exactly = (some-row, row_gives)

-- Rows that are among others say nothing of a user who is present that these do not.
did-in : (us : List User) (T U : Tables) → length U.done ≤ 64 → RowsIn us T.done U.done
    → (u a b : ℕ) → is_present us u ≡ true → did T u a b ≡ true → did U u a b ≡ true
did-in us T U few among u a b here e =
    let (k, lk, q) = any-witness 64 (λ k. done_row_is T k u a b) e in
    let (row, who, what, on) = row-says T k u a b q in
    let (j, g) = among k row (ap (is_present us) who ∙ here) in
    any_here 64 (λ j. done_row_is U j u a b) j (omega (arith, g.row)) (says_row U j u a b g.row (g.user ∙ who) (g.operation ∙ what) (g.object ∙ on))

-- So the same rows of users who are present, in whatever order and however often, beside whatever rows of leavers, give the same of users who are present.
pub done-alike : (us : List User) (T U : Tables) → length T.done ≤ 64 → length U.done ≤ 64 → SameRows us T.done U.done
    → (w o : ℕ) → ((u : ℕ) → has w u ≡ true → is_present us u ≡ true) → done_by T w o ≡ done_by U w o
unfolding done_by
done-alike us T U few fewer same w o present =
    reach-alike (on_some o (did T)) (on_some o (did U)) w (λ u a _ _ m.
    any-ext 64 (λ b. has o b && did T u a b) (λ b. has o b && did U u a b) (λ b _.
    ap (λ (x : Bool). has o b && x)
    (both (did T u a b) (did U u a b) (did-in us T U fewer same.there u a b (present u m)) (did-in us U T few same.back u a b (present u m)))))

-- Rows of Done are no reason for a refusal by a check of the whole, whoever they are of.
pub done-unchecked : (T : Tables) (ds : List Deed) → late (with_done T ds) ≡ late T
unfolding with_done late_checks first_failing leavers_gone withdrawn in_reach juniors_of_users
done-unchecked T ds = refl

-- So whatever rows with numbers below their counts stand in Done, accepted tables with these are accepted: a leaver may stand there.
module _ {T : Tables} (ds : List Deed) (few : length ds ≤ 64) (known : Every (KnownDeed (length T.users) T.operation_count T.object_count) ds) where
  with-sound : Sound T → Sound (with_done T ds)
  unfolding with_done
  with-sound s =
      let f = s.fits in
      let b = s.bounded in
      record {
        fits = record {
          roles = f.roles;
          users = f.users;
          sessions = f.sessions;
          operations = f.operations;
          objects = f.objects;
          permissions = f.permissions;
          crs = f.crs;
          cus = f.cus;
          cps = f.cps;
          done = few;
        };
        bounded = record {
          roles = b.roles;
          users = b.users;
          sessions = b.sessions;
          permissions = b.permissions;
          crs = b.crs;
          cus = b.cus;
          cps = b.cps;
          done = known;
        };
      }

  pub done-accepted : (b : Bytes) → tables_of b ≡ taken T → tables_of (encode (with_done T ds)) ≡ taken (with_done T ds)
  done-accepted b reads =
      let passes = accepted-passes b reads in
      passes-accepted (with_done T ds) (record { sound = with-sound passes.sound; late = done-unchecked T ds ∙ passes.late })
