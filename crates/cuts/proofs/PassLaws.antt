-- The tables as a reader sees them are accepted where the tables are: each check passes again.
-- Assumes nothing.
use mathlib.Core.Path.{◌≡◌, refl, sym, ap, ◌∙◌}
use mathlib.Core.Bool.{Bool, true, false, not, ◌&&◌, ◌||◌, true≢false}
use mathlib.Core.List.{List, [], ◌∷◌, map}
use Prim.Native.Nat.{ℕ, ◌^◌, ◌≤◌, ◌<◌}
use native.Mathlib.Omega.{arith}
use native.Mathlib.Nat.{zero-add}
use lib.Dec.{eqb}
use lib.ListN.{length, get_or, length-map}
use lib.Pow.{pow_pos}
use borrow.Author.Tests.{ne_eqb}
use Rattle.words.specs.Words.{has, gate, any_to, item_of, meet_of}
use Rattle.words.specs.Relations.{reach}
use Rattle.words.proofs.WordsLaws.{word-ext, word_more, word_lt, has_meet, has-out, and-true, and_both}
use Rattle.tables.specs.Tables.{User, Session, Deed, Tables, user_rows, is_present}
use Rattle.tables.specs.Functions.{dominates, assigned, juniors_of_users}
use Rattle.tables.specs.Checks.{all_to, implies, withdrawn, leavers_gone, in_reach, apart, no_twin}
use Rattle.tables.specs.Accepted.{Fits, Below, Known, KnownDeed, Every, Bounded, Passes}
use Rattle.tables.proofs.AllLaws.{all-every, all-at}
use Rattle.words.proofs.RelationLaws.{some_item}
use Rattle.tables.proofs.EncodeLaws.{below-every}
use Rattle.tables.proofs.EveryLaws.{every_map, every-both, every-below, each_all, all-each}
use Rattle.tables.proofs.LateLaws.{is-withdrawn, of-withdrawn, late-each, each-late}
use Rattle.cuts.specs.Cut.{rows_from, sessions_for, words_for, done_for, with_people, cut}
use Rattle.cuts.specs.Code.Cutting.{seen_sessions, seen_done, seen_words}
use Rattle.cuts.proofs.FirstsLaws.{firsts-few, firsts-every, firsts-apart, none_apart}
use Rattle.cuts.proofs.CutLaws.{rows-length, assigned-at, present-at, own-few, own-kept}

-- ---- counts

fits-people : {T : Tables} → Fits T → (us : List User) (ss : List Session) (cs : List ℕ) (ds : List Deed) → length us ≤ 64 → length ss ≤ 64
    → length cs ≤ 64 → length ds ≤ 64 → Fits (with_people T us ss cs ds)
fits-people f us ss cs ds u s c d =
    record {
      roles = f.roles;
      users = u;
      sessions = s;
      operations = f.operations;
      objects = f.objects;
      permissions = f.permissions;
      crs = f.crs;
      cus = c;
      cps = f.cps;
      done = d;
    }

module _ (w : ℕ) {T : Tables} (f : Fits T) where
  few-users : length (rows_from w 0 T.users) ≤ 64
  few-users = rw (rows-length w 0 T.users) f.users

  few-sessions : length (sessions_for w T.sessions) ≤ 64
  few-sessions = omega (arith, own-few (λ (s : Session). s.user) w T.sessions, f.sessions)

  few_words : length (words_for w T.cu) ≤ 64
  few_words = omega (arith, firsts-few [] (map (λ x. meet_of x w) T.cu), length-map T.cu (λ x. meet_of x w), f.cus)

  few-done : length (done_for w T.done) ≤ 64
  few-done = omega (arith, own-few (λ (d : Deed). d.user) w T.done, f.done)

  -- Each part of the tables as the reader sees it fits.
  pub fits-sessions : Fits (seen_sessions w T)
  fits-sessions = fits-people f _ _ _ _ f.users few-sessions f.cus f.done

  pub fits-done : Fits (seen_done w T)
  fits-done = fits-people f _ _ _ _ f.users f.sessions f.cus few-done

  pub fits-words : Fits (seen_words w T)
  fits-words = fits-people f _ _ _ _ f.users f.sessions few_words f.done

-- ---- a cut word

-- What holds of each cut word holds of each that stays.
words-kept : (P : ℕ → Type 0) (w : ℕ) (cu : List ℕ) → Every (λ x. P (meet_of x w)) cu → Every P (words_for w cu)
words-kept P w cu e = firsts-every P [] (map (λ x. meet_of x w) cu) tt (mapped cu e)
  where
    mapped : (xs : List ℕ) → Every (λ x. P (meet_of x w)) xs → Every P (map (λ x. meet_of x w) xs)
    mapped [] e = tt
    mapped (x ∷ xs) e = (e.0, mapped xs e.1)

meet_below : (n x w : ℕ) → n ≤ 64 → x < 2 ^ n → meet_of x w < 2 ^ n
unfolding meet_of
meet_below n x w l h =
    rw (word_more n 64 (λ i. has x i && has w i) l (λ i p q. ap (λ (b : Bool). b && has w i) (has-out x n i h p)))
    (word_lt n (λ i. has x i && has w i))

not-met : (a b : Bool) → not a ≡ true → not (a && b) ≡ true
not-met true b e = cc
not-met false b e = refl

not-theirs : (a b : Bool) → b ≡ false → not (a && b) ≡ true
not-theirs true b e = ap not e
not-theirs false b e = refl

gate-below : (b : Bool) (n x : ℕ) → x < 2 ^ n → gate b x < 2 ^ n
gate-below true n x h = h
gate-below false n x h = pow_pos n

or_right : (a b : Bool) → b ≡ true → (a || b) ≡ true
or_right true b e = refl
or_right false b e = e

-- The roles a of a session of user u are in reach.
abbrev reaches : Tables → ℕ → ℕ → Bool
reaches U u a = all_to (length U.role_rows) (λ r. implies (has a r) (has (juniors_of_users U (item_of u)) r))

-- ---- the tables of a reader

module _ (w : ℕ) (T : Tables) (pass : Passes T) where
  abbrev fits : Fits T
  fits = pass.sound.fits

  abbrev bounded : Bounded T
  bounded = pass.sound.bounded

  assigned-here : (u : ℕ) → get_or (user_rows (cut w T)) u 0 ≡ gate (has w u) (get_or (user_rows T) u 0)
  unfolding cut
  assigned-here u = rw zero-add at (assigned-at w 0 T.users u)

  present-here : (u : ℕ) → is_present (cut w T).users u ≡ (has w u && is_present T.users u)
  unfolding cut
  present-here u = rw zero-add at (present-at w 0 T.users u)

  cut_fits : Fits (cut w T)
  unfolding cut
  cut_fits = fits-people fits _ _ _ _ (few-users w fits) (few-sessions w fits) (few_words w fits) (few-done w fits)

  -- What holds of the rows that each have a user holds of those that are kept.
  kept-sessions : (P : Session → Type 0) → Every P T.sessions → Every P (sessions_for w T.sessions)
  kept-sessions P e = every_map _ P (sessions_for w T.sessions) (λ s p. p.1) (own-kept (λ s. s.user) w P T.sessions e)

  cut-bounded : Bounded (cut w T)
  unfolding cut Below
  cut-bounded =
      record {
        roles = bounded.roles;
        users = λ i. rw (assigned-here i) (gate-below (has w i) (length T.role_rows) _ (bounded.users i));
        sessions = rw (rows-length w 0 T.users) (kept-sessions _ bounded.sessions);
        permissions = bounded.permissions;
        crs = bounded.crs;
        cus = rw (rows-length w 0 T.users)
            (every-below (length T.users) (words_for w T.cu)
            (words-kept (λ x. x < 2 ^ length T.users) w T.cu
            (every_map _ _ T.cu (λ x h. meet_below (length T.users) x w fits.users h) (below-every (length T.users) T.cu bounded.cus))));
        cps = bounded.cps;
        done = rw (rows-length w 0 T.users)
            (every_map _ (KnownDeed (length T.users) T.operation_count T.object_count) (done_for w T.done) (λ d p. p.1)
            (own-kept (λ d. d.user) w _ T.done bounded.done));
      }

  -- Of another user nothing is there; of the reader's leavers nothing was.
  others-gone : (u : ℕ) → u < 64 → has w u ≡ false → withdrawn (cut w T) u ≡ true
  unfolding cut
  others-gone u l h =
      is-withdrawn (cut w T) u
      (record {
        row = assigned-here u ∙ ap (λ (b : Bool). gate b (get_or (user_rows T) u 0)) h;
        sessions = every_map _ _ (sessions_for w T.sessions) (λ s p. differs s p.0) (own-kept (λ s. s.user) w (λ s. Unit {0}) T.sessions (units T.sessions));
        words = words-kept (λ x. not (has x u) ≡ true) w T.cu (theirs T.cu);
      })
    where
      units : (ss : List Session) → Every (λ s. Unit {0}) ss
      units [] = tt
      units (s ∷ ss) = (tt, units ss)

      differs : (s : Session) → has w s.user ≡ true → not (eqb s.user u) ≡ true
      differs s k = ap not (ne_eqb s.user u (λ e. true≢false (sym k ∙ ap (has w) e ∙ h)))

      theirs : (cs : List ℕ) → Every (λ x. not (has (meet_of x w) u) ≡ true) cs
      theirs [] = tt
      theirs (x ∷ cs) = (rw (has_meet x w u l) (not-theirs (has x u) (has w u) h), theirs cs)

  leaver-gone : (u : ℕ) → u < 64 → has w u ≡ true → withdrawn T u ≡ true → withdrawn (cut w T) u ≡ true
  unfolding cut
  leaver-gone u l h g =
      let x = of-withdrawn T u g in
      is-withdrawn (cut w T) u
      (record {
        row = assigned-here u ∙ ap (λ (b : Bool). gate b (get_or (user_rows T) u 0)) h ∙ x.row;
        sessions = kept-sessions _ x.sessions;
        words = words-kept (λ v. not (has v u) ≡ true) w T.cu
            (every_map _ _ T.cu (λ v k. rw (has_meet v w u l) (not-met (has v u) (has w u) k)) x.words);
      })

  cut-gone : leavers_gone T ≡ true → leavers_gone (cut w T) ≡ true
  unfolding leavers_gone cut
  cut-gone g = all-every (length (cut w T).users) _ (λ u l. at u (users-are u l) (has w u) refl)
    where
      users-are : (u : ℕ) → u < length (cut w T).users → u < length T.users
      users-are u l = omega (arith, rows-length w 0 T.users)

      his : (u : ℕ) → u < 64 → has w u ≡ true → (p : Bool) → is_present T.users u ≡ p → (p || withdrawn T u) ≡ true
          → (is_present (cut w T).users u || withdrawn (cut w T) u) ≡ true
      his u k h true q e = rw (present-here u, h, q)
      his u k h false q e = or_right (is_present (cut w T).users u) (withdrawn (cut w T) u) (leaver-gone u k h e)

      at : (u : ℕ) → u < length T.users → (b : Bool) → has w u ≡ b → (is_present (cut w T).users u || withdrawn (cut w T) u) ≡ true
      at u l false h = or_right (is_present (cut w T).users u) (withdrawn (cut w T) u) (others-gone u (omega (arith, fits.users)) h)
      at u l true h =
          his u (omega (arith, fits.users)) h (is_present T.users u) refl
          (all-at (length T.users) (λ v. is_present T.users v || withdrawn T v) g u l)

  -- A user of the reader's has the same roles and juniors.
  juniors-here : (u : ℕ) → u < 64 → has w u ≡ true → juniors_of_users (cut w T) (item_of u) ≡ juniors_of_users T (item_of u)
  unfolding juniors_of_users cut reach
  juniors-here u l h =
      let row : get_or (user_rows (cut w T)) u 0 ≡ get_or (user_rows T) u 0 = assigned-here u ∙ ap (λ (b : Bool). gate b (get_or (user_rows T) u 0)) h in
      word-ext 64 _ _
      (λ q k.
      some_item u (λ v. any_to 64 (λ r. assigned (cut w T) v r && dominates T.role_rows r q)) l
      ∙ ap (λ (x : ℕ). any_to 64 (λ r. has x r && dominates T.role_rows r q)) row
      ∙ sym (some_item u (λ v. any_to 64 (λ r. assigned T v r && dominates T.role_rows r q)) l))

  cut-reach : in_reach T ≡ true → in_reach (cut w T) ≡ true
  unfolding in_reach cut
  cut-reach g = each_all (reaches (cut w T)) (cut w T).sessions kept
    where
      step : (s : Session) → has w s.user ≡ true → Known (length T.users) (length T.role_rows) s → reaches T s.user s.active ≡ true
          → reaches (cut w T) s.user s.active ≡ true
      step s h k r = rw (juniors-here s.user (omega (arith, k.user, fits.users)) h) r

      kept : Every (λ s. reaches (cut w T) s.user s.active ≡ true) (cut w T).sessions
      kept =
          every_map _ _ (sessions_for w T.sessions) (λ s p. step s p.0 p.1.0 p.1.1)
          (own-kept (λ s. s.user) w _ T.sessions (every-both _ _ T.sessions bounded.sessions (all-each (reaches T) T.sessions g)))

  cut-twins : no_twin T ≡ true → no_twin (cut w T) ≡ true
  unfolding cut
  cut-twins g =
      let p = and-true (apart T.cr) (apart T.cu && apart T.cp) g in
      let q = and-true (apart T.cu) (apart T.cp) p.1 in
      and_both p.0 (and_both (firsts-apart [] (map (λ x. meet_of x w) T.cu) none_apart) q.1)

  -- THE THEOREM: the cut of accepted tables is accepted.
  pub cut-passes : Passes (cut w T)
  unfolding cut
  cut-passes =
      let l = late-each T pass.late in
      record {
        sound = record { fits = cut_fits; bounded = cut-bounded };
        late = each-late (cut w T) (record { gone = cut-gone l.gone; rank = l.rank; reach = cut-reach l.reach; twin = cut-twins l.twin });
      }
