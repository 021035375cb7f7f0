-- Laws of a loop that reads rows: what is read so far, one row more, a row that is refused, and the end.
-- Assumes nothing.
use Rattle.std.specs.Prelude.{Ok}
use mathlib.Core.Path.{◌≡◌, refl, sym, ap, ◌∙◌}
use mathlib.Core.List.{List, [], ◌∷◌, ◌++◌, map, append_assoc, append-nil}
use Prim.Native.Nat.{ℕ, suc, ◌+◌, ◌-◌, ◌≤◌, ◌<◌}
use native.Mathlib.Omega.{arith}
use lib.Dec.{eqb}
use borrow.Author.Tests.{eq-eqb, ne_eqb}
use lib.ListN.{length, get_or, drop, set, length-append, length-map}
use Rattle.answers.specs.declared.Refusal.{Refusal}
use Rattle.words.specs.Words.{item_of, join_of}
use Rattle.tables.specs.Flat.{room}
use Rattle.tables.specs.Tables.{User, Session, Deed, present_in}
use Rattle.tables.specs.Reading.{Bytes, Taken, Reader, stop, took, next, marked_row, user_row, rows, entered, left}
use Rattle.tables.specs.Code.Reads.{Reads, takes, Is, IsMarked, IsSession, deed_at, IsDeed, put, rows_from, put_assigned, put_users, put_sessions, with_deed, put_deeds, RowsAt}
use Rattle.tables.specs.Code.Layout.{user_rows_at, present_at, session_users_at, session_roles_at, done_users_at, done_objects_at, done_operations_at}
use Rattle.tables.proofs.ReadLaws.{Got}
use Rattle.tables.proofs.FlatLaws.{numbers-long}
use Rattle.tables.proofs.PutLaws.{map_more, length-put, put-more, put_both, put_three}
use Rattle.tables.proofs.PresentLaws.{present-none, present-more, present-same}

-- Rows read before others.
abbrev onto : {A : Type 0} → List A → Taken (List A) → Taken (List A)
onto d (stop e) = stop e
onto d (took xs t) = took (d ++ xs) t

onto-one : {A : Type 0} (d : List A) (a : A) (r : Taken (List A)) → onto d (next r (λ xs t. took (a ∷ xs) t)) ≡ onto (d ++ (a ∷ [])) r
unfolding next
onto-one d a (stop e) = refl
onto-one d a (took xs t) = ap (λ l. took l t) (sym (append_assoc d (a ∷ []) xs))

onto-none : {A : Type 0} (r : Taken (List A)) → r ≡ onto [] r
onto-none (stop e) = refl
onto-none (took xs t) = refl

-- i of n rows are read from b, up to the byte `from` of s: "the answer from here on is the answer".
pub record Along {A : Type 0} (row : Reader A) (n : ℕ) (b s : Bytes) (from i : ℕ) : Type 0 where
  pub done : List A
  pub size : length done ≡ i
  pub few : i ≤ n
  pub within : from ≤ length s
  pub reads : rows row n b ≡ onto done (rows row (n - i) (drop from s))

module _ {A : Type 0} (row : Reader A) (n : ℕ) where
  pub along-none : (s : Bytes) (at : ℕ) → at ≤ length s → Along row n (drop at s) s at 0
  along-none s at h =
      let q : n - 0 ≡ n = omega arith in
      record { done = []; size = refl; few = omega arith; within = h; reads = rw q (onto-none (rows row n (drop at s))) }

  module _ {b s : Bytes} {from i : ℕ} (g : Along row n b s from i) where
    pub along-more : {a : A} {m : ℕ} → i < n → row (drop from s) ≡ took a (drop m s) → m ≤ length s → Along row n b s m (i + 1)
    unfolding rows next
    along-more {a} {m} l q h =
        let e : n - i ≡ suc (n - (i + 1)) = omega arith in
        let f : rows row (n - i) (drop from s) ≡ next (rows row (n - (i + 1)) (drop m s)) (λ xs t. took (a ∷ xs) t) = rw (e, q) in
        record {
          done = g.done ++ (a ∷ []);
          size = omega (arith, length-append g.done (a ∷ []), g.size);
          few = omega arith;
          within = h;
          reads = g.reads ∙ ap (onto g.done) f ∙ onto-one g.done a (rows row (n - (i + 1)) (drop m s));
        }

    pub along-stop : {e : Refusal} → i < n → row (drop from s) ≡ stop e → rows row n b ≡ stop e
    unfolding rows next
    along-stop {e} l q =
        let e' : n - i ≡ suc (n - (i + 1)) = omega arith in
        let f : rows row (n - i) (drop from s) ≡ stop e = rw (e', q) in
        g.reads ∙ ap (onto g.done) f

    pub along-all : n ≤ i → rows row n b ≡ took g.done (drop from s)
    unfolding rows
    along-all l =
        let e : n - i ≡ 0 = omega arith in
        g.reads ∙ rw (e, append-nil g.done)

-- The rows read so far are stored: the words are the old ones with those in them.
pub record Storing {A : Type 0} (row : Reader A) (n : ℕ) (b s : Bytes) (write : List ℕ → List A → List ℕ) (old new : List ℕ) (from i : ℕ) : Type 0 where
  pub along : Along row n b s from i
  pub words : new ≡ write old along.done
  pub long : length new ≡ length old

module _ {A : Type 0} (row : Reader A) (n : ℕ) where
  storing-none : (s : Bytes) (at : ℕ) (write : List ℕ → List A → List ℕ) (old : List ℕ) → old ≡ write old [] → at ≤ length s
      → Storing row n (drop at s) s write old old at 0
  unfolding along-none
  storing-none s at write old e h = record { along = along-none row n s at h; words = e; long = refl }

  module _ {b s : Bytes} {write : List ℕ → List A → List ℕ} {old new : List ℕ} {from i : ℕ} (g : Storing row n b s write old new from i) where
    storing-more : {a : A} {m : ℕ} {w : List ℕ} → i < n → row (drop from s) ≡ took a (drop m s) → m ≤ length s
        → w ≡ write old (g.along.done ++ (a ∷ [])) → length w ≡ length old → Storing row n b s write old w m (i + 1)
    unfolding along-more
    storing-more l q h e k = record { along = along-more row n g.along l q h; words = e; long = k }

    pub storing-all : n ≤ i → Reads s (RowsAt write old new n) (Ok (record { value = n; next = from })) (rows row n b)
    storing-all l =
        let a = g.along in
        let h : RowsAt write old new n a.done n = record { count = omega (arith, a.size, a.few); all = refl; words = g.words } in
        takes (along-all row n a l) a.within h

-- Words from word `to` on.
module _ (row : Reader ℕ) (n to : ℕ) where
  pub words-none : (s : Bytes) (at : ℕ) (old : List ℕ) → at ≤ length s → Storing row n (drop at s) s (rows_from to) old old at 0
  unfolding put
  words-none s at old h = storing-none row n s at (rows_from to) old refl h

  pub words_more : {b s : Bytes} {old new : List ℕ} {from i v m : ℕ} → Storing row n b s (rows_from to) old new from i → i < n
      → Got s Is v m (row (drop from s)) → Storing row n b s (rows_from to) old (set new (to + i) v) m (i + 1)
  words_more {old = old} {new} {i = i} {v} g l r =
      let a = g.along in
      let w : set new (to + i) v ≡ put old to (a.done ++ (r.value ∷ [])) = rw (r.holds, g.words, ← a.size) (put-more old to a.done v) in
      storing-more row n g l r.reads r.within w (ap length w ∙ length-put old to (a.done ++ (r.value ∷ [])))

-- A user's row: whether the user is present, the mark says.
pub record IsUser (s : Bytes) (at : ℕ) (a : User) (v : ℕ) : Type 0 where
  pub present : a.present ≡ eqb (get_or s at 0) entered
  pub assigned : a.assigned ≡ v

pub user-got : (s : Bytes) (at roles : ℕ) {v m : ℕ} → Got s (IsMarked s at) v m (marked_row left roles (drop at s)) → Got s (IsUser s at) v m (user_row roles (drop at s))
unfolding user_row next
user-got s at roles {v} {m} g =
    let a : User = record { present = eqb g.value.mark entered; assigned = g.value.word } in
    let q : user_row roles (drop at s) ≡ took a (drop m s) = rw g.reads in
    record {
      value = a;
      reads = q;
      within = g.within;
      holds = record { present = ap (λ (k : ℕ). eqb k entered) g.holds.mark; assigned = g.holds.word };
    }

-- Users: their assigned roles are stored as they are read, and the word of those present is kept beside.
pub record StoringUsers (row : Reader User) (n : ℕ) (b s : Bytes) (old new : List ℕ) (present from i : ℕ) : Type 0 where
  pub rows : Storing row n b s put_assigned old new from i
  pub here : present ≡ present_in rows.along.done

module _ (row : Reader User) (n : ℕ) where
  pub users-none : (s : Bytes) (at : ℕ) (old : List ℕ) → at ≤ length s → StoringUsers row n (drop at s) s old old 0 at 0
  unfolding put storing-none along-none
  users-none s at old h = record { rows = storing-none row n s at put_assigned old refl h; here = present-none }

  module _ {b s : Bytes} {old new : List ℕ} {present from i : ℕ} (g : StoringUsers row n b s old new present from i) where
    users-more : {v m p : ℕ} → i < n → (r : Got s (IsUser s from) v m (row (drop from s))) → p ≡ present_in (g.rows.along.done ++ (r.value ∷ []))
        → StoringUsers row n b s old (set new (user_rows_at + i) v) p m (i + 1)
    unfolding storing-more along-more
    users-more {v} {m} {p} l r k =
        let al = g.rows.along in
        let d = al.done in
        let rs = map (λ (u : User). u.assigned) d in
        let lr : length rs ≡ i = length-map d (λ u. u.assigned) ∙ al.size in
        let w : set new (user_rows_at + i) v ≡ put_assigned old (d ++ (r.value ∷ [])) =
        rw (g.rows.words, map_more (λ (u : User). u.assigned) d r.value, r.holds.assigned, ← lr) (put-more old user_rows_at rs v) in
        record { rows = storing-more row n g.rows l r.reads r.within w (ap length w ∙ length-put old user_rows_at _); here = k }

    -- A row of mark 1, and one of another mark.
    pub users-in : {v m p : ℕ} → i < n → n ≤ room → Got s (IsUser s from) v m (row (drop from s)) → get_or s from 0 ≡ entered
        → p ≡ join_of present (item_of i) → StoringUsers row n b s old (set new (user_rows_at + i) v) p m (i + 1)
    users-in l h r e k =
        let al = g.rows.along in
        let few : length al.done < 64 = omega (arith, al.size) in
        users-more l r
        (k ∙ rw (g.here, ← al.size) (present-more al.done r.value few (r.holds.present ∙ eq-eqb (get_or s from 0) entered e)))

    pub users-out : {v m p : ℕ} → i < n → Got s (IsUser s from) v m (row (drop from s)) → (get_or s from 0 ≡ entered → ⊥)
        → p ≡ present → StoringUsers row n b s old (set new (user_rows_at + i) v) p m (i + 1)
    users-out l r e k =
        users-more l r (k ∙ g.here ∙ present-same g.rows.along.done r.value (r.holds.present ∙ ne_eqb (get_or s from 0) entered e))

    -- At the end the word is stored.
    pub users-all : n ≤ i → Reads s (RowsAt put_users old (set new present_at present) n) (Ok (record { value = n; next = from })) (rows row n b)
    unfolding put_users
    users-all l =
        let a = g.rows.along in
        let h : RowsAt put_users old (set new present_at present) n a.done n =
        record { count = omega (arith, a.size, a.few); all = refl; words = rw (g.rows.words, g.here) } in
        takes (along-all row n a l) a.within h

-- Sessions, in two lists.
module _ (row : Reader Session) (n : ℕ) where
  pub sessions-none : (s : Bytes) (at : ℕ) (old : List ℕ) → at ≤ length s → Storing row n (drop at s) s put_sessions old old at 0
  unfolding put_sessions put
  sessions-none s at old h = storing-none row n s at put_sessions old refl h

  pub sessions-more : {b s : Bytes} {old new : List ℕ} {from i users u v m : ℕ} → Storing row n b s put_sessions old new from i → i < n
      → n ≤ room → u ≡ item_of (get_or s from 0) → Got s (IsSession s from users) v m (row (drop from s))
      → Storing row n b s put_sessions old (set (set new (session_users_at + i) u) (session_roles_at + i) v) m (i + 1)
  unfolding put_sessions
  sessions-more {old = old} {new} {i = i} {u = u} {v} g l h q r =
      let a = g.along in
      let d = a.done in
      let x = r.value in
      let us = map item_of (map (λ s. s.user) d) in
      let vs = map (λ s. s.active) d in
      let lu : length us ≡ i = length-map (map (λ s. s.user) d) item_of ∙ length-map d (λ s. s.user) ∙ a.size in
      let lv : length vs ≡ i = length-map d (λ s. s.active) ∙ a.size in
      let e : set (set new (session_users_at + i) u) (session_roles_at + i) v ≡ put (put old session_users_at (us ++ (u ∷ []))) session_roles_at (vs ++ (v ∷ [])) =
      rw g.words (put_both old session_users_at session_roles_at i us vs u v lu lv (omega arith)) in
      let eu : map item_of (map (λ s. s.user) (d ++ (x ∷ []))) ≡ us ++ (u ∷ []) =
      rw (map_more (λ s. s.user) d x, map_more item_of (map (λ s. s.user) d) x.user, q, r.holds.user) in
      let ev : map (λ s. s.active) (d ++ (x ∷ [])) ≡ vs ++ (v ∷ []) = rw (map_more (λ s. s.active) d x, r.holds.active) in
      storing-more row n g l r.reads r.within (rw (eu, ev) e)
      (ap length e ∙ length-put (put old session_users_at (us ++ (u ∷ []))) session_roles_at (vs ++ (v ∷ [])) ∙ length-put old session_users_at (us ++ (u ∷ [])))

-- Rows of Done, in three lists: one row more, behind those written.
more_numbers : {A : Type 0} (f : A → ℕ) (xs : List A) (x : A) → map item_of (map f (xs ++ (x ∷ []))) ≡ map item_of (map f xs) ++ (item_of (f x) ∷ [])
more_numbers f xs x = rw (map_more f xs x, map_more item_of (map f xs) (f x))

deeds-put : (ws : List ℕ) (i : ℕ) (ds : List Deed) (d : Deed) → length ds ≡ i → i < room → with_deed (put_deeds ws ds) i d ≡ put_deeds ws (ds ++ (d ∷ []))
unfolding put_deeds with_deed
deeds-put ws i ds d q l =
    rw (more_numbers (λ (e : Deed). e.user) ds d, more_numbers (λ (e : Deed). e.object) ds d, more_numbers (λ (e : Deed). e.operation) ds d)
    (put_three ws done_users_at done_objects_at done_operations_at i _ _ _ (item_of d.user) (item_of d.object) (item_of d.operation)
    (numbers-long ds (λ e. e.user) ∙ q) (numbers-long ds (λ e. e.object) ∙ q) (numbers-long ds (λ e. e.operation) ∙ q) (omega arith) (omega arith))

deeds-long : (ws : List ℕ) (ds : List Deed) → length (put_deeds ws ds) ≡ length ws
unfolding put_deeds
deeds-long ws ds = length-put _ done_operations_at _ ∙ length-put _ done_objects_at _ ∙ length-put ws done_users_at _

module _ (row : Reader Deed) (n : ℕ) where
  pub deeds-none : (s : Bytes) (at : ℕ) (old : List ℕ) → at ≤ length s → Storing row n (drop at s) s put_deeds old old at 0
  unfolding put_deeds put
  deeds-none s at old h = storing-none row n s at put_deeds old refl h

  pub deeds-more : {b s : Bytes} {old new : List ℕ} {from i v m : ℕ} → Storing row n b s put_deeds old new from i → i < n → n ≤ room
      → Got s (IsDeed s from) v m (row (drop from s)) → Storing row n b s put_deeds old (with_deed new i (deed_at s from)) m (i + 1)
  deeds-more {s = s} {old} {new} {from = from} {i} g l h r =
      let ds = g.along.done in
      let e : with_deed new i (deed_at s from) ≡ put_deeds old (ds ++ (deed_at s from ∷ [])) =
      ap (λ (ws : List ℕ). with_deed ws i (deed_at s from)) g.words ∙ deeds-put old i ds (deed_at s from) g.along.size (omega arith) in
      storing-more row n g l r.reads r.within (e ∙ ap (λ (d : Deed). put_deeds old (ds ++ (d ∷ []))) (sym r.holds.is))
      (ap length e ∙ deeds-long old (ds ++ (deed_at s from ∷ [])))
