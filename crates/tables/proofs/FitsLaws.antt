-- What reading leaves: accepted tables keep document 01's limits, and no word has a bit at or above its count.
-- Assumes nothing.
use mathlib.Core.Path.{◌≡◌, refl, sym, ap, ◌∙◌}
use mathlib.Core.Bool.{Bool, true, false, not}
use mathlib.Core.List.{List, [], ◌∷◌, map}
use Prim.Native.Nat.{ℕ, zero, suc, ◌*◌, ◌^◌, ◌≤◌, ◌<◌}
use native.Mathlib.Omega.{arith}
use lib.Dec.{eqb, ltb, leb}
use lib.ListN.{length, get_or}
use lib.Pow.{pow_pos}
use borrow.Author.Tests.{ltb-false, leb-false, eqb-true, not-false}
use Rattle.answers.specs.declared.Refusal.{Refusal}
use Rattle.answers.specs.declared.Refusal.TheVariants.{NoSuchItem}
use Rattle.tables.specs.Tables.{User, Session, Deed, Tables}
use Rattle.answers.specs.Outcome.{Outcome, passes}
use Rattle.std.specs.declared.result.Result.TheVariants.{Ok, Err}
use Rattle.tables.specs.Checks.{late}
use Rattle.tables.specs.Accepted.{Below, Known, KnownDeed, Every, Sound, Passes}
use Rattle.tables.specs.Reading.{Bytes, Taken, Reader, stop, took, next, refuse, front, byte, count, word_from, word_within}
use Rattle.tables.specs.Reading.{word_row, MarkedRow, marked_row, user_row, permission_row, session_row, done_row, rows, section, permissions, Rights, rights, Collections, collections}
use Rattle.tables.specs.Reading.{sections, nothing_left, settle, whole, taken, reading_of, tables_of, assembled, entered, left}

-- Where something was taken, all that was read on the way was.
module _ {A B : Type 0} {C : Type 0} where
  pub next-case : (m : Taken A) (f : A → Bytes → Taken B) {b : B} {t : Bytes} → next m f ≡ took b t
      → ((a : A) (u : Bytes) → m ≡ took a u → f a u ≡ took b t → C) → C
  unfolding next
  next-case (stop e) f q k = let z : ◌≡◌ {A = ℕ} 0 1 = cc in absurd (omega arith)
  next-case (took a u) f q k = k a u refl q

module _ {B : Type 0} {C : Type 0} where
  pub refuse-case : (c : Bool) (e : Refusal) (s : Bytes) (f : Bytes → Taken B) {b : B} {t : Bytes} → next (refuse c e s) (λ _. f) ≡ took b t
      → (c ≡ false → f s ≡ took b t → C) → C
  unfolding next refuse
  refuse-case true e s f q k = let z : ◌≡◌ {A = ℕ} 0 1 = cc in absurd (omega arith)
  refuse-case false e s f q k = k refl q

  settle-case : (o : Outcome) (s : Bytes) (f : Bytes → Taken B) {b : B} {t : Bytes} → next (settle o s) (λ _. f) ≡ took b t
      → (o ≡ passes → f s ≡ took b t → C) → C
  unfolding next settle
  settle-case (Err e) s f q k = let z : ◌≡◌ {A = ℕ} 0 1 = cc in absurd (omega arith)
  settle-case (Ok tt) s f q k = k refl q

pub count-few : (limit : ℕ) (s : Bytes) {n : ℕ} {t : Bytes} → count limit s ≡ took n t → n ≤ limit
unfolding count
count-few limit s {n} {t} q =
    next-case (byte s) _ q
    λ a u e h. refuse-case (ltb limit a) _ u (took a) h
    λ c k. let d : a ≡ n = cc in rw d at (ltb-false limit a c)

within-below : (n : ℕ) (b s : Bytes) {w : ℕ} {t : Bytes} → word_within n b s ≡ took w t → w < 2 ^ n
unfolding word_within
within-below n b s {w} {t} q =
    refuse-case (leb (2 ^ n) (word_from b)) NoSuchItem s (took (word_from b)) q
    λ c k. let d : word_from b ≡ w = cc in rw d at (leb-false (2 ^ n) (word_from b) c)

word_below : (n : ℕ) (s : Bytes) {w : ℕ} {t : Bytes} → word_row n s ≡ took w t → w < 2 ^ n
unfolding word_row
word_below n s q = next-case (front 8 s) _ q λ b u e h. within-below n b u h

marked-below : (highest n : ℕ) (s : Bytes) {m : MarkedRow} {t : Bytes} → marked_row highest n s ≡ took m t → m.word < 2 ^ n
unfolding marked_row
marked-below highest n s {m} q =
    next-case (front 9 s) _ q
    λ b u e h. refuse-case _ _ u _ h
    λ c k. refuse-case _ _ u _ k
    λ d l. next-case (word_within n _ u) _ l
    λ w v f o.
    let is : record { mark = get_or b 0 0; word = w } ≡ m = cc in
    rw (← is) (within-below n _ u f)

user-below : (n : ℕ) (s : Bytes) {a : User} {t : Bytes} → user_row n s ≡ took a t → a.assigned < 2 ^ n
unfolding user_row
user-below n s {a} q =
    next-case (marked_row left n s) _ q
    λ m u e h.
    let is : record { present = eqb m.mark entered; assigned = m.word } ≡ a = cc in
    rw (← is) (marked-below left n s e)

permission-below : (n : ℕ) (s : Bytes) {w : ℕ} {t : Bytes} → permission_row n s ≡ took w t → w < 2 ^ n
unfolding permission_row
permission-below n s {w} q =
    next-case (marked_row entered n s) _ q
    λ m u e h.
    let is : m.word ≡ w = cc in
    rw is at (marked-below entered n s e)

session-known : (users roles : ℕ) (s : Bytes) {a : Session} {t : Bytes} → session_row users roles s ≡ took a t → Known users roles a
unfolding session_row
session-known users roles s {a} {t} q =
    next-case (front 9 s) _ q
    λ b u e h. refuse-case (leb users (get_or b 0 0)) _ u _ h
    λ c k. next-case (word_within roles _ u) _ k
    λ w v f l.
    let d : record { user = get_or b 0 0; active = w } ≡ a = cc in
    rw (← d) (record { user = leb-false users (get_or b 0 0) c; active = within-below roles _ u f })

deed-known : (users operations objects : ℕ) (s : Bytes) {a : Deed} {t : Bytes} → done_row users operations objects s ≡ took a t
    → KnownDeed users operations objects a
unfolding done_row
deed-known users operations objects s {a} {t} q =
    next-case (front 3 s) _ q
    λ b u e h. refuse-case (leb users (get_or b 0 0)) _ u _ h
    λ c k. refuse-case (leb operations (get_or b 1 0)) _ u _ k
    λ c' k'. refuse-case (leb objects (get_or b 2 0)) _ u _ k'
    λ c'' k''.
    let d : record { user = get_or b 0 0; operation = get_or b 1 0; object = get_or b 2 0 } ≡ a = cc in
    rw (← d)
    (record {
      user = leb-false users (get_or b 0 0) c;
      operation = leb-false operations (get_or b 1 0) c';
      object = leb-false objects (get_or b 2 0) c'';
    })

-- n rows, each as its reader leaves it.
pub record Rows {A : Type 0} (P : A → Type 0) (n : ℕ) (xs : List A) : Type 0 where
  pub size : length xs ≡ n
  pub every : Every P xs

module _ {A : Type 0} (P : A → Type 0) (row : Reader A) (h : (s : Bytes) (a : A) (t : Bytes) → row s ≡ took a t → P a) where
  pub rows_are : (n : ℕ) (s : Bytes) {xs : List A} {t : Bytes} → rows row n s ≡ took xs t → Rows P n xs
  unfolding rows
  rows_are zero s {xs} {t} q = let e : [] ≡ xs = cc in rw (← e) (record { size = refl; every = tt })
  rows_are (suc n) s {xs} {t} q =
      next-case (row s) _ q
      λ a u e k. next-case (rows row n u) _ k
      λ ys v f l.
      let d : a ∷ ys ≡ xs = cc in
      let r = rows_are n u f in
      rw (← d) (record { size = ap suc r.size; every = (h s a u e, r.every) })

-- At most 64 rows, each held against the count where it depends on it.
pub record Few {A : Type 0} (P : ℕ → A → Type 0) (xs : List A) : Type 0 where
  pub few : length xs ≤ 64
  pub every : Every (P (length xs)) xs

section-are : {A : Type 0} (P : ℕ → A → Type 0) (row : ℕ → Reader A) → ((n : ℕ) (s : Bytes) (a : A) (t : Bytes) → row n s ≡ took a t → P n a)
    → (s : Bytes) {xs : List A} {t : Bytes} → section row s ≡ took xs t → Few P xs
unfolding section
section-are P row h s {xs} q =
    next-case (count 64 s) _ q
    λ n u e k.
    let r = rows_are (P n) (row n) (h n) n u k in
    let z : n ≡ length xs = sym r.size in
    record { few = omega (arith, r.size, count-few 64 s e); every = rw z at r.every }

every-below : (n : ℕ) (xs : List ℕ) → Every (λ w. w < 2 ^ n) xs → Below n xs
unfolding Below
every-below n [] e i = pow_pos n
every-below n (x ∷ xs) e zero = e.0
every-below n (x ∷ xs) e (suc i) = every-below n xs e.1 i

-- The users' assigned roles.
pub assigned-below : (n : ℕ) (us : List User) → Every (λ u. u.assigned < 2 ^ n) us → Below n (map (λ u. u.assigned) us)
unfolding Below
assigned-below n [] e i = pow_pos n
assigned-below n (u ∷ us) e zero = e.0
assigned-below n (u ∷ us) e (suc i) = assigned-below n us e.1 i

-- The numbers of the members of a list, where each is below n.
numbers-below : {A : Type 0} (P : A → Type 0) (f : A → ℕ) (n : ℕ) → ((x : A) → P x → f x < n) → (xs : List A) → Every P xs
    → (i : ℕ) → i < length xs → get_or (map f xs) i 0 < n
numbers-below P f n h [] e i l = absurd (omega arith)
numbers-below P f n h (x ∷ xs) e zero l = h x e.0
numbers-below P f n h (x ∷ xs) e (suc i) l = numbers-below P f n h xs e.1 i (omega arith)

-- The sessions' active roles, and their users.
pub active-below : (users roles : ℕ) (ss : List Session) → Every (Known users roles) ss → Below roles (map (λ s. s.active) ss)
unfolding Below
active-below users roles [] e i = pow_pos roles
active-below users roles (x ∷ ss) e zero = e.0.active
active-below users roles (x ∷ ss) e (suc i) = active-below users roles ss e.1 i

pub users-below : (users roles : ℕ) (ss : List Session) → Every (Known users roles) ss
    → (i : ℕ) → i < length ss → get_or (map (λ s. s.user) ss) i 0 < users
users-below users roles = numbers-below (Known users roles) (λ s. s.user) users (λ s k. k.user)

-- The users and the operations of rows of Done.
module _ (users operations objects : ℕ) (ds : List Deed) (known : Every (KnownDeed users operations objects) ds) where
  pub doers-below : (k : ℕ) → k < length ds → get_or (map (λ d. d.user) ds) k 0 < users
  doers-below = numbers-below (KnownDeed users operations objects) (λ d. d.user) users (λ d h. h.user) ds known

  pub deeds-below : (k : ℕ) → k < length ds → get_or (map (λ d. d.operation) ds) k 0 < operations
  deeds-below = numbers-below (KnownDeed users operations objects) (λ d. d.operation) operations (λ d h. h.operation) ds known

-- Sections 4 to 6, and 7 to 9.
pub record RightsFit (roles : ℕ) (q : Rights) : Type 0 where
  pub operations : q.operation_count ≤ 8
  pub objects : q.object_count ≤ 8
  pub permissions : length q.permission_rows ≡ q.operation_count * q.object_count
  pub below : Below roles q.permission_rows

rights-fit : (roles : ℕ) (s : Bytes) {q : Rights} {t : Bytes} → rights roles s ≡ took q t → RightsFit roles q
unfolding rights permissions
rights-fit roles s {q} {t} e =
    next-case (count 8 s) _ e
    λ a u ea k. next-case (count 8 u) _ k
    λ b v eb l. next-case (permissions (a * b) roles v) _ l
    λ ps w ep m. next-case (byte v) _ ep
    λ n x en o. refuse-case (not (eqb n (a * b))) _ x _ o
    λ c g.
    let r = rows_are (λ y. y < 2 ^ roles) (permission_row roles) (λ z y y' h. permission-below roles z h) n x g in
    let d : record { operation_count = a; object_count = b; permission_rows = ps } ≡ q = cc in
    rw (← d)
    (record {
      operations = count-few 8 s ea;
      objects = count-few 8 u eb;
      permissions = r.size ∙ eqb-true n (a * b) (not-false (eqb n (a * b)) c);
      below = every-below roles ps r.every;
    })

pub record CollectionsFit (roles users permissions : ℕ) (c : Collections) : Type 0 where
  pub crs : length c.cr ≤ 64
  pub cus : length c.cu ≤ 64
  pub cps : length c.cp ≤ 64
  pub cr_below : Below roles c.cr
  pub cu_below : Below users c.cu
  pub cp_below : Below permissions c.cp

words_are : (n : ℕ) (s : Bytes) {xs : List ℕ} {t : Bytes} → section (λ _. word_row n) s ≡ took xs t → Few (λ _ w. w < 2 ^ n) xs
words_are n s q = section-are (λ _ w. w < 2 ^ n) (λ _. word_row n) (λ m z y y' h. word_below n z h) s q

collections-fit : (r u p : ℕ) (s : Bytes) {c : Collections} {t : Bytes} → collections r u p s ≡ took c t → CollectionsFit r u p c
unfolding collections
collections-fit r u p s {c} {t} e =
    next-case (section (λ _. word_row r) s) _ e
    λ x v ex k. next-case (section (λ _. word_row u) v) _ k
    λ y w ey l. next-case (section (λ _. word_row p) w) _ l
    λ z a ez m.
    let fx = words_are r s ex in
    let fy = words_are u v ey in
    let fz = words_are p w ez in
    let d : record { cr = x; cu = y; cp = z } ≡ c = cc in
    rw (← d)
    (record {
      crs = fx.few;
      cus = fy.few;
      cps = fz.few;
      cr_below = every-below r x fx.every;
      cu_below = every-below u y fy.every;
      cp_below = every-below p z fz.every;
    })

pub sections-sound : (s : Bytes) {T : Tables} {t : Bytes} → sections s ≡ took T t → Sound T
unfolding sections
sections-sound s {T} {t} e =
    next-case (section (λ n. word_row n) s) _ e
    λ rs s₁ e₁ k₁. next-case (section (λ _. user_row (length rs)) s₁) _ k₁
    λ us s₂ e₂ k₂. next-case (section (λ _. session_row (length us) (length rs)) s₂) _ k₂
    λ ss s₃ e₃ k₃. next-case (rights (length rs) s₃) _ k₃
    λ q s₄ e₄ k₄. next-case (collections (length rs) (length us) (length q.permission_rows) s₄) _ k₄
    λ c s₅ e₅ k₅. next-case (section (λ _. done_row (length us) q.operation_count q.object_count) s₅) _ k₅
    λ ds s₆ e₆ k₆.
    let r = section-are (λ n w. w < 2 ^ n) (λ n. word_row n) (λ n z y y' h. word_below n z h) s e₁ in
    let u = section-are (λ _ u. u.assigned < 2 ^ length rs) (λ _. user_row (length rs)) (λ n z y y' h. user-below (length rs) z h) s₁ e₂ in
    let o = section-are (λ _. Known (length us) (length rs)) (λ _. session_row (length us) (length rs)) (λ n z y y' h. session-known (length us) (length rs) z h) s₂ e₃ in
    let g = rights-fit (length rs) s₃ e₄ in
    let f = collections-fit (length rs) (length us) (length q.permission_rows) s₄ e₅ in
    let n = section-are (λ _. KnownDeed (length us) q.operation_count q.object_count) (λ _. done_row (length us) q.operation_count q.object_count)
    (λ n z y y' h. deed-known (length us) q.operation_count q.object_count z h) s₅ e₆ in
    let d : assembled rs us ss q c ds ≡ T = cc in
    rw (← d)
    (record {
      fits = record {
        roles = r.few;
        users = u.few;
        sessions = o.few;
        operations = g.operations;
        objects = g.objects;
        permissions = g.permissions;
        crs = f.crs;
        cus = f.cus;
        cps = f.cps;
        done = n.few;
      };
      bounded = record {
        roles = every-below (length rs) rs r.every;
        users = assigned-below (length rs) us u.every;
        sessions = o.every;
        permissions = g.below;
        crs = f.cr_below;
        cus = f.cu_below;
        cps = f.cp_below;
        done = n.every;
      };
    })

-- Accepted tables are what the sections gave, with nothing left behind them.
pub record Read (b : Bytes) (T : Tables) : Type 0 where
  pub rest : Bytes
  pub reads : sections b ≡ took T rest
  pub none : length rest ≤ 0
  pub passes : Passes T

pub accepted-read : (b : Bytes) {T : Tables} → tables_of b ≡ taken T → Read b T
unfolding tables_of whole nothing_left
accepted-read b {T} q = go (whole b) refl q
  where
    go : (r : Taken Tables) → whole b ≡ r → reading_of r ≡ taken T → Read b T
    go (stop e) p k = let z : ◌≡◌ {A = ℕ} 0 1 = cc in absurd (omega arith)
    go (took U u) p k =
        next-case (sections b) _ p
        λ S v e h. refuse-case (ltb 0 (length v)) _ v _ h
        λ c₀ h₀. settle-case (late S) v _ h₀
        λ c₁ h₁.
        let d : S ≡ T = cc in
        let x : Read b S =
        record { rest = v; reads = e; none = ltb-false 0 (length v) c₀; passes = record { sound = sections-sound b e; late = c₁ } } in
        rw d at x

-- What accepted tables are.
pub accepted-passes : (b : Bytes) {T : Tables} → tables_of b ≡ taken T → Passes T
accepted-passes b q = (accepted-read b q).passes

pub accepted-sound : (b : Bytes) {T : Tables} → tables_of b ≡ taken T → Sound T
accepted-sound b q = (accepted-passes b q).sound
