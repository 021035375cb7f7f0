-- The change in the words: lists with one more and one less, and words that hold the changed tables.
-- Assumes nothing.
use mathlib.Core.Path.{◌≡◌, refl, sym, ap, ◌∙◌}
use mathlib.Core.Bool.{Bool, true, false}
use mathlib.Core.List.{List, [], ◌∷◌, ◌++◌, map}
use mathlib.Core.Logic.{⊎_elim}
use mathlib.Core.Option.{none}
use Prim.Native.Nat.{ℕ, zero, suc, ◌+◌, ◌-◌, ◌≤◌, ◌<◌}
use native.Mathlib.Decide.{ℕ_discrete}
use native.Mathlib.Nat.{eq-or-lt_of_le}
use native.Mathlib.Omega.{arith}
use lib.Dec.{ltb}
use lib.ListN.{length, get_or, set, take, drop, length-set, length-map, length-append, get_or-eq_default}
use lib.Seq.{get_or-set_same, get_or-set_other, get_or-append_seam}
use borrow.Author.Tests.{ltb-true, ltb-false}
use Rattle.words.specs.Words.{item_of}
use Rattle.tables.specs.Tables.{Session, Tables}
use Rattle.tables.specs.Flat.{room, sections}
use Rattle.tables.specs.Code.Layout.{Whole, session_count_at, session_users_at, session_roles_at}
use Rattle.tables.specs.Code.Loaded.{TablesAt}
use Rattle.tables.proofs.FlatLaws.{flat-at, numbers-long}
use Rattle.changes.specs.declared.Change.TheVariants.{Opening, Closing}
use Rattle.changes.specs.Change.{new_session, sessions_by, changed, change_refusal}
use Rattle.changes.specs.Code.Made.{ClosedUp}
use Rattle.changes.proofs.PassesLaws.{passes-changed, opening-opens, closing-closes}
use Rattle.changes.proofs.CountLaws.{counts_of}
use Rattle.changes.proofs.ReplacedLaws.{user_words, role_words, Elsewhere, Replaced, replaced-flat}

-- ---- lists with one more, and with one less

added-at : (xs : List ℕ) (v i : ℕ) → (i ≡ length xs → ⊥) → get_or (xs ++ (v ∷ [])) i 0 ≡ get_or xs i 0
added-at [] v zero h = absurd (h refl)
added-at [] v (suc i) h = refl
added-at (x ∷ xs) v zero h = refl
added-at (x ∷ xs) v (suc i) h = added-at xs v i (λ q. h (ap suc q))

cut-before : (k i : ℕ) (xs : List ℕ) → i < k → get_or (take k xs ++ drop (suc k) xs) i 0 ≡ get_or xs i 0
cut-before zero i xs l = absurd (omega arith)
cut-before (suc k) i [] l = refl
cut-before (suc k) zero (x ∷ xs) l = refl
cut-before (suc k) (suc i) (x ∷ xs) l = cut-before k i xs (omega arith)

cut-from : (k i : ℕ) (xs : List ℕ) → k ≤ i → get_or (take k xs ++ drop (suc k) xs) i 0 ≡ get_or xs (suc i) 0
cut-from zero i [] l = refl
cut-from zero i (x ∷ xs) l = refl
cut-from (suc k) zero xs l = absurd (omega arith)
cut-from (suc k) (suc i) [] l = refl
cut-from (suc k) (suc i) (x ∷ xs) l = cut-from k i xs (omega arith)

module _ {A B : Type 0} (f : A → B) where
  map-added : (xs : List A) (x : A) → map f (xs ++ (x ∷ [])) ≡ map f xs ++ (f x ∷ [])
  map-added [] x = refl
  map-added (y ∷ xs) x = ap (λ (r : List B). f y ∷ r) (map-added xs x)

  map-cut : (k : ℕ) (xs : List A) → map f (take k xs ++ drop (suc k) xs) ≡ take k (map f xs) ++ drop (suc k) (map f xs)
  map-cut zero [] = refl
  map-cut zero (x ∷ xs) = refl
  map-cut (suc k) [] = refl
  map-cut (suc k) (x ∷ xs) = ap (λ (r : List B). f x ∷ r) (map-cut k xs)

-- A section that is closed up has the list without its word k.
section-closed : (b k : ℕ) {old new : List ℕ} → ClosedUp (b + k) (b + room) old new → (xs : List ℕ) → length xs ≤ room
    → ((i : ℕ) → i < room → get_or old (b + i) 0 ≡ get_or xs i 0) → (i : ℕ) → i < room → get_or new (b + i) 0 ≡ get_or (take k xs ++ drop (suc k) xs) i 0
section-closed b k {old} {new} c xs few h i l = go (ltb i k) refl
  where
    front : i < k → get_or new (b + i) 0 ≡ get_or (take k xs ++ drop (suc k) xs) i 0
    front m = c.before (b + i) (omega arith) ∙ h i l ∙ sym (cut-before k i xs m)

    rear : k ≤ i → get_or new (b + i) 0 ≡ get_or xs (suc i) 0
    rear m =
        ⊎_elim
        (λ (q : suc i ≡ room). c.last (b + i) (omega arith) (omega arith) ∙ sym (get_or-eq_default xs 0 (omega arith)))
        (λ (q : suc i < room).
        let e : suc (b + i) ≡ b + suc i = omega arith in
        c.moved (b + i) (omega arith) (omega arith) ∙ ap (λ (n : ℕ). get_or old n 0) e ∙ h (suc i) q) (eq-or-lt_of_le l)

    go : (x : Bool) → ltb i k ≡ x → get_or new (b + i) 0 ≡ get_or (take k xs ++ drop (suc k) xs) i 0
    go true q = front (ltb-true i k q)
    go false q = let m : k ≤ i = ltb-false i k q in rear m ∙ sym (cut-from k i xs m)

-- What is elsewhere is in neither section.
away : {j : ℕ} → Elsewhere j → (i : ℕ) → i < room → (j ≡ session_users_at + i → ⊥) × (j ≡ session_roles_at + i → ⊥)
away {j} x i l = (
  λ q. ⊎_elim (λ (h : j < session_users_at). omega arith) (λ (h : session_roles_at + room ≤ j). omega arith) x.place,
  λ q. ⊎_elim (λ (h : j < session_users_at). omega arith) (λ (h : session_roles_at + room ≤ j). omega arith) x.place,
)

-- ---- the changed tables

module _ {ts : List ℕ} {T : Tables} (a : TablesAt ts T) where
  abbrev ss : List Session
  ss = T.sessions

  -- The words of the two sections.
  user-at : (i : ℕ) → i < room → get_or ts (session_users_at + i) 0 ≡ get_or (user_words ss) i 0
  unfolding sections
  user-at i l = ap (λ (x : List ℕ). get_or x (session_users_at + i) 0) a.words ∙ flat-at T 3 i l

  role-at : (i : ℕ) → i < room → get_or ts (session_roles_at + i) 0 ≡ get_or (role_words ss) i 0
  unfolding sections
  role-at i l = ap (λ (x : List ℕ). get_or x (session_roles_at + i) 0) a.words ∙ flat-at T 4 i l

  user-many : length (user_words ss) ≡ length ss
  user-many = numbers-long ss (λ s. s.user)

  role-many : length (role_words ss) ≡ length ss
  role-many = length-map ss (λ s. s.active)

  -- One session more.
  module _ (u w : ℕ) (free : change_refusal T (Opening u w) ≡ none) {v n : ℕ} (ev : v ≡ item_of u) (en : n ≡ get_or ts session_count_at 0) where
    abbrev first : List ℕ
    first = set ts (session_users_at + n) v

    abbrev second : List ℕ
    second = set first (session_roles_at + n) w

    abbrev opened : List ℕ
    opened = set second session_count_at (n + 1)

    many : n ≡ length ss
    many = en ∙ (counts_of a).sessions

    vacant : length ss < 64
    vacant = (opening-opens T u w free).room

    long : Whole ts
    long = (counts_of a).long

    -- A word added to a section at its end.
    added : (b : ℕ) (xs : List ℕ) (x : ℕ) (ws : List ℕ) → length xs ≡ length ss → b + n < length ws → ((i : ℕ) → i < room → get_or ws (b + i) 0 ≡ get_or xs i 0)
        → (i : ℕ) → i < room → get_or (set ws (b + n) x) (b + i) 0 ≡ get_or (xs ++ (x ∷ [])) i 0
    added b xs x ws l r h i k = go (ℕ_discrete i n)
      where
        go : Dec (i ≡ n) → get_or (set ws (b + n) x) (b + i) 0 ≡ get_or (xs ++ (x ∷ [])) i 0
        go (yes q) =
            let e : n ≡ length xs = many ∙ sym l in
            rw (q, e) (get_or-set_same ws (b + length xs) x 0 (rw e at r) ∙ sym (get_or-append_seam xs x [] 0))
        go (no q) = get_or-set_other ws (b + n) (b + i) x 0 (λ e. q (omega arith)) ∙ h i k ∙ sym (added-at xs x i (λ e. q (e ∙ l ∙ sym many)))

    users-added : user_words ss ++ (v ∷ []) ≡ user_words (ss ++ (new_session u w ∷ []))
    users-added = rw ev (sym (ap (map item_of) (map-added (λ s. s.user) ss (new_session u w)) ∙ map-added item_of (map (λ s. s.user) ss) u))

    opened-replaced : Replaced (sessions_by (Opening u w) ss) ts opened
    unfolding sessions_by
    opened-replaced =
        record {
          same = length-set second session_count_at (n + 1) ∙ length-set first (session_roles_at + n) w ∙ length-set ts (session_users_at + n) v;
          count =
              get_or-set_same second session_count_at (n + 1) 0 (rw (length-set, length-set) (omega (arith, long)))
              ∙ omega (arith, many, length-append ss (new_session u w ∷ []));
          users = λ i l.
              get_or-set_other second session_count_at (session_users_at + i) (n + 1) 0 (λ q. omega arith)
              ∙ get_or-set_other first (session_roles_at + n) (session_users_at + i) w 0 (λ q. omega arith)
              ∙ added session_users_at (user_words ss) v ts user-many (omega (arith, long, many, vacant)) user-at i l
              ∙ ap (λ (xs : List ℕ). get_or xs i 0) users-added;
          roles = λ i l.
              get_or-set_other second session_count_at (session_roles_at + i) (n + 1) 0 (λ q. omega arith)
              ∙ added session_roles_at (role_words ss) w first role-many (rw length-set (omega (arith, long, many, vacant)))
              (λ j k. get_or-set_other ts (session_users_at + n) (session_roles_at + j) v 0 (λ q. omega (arith, many, vacant)) ∙ role-at j k) i l
              ∙ ap (λ (xs : List ℕ). get_or xs i 0) (sym (map-added (λ s. s.active) ss (new_session u w)));
          others = λ j x.
              get_or-set_other second session_count_at j (n + 1) 0 x.count
              ∙ get_or-set_other first (session_roles_at + n) j w 0 (λ q. (away x n (omega (arith, many, vacant))).1 q)
              ∙ get_or-set_other ts (session_users_at + n) j v 0 (λ q. (away x n (omega (arith, many, vacant))).0 q);
        }

    pub opened-made : TablesAt opened (changed T (Opening u w))
    opened-made =
        record { passes = passes-changed T (Opening u w) free a.passes; words = replaced-flat T (sessions_by (Opening u w) ss) a.words opened-replaced }

  -- One session less.
  module _ (k : ℕ) (free : change_refusal T (Closing k) ≡ none) {mid last : List ℕ} (one : ClosedUp (session_users_at + k) (session_users_at + room) ts mid)
      (two : ClosedUp (session_roles_at + k) (session_roles_at + room) mid last) where
    is_open : k < length ss
    is_open = closing-closes T k free

    few : length ss ≤ room
    few = (counts_of a).few_sessions

    abbrev closed : List ℕ
    closed = set last session_count_at (get_or last session_count_at 0 - 1)

    cut-many : (k : ℕ) (xs : List Session) → k < length xs → length xs - 1 ≡ length (take k xs ++ drop (suc k) xs)
    cut-many k [] l = absurd (omega arith)
    cut-many zero (x ∷ xs) l = omega arith
    cut-many (suc k) (x ∷ xs) l = let h = cut-many k xs (omega arith) in omega arith

    here : length last ≡ length ts
    here = two.same ∙ one.same

    count_kept : get_or last session_count_at 0 ≡ length ss
    count_kept = two.before session_count_at (omega arith) ∙ one.before session_count_at (omega arith) ∙ (counts_of a).sessions

    closed-replaced : Replaced (sessions_by (Closing k) ss) ts closed
    unfolding sessions_by
    closed-replaced =
        record {
          same = length-set last session_count_at (get_or last session_count_at 0 - 1) ∙ here;
          count =
              get_or-set_same last session_count_at (get_or last session_count_at 0 - 1) 0 (omega (arith, here, (counts_of a).long))
              ∙ ap (λ (n : ℕ). n - 1) count_kept ∙ cut-many k ss is_open;
          users = λ i l.
              get_or-set_other last session_count_at (session_users_at + i) _ 0 (λ q. omega arith)
              ∙ two.before (session_users_at + i) (omega arith)
              ∙ section-closed session_users_at k one (user_words ss) (omega (arith, user-many, few)) user-at i l
              ∙ ap (λ (xs : List ℕ). get_or xs i 0) (sym (ap (map item_of) (map-cut (λ s. s.user) k ss) ∙ map-cut item_of k (map (λ s. s.user) ss)));
          roles = λ i l.
              get_or-set_other last session_count_at (session_roles_at + i) _ 0 (λ q. omega arith)
              ∙ section-closed session_roles_at k two (role_words ss) (omega (arith, role-many, few)) (λ j m. one.behind (session_roles_at + j) (omega arith) ∙ role-at j m) i l
              ∙ ap (λ (xs : List ℕ). get_or xs i 0) (sym (map-cut (λ s. s.active) k ss));
          others = λ j x.
              get_or-set_other last session_count_at j _ 0 x.count
              ∙ ⊎_elim
              (λ (h : j < session_users_at). two.before j (omega arith) ∙ one.before j (omega arith))
              (λ (h : session_roles_at + room ≤ j). two.behind j h ∙ one.behind j (omega arith)) x.place;
        }

    pub closed-made : TablesAt closed (changed T (Closing k))
    closed-made =
        record { passes = passes-changed T (Closing k) free a.passes; words = replaced-flat T (sessions_by (Closing k) ss) a.words closed-replaced }
