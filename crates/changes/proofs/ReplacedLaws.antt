-- Section 3 replaced in the words: words in which the count, the users and the roles are those of other sessions hold the tables with these.
-- Assumes nothing.
use mathlib.Core.Path.{◌≡◌, ap, ◌∙◌}
use mathlib.Core.List.{List, [], map}
use mathlib.Core.Logic.{◌⊎◌, inl, inr}
use Prim.Native.Nat.{ℕ, zero, suc, ◌+◌, ◌*◌, ◌≤◌, ◌<◌}
use native.Mathlib.Omega.{arith}
use lib.ListN.{length, get_or}
use Rattle.words.specs.Words.{item_of}
use Rattle.tables.specs.Tables.{Session, Tables, with_sessions}
use Rattle.tables.specs.Flat.{room, counts, object_rows, operation_rows, sections, flat}
use Rattle.tables.specs.Code.Layout.{session_count_at, session_users_at, session_roles_at}
use Rattle.tables.proofs.FlatLaws.{flat-at, flat-words, length-flat}

-- The words of the sessions' users and of their roles.
abbrev pub user_words : List Session → List ℕ
user_words ss = map item_of (map (λ s. s.user) ss)

abbrev pub role_words : List Session → List ℕ
role_words ss = map (λ s. s.active) ss

-- Word j is neither the count of sessions nor in one of their two sections.
pub record Elsewhere (j : ℕ) : Type 0 where
  pub count : j ≡ session_count_at → ⊥
  pub place : (j < session_users_at) ⊎ (session_roles_at + room ≤ j)

pub record Replaced (ss : List Session) (old new : List ℕ) : Type 0 where
  pub same : length new ≡ length old
  pub count : get_or new session_count_at 0 ≡ length ss
  pub users : (i : ℕ) → i < room → get_or new (session_users_at + i) 0 ≡ get_or (user_words ss) i 0
  pub roles : (i : ℕ) → i < room → get_or new (session_roles_at + i) 0 ≡ get_or (role_words ss) i 0
  pub others : (j : ℕ) → Elsewhere j → get_or new j 0 ≡ get_or old j 0

module _ (T : Tables) (ss : List Session) {old new : List ℕ} (e : old ≡ flat T) (r : Replaced ss old new) where
  elsewhere : (k i : ℕ) → i < room → Elsewhere (room * k + i) → get_or new (room * k + i) 0 ≡ get_or (get_or (sections T) k []) i 0
  elsewhere k i l x = r.others (room * k + i) x ∙ ap (λ (ws : List ℕ). get_or ws (room * k + i) 0) e ∙ flat-at T k i l

  front : (k i : ℕ) → k < 3 → (room * k + i ≡ session_count_at → ⊥) → i < room → get_or new (room * k + i) 0 ≡ get_or (get_or (sections T) k []) i 0
  front k i h n l = elsewhere k i l (record { count = n; place = inl (omega arith) })

  counts-replaced : (i : ℕ) → i < room → get_or new (room * 0 + i) 0 ≡ get_or (counts (with_sessions T ss)) i 0
  unfolding sections counts
  counts-replaced zero l = front 0 0 (omega arith) (λ q. omega arith) l
  counts-replaced (suc zero) l = front 0 1 (omega arith) (λ q. omega arith) l
  counts-replaced (suc (suc zero)) l = front 0 2 (omega arith) (λ q. omega arith) l
  counts-replaced (suc (suc (suc zero))) l = r.count
  counts-replaced (suc (suc (suc (suc i)))) l = front 0 (suc (suc (suc (suc i)))) (omega arith) (λ q. omega arith) l

  sections-replaced : (k i : ℕ) → i < room → get_or new (room * k + i) 0 ≡ get_or (get_or (sections (with_sessions T ss)) k []) i 0
  unfolding sections object_rows operation_rows
  sections-replaced zero i l = counts-replaced i l
  sections-replaced (suc zero) i l = front 1 i (omega arith) (λ q. omega arith) l
  sections-replaced (suc (suc zero)) i l = front 2 i (omega arith) (λ q. omega arith) l
  sections-replaced (suc (suc (suc zero))) i l = r.users i l
  sections-replaced (suc (suc (suc (suc zero)))) i l = r.roles i l
  sections-replaced (suc (suc (suc (suc (suc k))))) i l =
      elsewhere (suc (suc (suc (suc (suc k))))) i l (record { count = λ q. omega arith; place = inr (omega arith) })

  pub replaced-flat : new ≡ flat (with_sessions T ss)
  replaced-flat = flat-words (with_sessions T ss) new (r.same ∙ ap length e ∙ length-flat T) sections-replaced
