-- Document 02, N6, as sentences: who left, and what may not remain of a leaver.
-- Assumes nothing.
use Rattle.std.specs.Prelude.{◌≡◌, true, false, ℕ, ◌<◌, length, get_or}
use Rattle.words.specs.Words.{has}
use Rattle.tables.specs.Tables.{Tables, user_rows, is_present, session_users}

-- "Mark 2 in a user row means left."
pub record Leaver (T : Tables) (u : ℕ) : Type 0 where
  pub row : u < length T.users
  pub left : is_present T.users u ≡ false

-- "a row of mark 2 with a word not zero, a session of a leaver, or a CU word naming one": of the leaver u.
pub data Remains (T : Tables) (u : ℕ) : Type 0 where
  of_roles : (get_or (user_rows T) u 0 ≡ 0 → ⊥) → Remains T u
  of_session : (s : ℕ) → s < length T.sessions → get_or (session_users T) s 0 ≡ u → Remains T u
  of_word : (i : ℕ) → i < length T.cu → has (get_or T.cu i 0) u ≡ true → Remains T u

pub record LeaverRemains (T : Tables) : Type 0 where
  pub user : ℕ
  pub leaver : Leaver T user
  pub remains : Remains T user
