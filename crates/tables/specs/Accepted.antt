-- Document 01, "Tables" and "Turned back" 2 to 9: what accepted tables are.
-- Assumes nothing.
use Rattle.std.specs.Prelude.{◌≡◌, List, [], ◌∷◌, ℕ, ◌*◌, ◌^◌, ◌≤◌, ◌<◌, length, get_or}
use Rattle.tables.specs.Tables.{Session, Deed, Tables, user_rows}
use Rattle.answers.specs.Outcome.{passes}
use Rattle.std.specs.declared.result.Result.TheVariants.{Ok}
use Rattle.tables.specs.Checks.{late}

-- The counts: "Roles, at most 64", "Users, at most 64", "Sessions, at most 64", "Operations, at most 8", "Objects, at most 8",
-- "Permissions, exactly operations × objects", CR, CU, CP: "At most 64 words each"; Done (document 02, N8): "a count of at most 64".
pub record Fits (T : Tables) : Type 0 where
  pub roles : length T.role_rows ≤ 64
  pub users : length T.users ≤ 64
  pub sessions : length T.sessions ≤ 64
  pub operations : T.operation_count ≤ 8
  pub objects : T.object_count ≤ 8
  pub permissions : length T.permission_rows ≡ T.operation_count * T.object_count
  pub crs : length T.cr ≤ 64
  pub cus : length T.cu ≤ 64
  pub cps : length T.cp ≤ 64
  pub done : length T.done ≤ 64

-- No word has a "bit .. at or above its count", which is n.
unfoldable pub Below : ℕ → List ℕ → Type 0
Below n ws = (i : ℕ) → get_or ws i 0 < 2 ^ n

-- A session whose "user number" and whose bits are below their counts.
pub record Known (users roles : ℕ) (s : Session) : Type 0 where
  pub user : s.user < users
  pub active : s.active < 2 ^ roles

-- A row of Done whose numbers are below their counts: "Numbers at or above their counts are 5" (document 02, N8).
pub record KnownDeed (users operations objects : ℕ) (d : Deed) : Type 0 where
  pub user : d.user < users
  pub operation : d.operation < operations
  pub object : d.object < objects

-- P holds of each of the list.
abbrev pub Every : {A : Type 0} → (A → Type 0) → List A → Type 0
Every P [] = Unit {0}
Every P (x ∷ xs) = P x × Every P xs

-- The rows: words of roles, of users and of permissions; the sessions.
pub record Bounded (T : Tables) : Type 0 where
  pub roles : Below (length T.role_rows) T.role_rows
  pub users : Below (length T.role_rows) (user_rows T)
  pub sessions : Every (Known (length T.users) (length T.role_rows)) T.sessions
  pub permissions : Below (length T.role_rows) T.permission_rows
  pub crs : Below (length T.role_rows) T.cr
  pub cus : Below (length T.users) T.cu
  pub cps : Below (length T.permission_rows) T.cp
  pub done : Every (KnownDeed (length T.users) T.operation_count T.object_count) T.done

-- What is checked while the sections are read.
pub record Sound (T : Tables) : Type 0 where
  pub fits : Fits T
  pub bounded : Bounded T

-- "Tables are accepted when no check on them refuses": those, and "After the last section" left, rank, overreach and twin.
pub record Passes (T : Tables) : Type 0 where
  pub sound : Sound T
  pub late : late T ≡ passes
