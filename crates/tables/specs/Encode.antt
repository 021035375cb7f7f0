-- Document 01, "Tables": the bytes of tables. A section is one line of `section_bytes`.
-- Assumes nothing.
use Rattle.std.specs.Prelude.{Bool, true, false, List, [], ◌∷◌, ◌++◌, map, ℕ, ◌+◌, ◌*◌, length, take}
use Rattle.tables.specs.Tables.{User, Session, Deed, Tables}
use Rattle.tables.specs.Bytes.{Bytes, lowest_first, entered, left}

-- "A row is a word"; "A row is a mark byte (1 entered ..), then a word", and of a user "Mark 2 .. means left" (document 02, N6);
-- "A row is a user number (1 byte), then a word of active roles."
unfoldable pub word_bytes : ℕ → Bytes
word_bytes w = lowest_first 8 w

abbrev pub mark_of : Bool → ℕ
mark_of true = entered
mark_of false = left

unfoldable pub user_bytes : User → Bytes
user_bytes u = mark_of u.present ∷ lowest_first 8 u.assigned

unfoldable pub permission_bytes : ℕ → Bytes
permission_bytes w = entered ∷ lowest_first 8 w

unfoldable pub session_bytes : Session → Bytes
session_bytes s = s.user ∷ lowest_first 8 s.active

-- Document 02, N8: "rows of user, operation and object, a byte each".
unfoldable pub deed_bytes : Deed → Bytes
deed_bytes d = d.user ∷ d.operation ∷ d.object ∷ []

-- One after another.
unfoldable pub joined : List Bytes → Bytes
joined [] = []
joined (b ∷ bs) = b ++ joined bs

-- Rows "after a one-byte count"; a "count only".
unfoldable pub counted : {A : Type 0} → (A → Bytes) → List A → Bytes
counted row xs = length xs ∷ joined (map row xs)

abbrev pub count_only : ℕ → Bytes
count_only n = n ∷ []

-- "Sections follow in this order".
unfoldable pub section_bytes : Tables → List Bytes
section_bytes T =
    counted word_bytes T.role_rows
    ∷ counted user_bytes T.users
    ∷ counted session_bytes T.sessions
    ∷ count_only T.operation_count
    ∷ count_only T.object_count
    ∷ counted permission_bytes T.permission_rows
    ∷ counted word_bytes T.cr
    ∷ counted word_bytes T.cu
    ∷ counted word_bytes T.cp
    ∷ counted deed_bytes T.done
    ∷ []

unfoldable pub encode : Tables → Bytes
encode T = joined (section_bytes T)

-- Document 02, N8: "Tables that stop after section 9".
unfoldable pub nine_bytes : Tables → Bytes
nine_bytes T = joined (take 9 (section_bytes T))

-- How many bytes: ten counts, rows of eight bytes, of nine, and of three.
abbrev pub bytes_of : Tables → ℕ
bytes_of T =
    10 + 8 * (length T.role_rows + length T.cr + length T.cu + length T.cp)
    + 9 * (length T.users + length T.sessions + length T.permission_rows) + 3 * length T.done
