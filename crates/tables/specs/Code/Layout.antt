-- The layout of the flat tables, by word: where the counts stand and where the sections begin. Nothing else spells one of these numbers.
-- Internal: contracts of entry points do not speak of it. Assumes nothing.
use Rattle.std.specs.Prelude.{◌≡◌, List, [], ℕ, ◌*◌, ◌/◌, ◌%◌, ◌<◌, length, get_or}
use Rattle.tables.specs.Tables.{Tables}
use Rattle.tables.specs.Flat.{room, whole_length, sections}

-- These words are whole tables.
abbrev pub Whole : List ℕ → Type 0
Whole ws = length ws ≡ whole_length

-- A section begins at this word, and which.
abbrev pub Begins : ℕ → Type 0
Begins at = (at % room ≡ 0) × (at < whole_length)

abbrev pub section_at : Tables → ℕ → List ℕ
section_at T at = get_or (sections T) (at / room) []

-- The first section has the counts, in the sections' order of document 01, and behind the users' which of them are present.
abbrev pub role_count_at : ℕ
role_count_at = 0

abbrev pub user_count_at : ℕ
user_count_at = 1

abbrev pub present_at : ℕ
present_at = 2

abbrev pub session_count_at : ℕ
session_count_at = 3

abbrev pub operation_count_at : ℕ
operation_count_at = 4

abbrev pub object_count_at : ℕ
object_count_at = 5

abbrev pub permission_count_at : ℕ
permission_count_at = 6

abbrev pub cr_count_at : ℕ
cr_count_at = 7

abbrev pub cu_count_at : ℕ
cu_count_at = 8

abbrev pub cp_count_at : ℕ
cp_count_at = 9

abbrev pub done_count_at : ℕ
done_count_at = 10

-- Where the others begin.
abbrev pub role_rows_at : ℕ
role_rows_at = room * 1

abbrev pub user_rows_at : ℕ
user_rows_at = room * 2

abbrev pub session_users_at : ℕ
session_users_at = room * 3

abbrev pub session_roles_at : ℕ
session_roles_at = room * 4

abbrev pub permission_rows_at : ℕ
permission_rows_at = room * 5

abbrev pub cr_at : ℕ
cr_at = room * 6

abbrev pub cu_at : ℕ
cu_at = room * 7

abbrev pub cp_at : ℕ
cp_at = room * 8

abbrev pub object_rows_at : ℕ
object_rows_at = room * 9

abbrev pub operation_rows_at : ℕ
operation_rows_at = room * 10

abbrev pub done_users_at : ℕ
done_users_at = room * 11

abbrev pub done_objects_at : ℕ
done_objects_at = room * 12

abbrev pub done_operations_at : ℕ
done_operations_at = room * 13
