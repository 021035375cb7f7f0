-- The accepted tables as one list of words, in which the code holds them. Internal.
-- Assumes nothing.
use Rattle.std.specs.Prelude.{List, [], ◌∷◌, ◌++◌, map, ℕ, zero, suc, ◌/◌, ◌%◌, length}
use Rattle.words.specs.Words.{item_of}
use Rattle.tables.specs.Tables.{Tables, user_rows, present_users, session_users, session_roles, done_users, done_objects, done_operations}

-- Fourteen sections of 64 words each: the words of a section, and of all.
abbrev pub room : ℕ
room = 64

abbrev pub whole_length : ℕ
whole_length = 896

-- The first n of the words and of zeros after them.
unfoldable pub padded : ℕ → List ℕ → List ℕ
padded zero xs = []
padded (suc n) [] = 0 ∷ padded n []
padded (suc n) (x ∷ xs) = x ∷ padded n xs

-- f 0, f 1, .., f (n - 1).
unfoldable pub tabulate : ℕ → (ℕ → ℕ) → List ℕ
tabulate zero f = []
tabulate (suc n) f = f 0 ∷ tabulate n (λ i. f (suc i))

-- Section 0: how many roles and users, which users are present, how many sessions, operations, objects, permissions, words of CR, CU, CP, and rows of Done.
unfoldable pub counts : Tables → List ℕ
counts T =
    length T.role_rows ∷ length T.users ∷ present_users T ∷ length T.sessions ∷ T.operation_count ∷ T.object_count
    ∷ length T.permission_rows ∷ length T.cr ∷ length T.cu ∷ length T.cp ∷ length T.done ∷ []

-- Sections 9 and 10: of each permission its object and its operation, as words of one item:
-- "Permission number = operation × object count + object".
unfoldable pub object_rows : Tables → List ℕ
object_rows T = tabulate (length T.permission_rows) (λ p. item_of (p % T.object_count))

unfoldable pub operation_rows : Tables → List ℕ
operation_rows T = tabulate (length T.permission_rows) (λ p. item_of (p / T.object_count))

-- The sections in their order; section k starts at word room × k. Section 3 has of each session its user, as a word of one item;
-- 11, 12 and 13 have of each row of Done its user, its object and its operation, as words of one item.
unfoldable pub sections : Tables → List (List ℕ)
sections T =
    counts T ∷ T.role_rows ∷ user_rows T ∷ map item_of (session_users T) ∷ session_roles T ∷ T.permission_rows
    ∷ T.cr ∷ T.cu ∷ T.cp ∷ object_rows T ∷ operation_rows T
    ∷ map item_of (done_users T) ∷ map item_of (done_objects T) ∷ map item_of (done_operations T) ∷ []

-- Sections one after another, each with room for 64 words.
unfoldable pub laid : List (List ℕ) → List ℕ
laid [] = []
laid (s ∷ ss) = padded room s ++ laid ss

unfoldable pub flat : Tables → List ℕ
flat T = laid (sections T)
