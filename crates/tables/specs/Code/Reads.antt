-- Internal: how the code's answers agree with the readers of Reading, and what the words hold once a section is stored.
-- Assumes nothing.
use Rattle.std.specs.Prelude.{◌≡◌, List, [], ◌∷◌, map, Bool, not, ℕ, suc, ◌+◌, ◌%◌, ◌/◌, ◌≤◌, ◌<◌, eqb, length, get_or, drop, set, Option, Some, None, Result, Ok, Err}
use Rattle.answers.specs.declared.Refusal.{Refusal}
use Rattle.words.specs.Words.{all_of, item_of, join_of, less_of, image_of, preimage_of}
use Rattle.tables.specs.declared.Row.{Row}
use Rattle.tables.specs.declared.Row.TheVariants.{Plain, Marked}
use Rattle.tables.specs.declared.Piece.{Piece}
use Rattle.tables.specs.declared.hierarchy.RankStep.{RankStep}
use Rattle.tables.specs.declared.hierarchy.RankStep.TheVariants.{Reflexive, Transitive, Antisymmetric}
use Rattle.answers.specs.Outcome.{Outcome, passes}
use Rattle.tables.specs.Tables.{User, Session, Deed, Tables, present_in}
use Rattle.tables.specs.Reading.{Bytes, Taken, Reader, stop, took, word_row, MarkedRow, permission_row, Rights, Collections, Reading, rejected, taken}
use Rattle.tables.specs.Checks.{all_to}
use Rattle.tables.specs.Code.Layout.{Whole, role_count_at, user_count_at, present_at, session_count_at, operation_count_at, object_count_at, permission_count_at}
use Rattle.tables.specs.Code.Layout.{cr_count_at, cu_count_at, cp_count_at, role_rows_at, user_rows_at, session_users_at, session_roles_at}
use Rattle.tables.specs.Code.Layout.{permission_rows_at, cr_at, cu_at, cp_at, object_rows_at, operation_rows_at}
use Rattle.tables.specs.Code.Layout.{done_count_at, done_users_at, done_objects_at, done_operations_at}
use Rattle.tables.specs.Flat.{room, tabulate}

-- The code stopped with the reader's refusal, or took what the reader took, up to the same byte; Holds relates the two values.
pub data Reads {A : Type 0} (s : Bytes) (Holds : A → ℕ → Type 0) : Result Piece Refusal → Taken A → Type 0 where
  stops : {e : Refusal} {r : Taken A} → r ≡ stop e → Reads s Holds (Err e) r
  takes : {p : Piece} {a : A} {r : Taken A} → r ≡ took a (drop p.next s) → p.next ≤ length s → Holds a p.value → Reads s Holds (Ok p) r

-- The case of the outcome that a reading has.
abbrev pub reading_outcome : Reading → Outcome
reading_outcome (rejected e) = Err e
reading_outcome (taken T) = passes

-- A count within its limit.
pub record IsCount (limit a v : ℕ) : Type 0 where
  pub is : a ≡ v
  pub few : v ≤ limit

-- The value itself; a row whose mark, a session whose user is the byte at `at`.
abbrev pub Is : ℕ → ℕ → Type 0
Is a v = a ≡ v

pub record IsMarked (s : Bytes) (at : ℕ) (a : MarkedRow) (v : ℕ) : Type 0 where
  pub mark : a.mark ≡ get_or s at 0
  pub word : a.word ≡ v
  pub complete : at < length s

pub record IsSession (s : Bytes) (at users : ℕ) (a : Session) (v : ℕ) : Type 0 where
  pub user : a.user ≡ get_or s at 0
  pub known : get_or s at 0 < users
  pub active : a.active ≡ v
  pub complete : at < length s

-- The row of Done in the bytes from `at` on.
unfoldable pub deed_at : Bytes → ℕ → Deed
deed_at s at = record { user = get_or s at 0; operation = get_or s (at + 1) 0; object = get_or s (at + 2) 0 }

pub record IsDeed (s : Bytes) (at : ℕ) (a : Deed) (v : ℕ) : Type 0 where
  pub is : a ≡ deed_at s at
  pub complete : at + 3 ≤ length s

-- A row of one word: its reader, and that the items fit a word.
abbrev pub row_of : Row → Reader ℕ
row_of (Plain n) = word_row n
row_of (Marked n) = permission_row n

abbrev pub RowFits : Row → Type 0
RowFits (Plain n) = n ≤ 64
RowFits (Marked n) = n ≤ 64

-- The words with a list written from word k on.
unfoldable pub put : List ℕ → ℕ → List ℕ → List ℕ
put ws k [] = ws
put ws k (x ∷ xs) = put (set ws k x) (suc k) xs

-- A section's rows from word `to` on; the users' assigned roles and which are present; the sessions' users, as words of one item, and active roles.
abbrev pub rows_from : ℕ → List ℕ → List ℕ → List ℕ
rows_from to ws xs = put ws to xs

abbrev pub put_assigned : List ℕ → List User → List ℕ
put_assigned ws us = put ws user_rows_at (map (λ u. u.assigned) us)

unfoldable pub put_users : List ℕ → List User → List ℕ
put_users ws us = set (put_assigned ws us) present_at (present_in us)

unfoldable pub put_sessions : List ℕ → List Session → List ℕ
put_sessions ws ss = put (put ws session_users_at (map item_of (map (λ s. s.user) ss))) session_roles_at (map (λ s. s.active) ss)

-- The rows of Done: their users, objects and operations, as words of one item.
unfoldable pub put_deeds : List ℕ → List Deed → List ℕ
put_deeds ws ds =
    put (put (put ws done_users_at (map item_of (map (λ d. d.user) ds))) done_objects_at (map item_of (map (λ d. d.object) ds)))
    done_operations_at (map item_of (map (λ d. d.operation) ds))

-- One row, as row i.
unfoldable pub with_deed : List ℕ → ℕ → Deed → List ℕ
with_deed ws i d =
    set (set (set ws (done_users_at + i) (item_of d.user)) (done_objects_at + i) (item_of d.object)) (done_operations_at + i) (item_of d.operation)

-- Rows that are written so, behind their count at its place.
unfoldable pub with_count : {A : Type 0} → (List ℕ → List A → List ℕ) → ℕ → List ℕ → List A → List ℕ
with_count write place ws xs = write (set ws place (length xs)) xs

abbrev pub with_section : List ℕ → ℕ → ℕ → List ℕ → List ℕ
with_section ws place to = with_count (rows_from to) place ws

abbrev pub with_users : List ℕ → List User → List ℕ
with_users = with_count put_users user_count_at

abbrev pub with_session_rows : List ℕ → List Session → List ℕ
with_session_rows = with_count put_sessions session_count_at

abbrev pub with_deeds : List ℕ → List Deed → List ℕ
with_deeds = with_count put_deeds done_count_at

-- Of each permission its object and its operation.
unfoldable pub with_names : List ℕ → ℕ → ℕ → List ℕ
with_names ws n objects = put (put ws object_rows_at (tabulate n (λ p. item_of (p % objects)))) operation_rows_at (tabulate n (λ p. item_of (p / objects)))

unfoldable pub with_rights : List ℕ → Rights → List ℕ
with_rights ws q =
    with_names (with_section (set (set ws operation_count_at q.operation_count) object_count_at q.object_count) permission_count_at permission_rows_at q.permission_rows)
    (length q.permission_rows) q.object_count

unfoldable pub with_collections : List ℕ → Collections → List ℕ
with_collections ws c = with_section (with_section (with_section ws cr_count_at cr_at c.cr) cu_count_at cu_at c.cu) cp_count_at cp_at c.cp

-- The code's value is the count of the n rows, and the words are the old ones with the rows in them; the same of a section.
pub record RowsAt {A : Type 0} (write : List ℕ → List A → List ℕ) (old new : List ℕ) (n : ℕ) (xs : List A) (v : ℕ) : Type 0 where
  pub count : v ≡ length xs
  pub all : v ≡ n
  pub words : new ≡ write old xs

pub record SectionAt {A : Type 0} (write : List ℕ → List A → List ℕ) (place : ℕ) (old new : List ℕ) (xs : List A) (v : ℕ) : Type 0 where
  pub count : v ≡ length xs
  pub few : v ≤ room
  pub words : new ≡ with_count write place old xs

pub record PermissionsAt (old new : List ℕ) (product : ℕ) (xs : List ℕ) (v : ℕ) : Type 0 where
  pub section : SectionAt (rows_from permission_rows_at) permission_count_at old new xs v
  pub all : v ≡ product

pub record RightsAt (old new : List ℕ) (q : Rights) (v : ℕ) : Type 0 where
  pub count : v ≡ length q.permission_rows
  pub few : v ≤ room
  pub words : new ≡ with_rights old q

pub record CollectionsAt (old new : List ℕ) (c : Collections) (v : ℕ) : Type 0 where
  pub words : new ≡ with_collections old c

-- All ten sections, in the order in which they are read.
pub record Filled (old new : List ℕ) (T : Tables) (v : ℕ) : Type 0 where
  pub words :
      new ≡ with_deeds (with_collections (with_rights (with_session_rows (with_users (with_section old role_count_at role_rows_at T.role_rows) T.users) T.sessions)
      (record { operation_count = T.operation_count; object_count = T.object_count; permission_rows = T.permission_rows }))
      (record { cr = T.cr; cu = T.cu; cp = T.cp }))
      T.done

-- The checks as the code makes them, on the rows' words.
-- The users who have a role or a session, or stand in a word of CU.
unfoldable pub users_met : List ℕ → List ℕ → List ℕ → ℕ
users_met rows theirs cu = join_of (preimage_of rows (all_of room)) (join_of (image_of theirs (all_of (length theirs))) (image_of cu (all_of (length cu))))

-- What the roles besides r that r dominates dominate.
abbrev pub below_at : List ℕ → ℕ → ℕ
below_at rows r = image_of rows (less_of (get_or rows r 0) (item_of r))

-- They dominate nothing that r does not.
unfoldable pub closed_at : List ℕ → ℕ → Bool
closed_at rows r = eqb (less_of (below_at rows r) (get_or rows r 0)) 0

-- The roles of `over` are dominated by roles of `own`.
abbrev pub covered_by : List ℕ → ℕ → ℕ → Bool
covered_by rows own over = eqb (less_of over (image_of rows own)) 0

-- The roles of session s besides its user's own are dominated by these.
abbrev pub reach_at : List ℕ → List ℕ → List ℕ → List ℕ → ℕ → Bool
reach_at rows assigned users active s =
    let own = image_of assigned (get_or users s 0) in
    covered_by rows own (less_of (get_or active s 0) own)

unfoldable pub reaching : List ℕ → List ℕ → List ℕ → List ℕ → Bool
reaching rows assigned users active = all_to (length active) (reach_at rows assigned users active)

unfoldable pub new_at : List ℕ → ℕ → Bool
new_at ws i = all_to i (λ j. not (eqb (get_or ws j 0) (get_or ws i 0)))

-- The number of the step that fails, 0 where none does.
abbrev pub step_number : Option RankStep → ℕ
step_number None = 0
step_number (Some Reflexive) = 1
step_number (Some Transitive) = 2
step_number (Some Antisymmetric) = 3

-- Words are sorted into slots; those of the first i words are taken.
abbrev pub slots : ℕ
slots = 1021

abbrev pub slot_of : ℕ → ℕ
slot_of w = w % slots

pub record SlotsTaken (ws : List ℕ) (i : ℕ) (taken : List ℕ) : Type 0 where
  pub room : length taken ≡ slots
  pub theirs : (j : ℕ) → j < i → get_or taken (slot_of (get_or ws j 0)) 0 ≡ 1

-- The counts that the code takes parts of the words by.
pub record CountsFit (ws : List ℕ) : Type 0 where
  pub whole : Whole ws
  pub roles : get_or ws role_count_at 0 ≤ room
  pub users : get_or ws user_count_at 0 ≤ room
  pub sessions : get_or ws session_count_at 0 ≤ room
  pub crs : get_or ws cr_count_at 0 ≤ room
  pub cus : get_or ws cu_count_at 0 ≤ room
  pub cps : get_or ws cp_count_at 0 ≤ room
