-- Document 02, N8, as sentences: the rows of Done that give an operation, rows that are among others, and other rows in the place of these.
-- Assumes nothing.
use Rattle.std.specs.Prelude.{◌≡◌, true, List, map, ℕ, ◌<◌, length, get_or}
use Rattle.words.specs.Words.{has}
use Rattle.tables.specs.Tables.{Deed, User, Tables, is_present, done_users, done_objects, done_operations}
use Rattle.tables.specs.Reading.{Bytes, taken, tables_of}

-- Row k of Done is of one of w's users, of the operation a, and on the object b.
pub record RowOf (T : Tables) (w a b k : ℕ) : Type 0 where
  pub row : k < length T.done
  pub user : has w (get_or (done_users T) k 0) ≡ true
  pub operation : get_or (done_operations T) k 0 ≡ a
  pub object : get_or (done_objects T) k 0 ≡ b

-- The tables with other rows of Done.
unfoldable pub with_done : Tables → List Deed → Tables
with_done T ds =
    record {
      role_rows = T.role_rows;
      users = T.users;
      sessions = T.sessions;
      operation_count = T.operation_count;
      object_count = T.object_count;
      permission_rows = T.permission_rows;
      cr = T.cr;
      cu = T.cu;
      cp = T.cp;
      done = ds;
    }

-- Row k of ds is row j of es.
pub record Again (ds es : List Deed) (k j : ℕ) : Type 0 where
  pub row : j < length es
  pub user : get_or (map (λ d. d.user) es) j 0 ≡ get_or (map (λ d. d.user) ds) k 0
  pub operation : get_or (map (λ d. d.operation) es) j 0 ≡ get_or (map (λ d. d.operation) ds) k 0
  pub object : get_or (map (λ d. d.object) es) j 0 ≡ get_or (map (λ d. d.object) ds) k 0

-- Each row of ds that is of a user present is one of es.
abbrev pub RowsIn : List User → List Deed → List Deed → Type 0
RowsIn us ds es = (k : ℕ) → k < length ds → is_present us (get_or (map (λ d. d.user) ds) k 0) ≡ true → (j : ℕ) × Again ds es k j

-- "Repeated rows count once", and no row of a leaver counts: ds and es are the same rows of users who are present, in whatever order and however often,
-- beside whatever rows of those who left.
pub record SameRows (us : List User) (ds es : List Deed) : Type 0 where
  pub there : RowsIn us ds es
  pub back : RowsIn us es ds

-- The bytes b and c are accepted, as tables that differ in Done alone, and there in the order of the rows, in repeats and in rows of leavers at the most.
pub record SameDone (b c : Bytes) : Type 0 where
  pub has : Tables
  pub rows : List Deed
  pub reads : tables_of b ≡ taken has
  pub others : tables_of c ≡ taken (with_done has rows)
  pub same : SameRows has.users has.done rows
