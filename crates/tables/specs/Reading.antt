-- Document 01, "Tables" and "Turned back" 1 to 10, document 02, N6: from bytes to a refusal or the tables, front to back; document 02, N4: to a step of the rank test.
-- Assumes nothing.
use Rattle.std.specs.Prelude.{Bool, true, false, not, cond, List, [], ◌∷◌, ℕ, zero, suc, ◌*◌, ◌^◌, eqb, ltb, leb, length, get_or, take, drop, replicate, Result}
use Rattle.answers.specs.Refusal.{number_of}
use Rattle.answers.specs.declared.Refusal.{Refusal}
use Rattle.answers.specs.declared.Refusal.TheVariants.{CutShort, Overfull, NotEntered, BadMark, NoSuchItem, Miscounted, Rank, LeftOver}
use Rattle.answers.specs.Outcome.{Outcome}
use Rattle.std.specs.declared.result.Result.TheVariants.{Ok, Err}
use Rattle.tables.specs.Tables.{User, Session, Deed, Tables}
use Rattle.tables.specs.Checks.{rank_step, late}
use Rattle.tables.specs.Flat.{whole_length, flat}
unfoldable pub use Rattle.tables.specs.Bytes.{Bytes, word_from, entered, left}

-- "the first refusal met is the answer and nothing further is read": a refusal, or what was taken and the bytes left.
pub data Taken (A : Type 0) : Type 0 where
  stop : Refusal → Taken A
  took : A → Bytes → Taken A

abbrev pub Reader : Type 0 → Type 0
Reader A = Bytes → Taken A

-- `do a ← m; f a` reads m, and then, unless m stopped, f a.
unfoldable pub next : {A B : Type 0} → Taken A → (A → Reader B) → Taken B
next (stop e) f = stop e
next (took a s) f = f a s

infixl 20 ◌>>=◌
abbrev pub ◌>>=◌ : {A B : Type 0} → Reader A → (A → Reader B) → Reader B
◌>>=◌ m f = λ s. next (m s) f

infixl 20 ◌>>◌
abbrev pub ◌>>◌ : {A B : Type 0} → Reader A → Reader B → Reader B
◌>>◌ m n = λ s. next (m s) (λ _. n)

abbrev pub give : {A : Type 0} → A → Reader A
give a = λ s. took a s

-- Stop with this refusal where the test holds.
unfoldable pub refuse : Bool → Refusal → Reader (Unit {0})
refuse true e s = stop e
refuse false e s = took tt s

-- 1: "bytes end where a count or row is due, or inside a row". "A row must be complete before it is examined."
unfoldable pub front : ℕ → Reader Bytes
front n s = cond (ltb (length s) n) (stop CutShort) (took (take n s) (drop n s))

-- "each after a one-byte count"; 2: "count above its limit".
unfoldable pub byte : Reader ℕ
byte = do
  b ← front 1
  give (get_or b 0 0)

unfoldable pub count : ℕ → Reader ℕ
count limit = do
  n ← byte
  refuse (ltb limit n) Overfull
  give n

-- The word of these bytes, of items below n: "A word is 8 bytes, lowest byte first; bit i stands for item i." 5: "bit .. at or above its count": a word has one where it is 2 ^ n or more.
unfoldable pub word_within : ℕ → Bytes → Reader ℕ
word_within n b = do
  refuse (leb (2 ^ n) (word_from b)) NoSuchItem
  give (word_from b)

-- "A row is a word".
unfoldable pub word_row : ℕ → Reader ℕ
word_row n = do
  b ← front 8
  word_within n b

-- "A row is a mark byte (1 entered, 0 never entered), then a word". 3: "mark 0"; 4: a mark above the highest that such rows know.
pub record MarkedRow : Type 0 where
  pub mark : ℕ
  pub word : ℕ

unfoldable pub marked_row : ℕ → ℕ → Reader MarkedRow
marked_row highest n = do
  b ← front 9
  refuse (eqb (get_or b 0 0) 0) NotEntered
  refuse (ltb highest (get_or b 0 0)) BadMark
  w ← word_within n (drop 1 b)
  give (record { mark = get_or b 0 0; word = w })

-- A user's row: "then a word of assigned roles". Document 02, N6: "Bad mark (4) in a user row is now a mark above 2."
unfoldable pub user_row : ℕ → Reader User
user_row roles = do
  m ← marked_row left roles
  give (record { present = eqb m.mark entered; assigned = m.word })

-- A permission's: "Permission rows still know marks 0 and 1 only."
unfoldable pub permission_row : ℕ → Reader ℕ
permission_row roles = do
  m ← marked_row entered roles
  give m.word

-- "A row is a user number (1 byte), then a word of active roles." 5: "user number at or above its count".
unfoldable pub session_row : ℕ → ℕ → Reader Session
session_row users roles = do
  b ← front 9
  refuse (leb users (get_or b 0 0)) NoSuchItem
  w ← word_within roles (drop 1 b)
  give (record { user = get_or b 0 0; active = w })

-- Document 02, N8: "rows of user, operation and object, a byte each"; "Numbers at or above their counts are 5".
unfoldable pub done_row : ℕ → ℕ → ℕ → Reader Deed
done_row users operations objects = do
  b ← front 3
  refuse (leb users (get_or b 0 0)) NoSuchItem
  refuse (leb operations (get_or b 1 0)) NoSuchItem
  refuse (leb objects (get_or b 2 0)) NoSuchItem
  give (record { user = get_or b 0 0; operation = get_or b 1 0; object = get_or b 2 0 })

-- n rows, one after another.
unfoldable pub rows : {A : Type 0} → Reader A → ℕ → Reader (List A)
rows row zero = give []
rows row (suc n) = do
  a ← row
  as' ← rows row n
  give (a ∷ as')

-- "Sections follow in this order, each after a one-byte count": at most 64 rows; the row may depend on the count.
unfoldable pub section : {A : Type 0} → (ℕ → Reader A) → Reader (List A)
section row = do
  n ← count 64
  rows (row n) n

-- Section 1: "Roles". A role's row is held against the count of roles just read.
abbrev pub roles : Reader (List ℕ)
roles = section (λ n. word_row n)

-- Section 6: "Permissions, exactly operations × objects." 6: "permissions not operations × objects";
-- "For permissions 2 is never given: 6 covers its count."
unfoldable pub permissions : ℕ → ℕ → Reader (List ℕ)
permissions product roles = do
  n ← byte
  refuse (not (eqb n product)) Miscounted
  rows (permission_row roles) n

-- Sections 4 to 6: "Operations, at most 8; count only." "Objects, at most 8; count only." Permissions.
pub record Rights : Type 0 where
  pub operation_count : ℕ
  pub object_count : ℕ
  pub permission_rows : List ℕ

unfoldable pub rights : ℕ → Reader Rights
rights roles = do
  a ← count 8
  b ← count 8
  ps ← permissions (a * b) roles
  give (record { operation_count = a; object_count = b; permission_rows = ps })

-- Sections 7 to 9: "CR: words of roles. 8. CU: words of users. 9. CP: words of permissions."
pub record Collections : Type 0 where
  pub cr : List ℕ
  pub cu : List ℕ
  pub cp : List ℕ

unfoldable pub collections : ℕ → ℕ → ℕ → Reader Collections
collections roles users permissions = do
  r ← section (λ _. word_row roles)
  u ← section (λ _. word_row users)
  p ← section (λ _. word_row permissions)
  give (record { cr = r; cu = u; cp = p })

-- The ten sections.
abbrev pub assembled : List ℕ → List User → List Session → Rights → Collections → List Deed → Tables
assembled rs us ss q c ds =
    record {
      role_rows = rs;
      users = us;
      sessions = ss;
      operation_count = q.operation_count;
      object_count = q.object_count;
      permission_rows = q.permission_rows;
      cr = c.cr;
      cu = c.cu;
      cp = c.cp;
      done = ds;
    }

unfoldable pub sections : Reader Tables
sections = do
  rs ← roles
  us ← section (λ _. user_row (length rs))
  ss ← section (λ _. session_row (length us) (length rs))
  q ← rights (length rs)
  c ← collections (length rs) (length us) (length q.permission_rows)
  ds ← section (λ _. done_row (length us) q.operation_count q.object_count)
  give (assembled rs us ss q c ds)

-- 10: "bytes after section 9"; document 02, N8: "left over now looks after section 10".
unfoldable pub nothing_left : Reader (Unit {0})
nothing_left s = refuse (ltb 0 (length s)) LeftOver s

-- "After the last section come 10, 7, 8, 9 in that order", 20 between 10 and 7: 10 here, the others in `late`.
unfoldable pub settle : Outcome → Reader (Unit {0})
settle (Err e) s = stop e
settle (Ok tt) s = took tt s

unfoldable pub whole : Reader Tables
whole = do
  T ← sections
  nothing_left
  settle (late T)
  give T

-- "Tables are accepted when no check on them refuses".
pub data Reading : Type 0 where
  rejected : Refusal → Reading
  taken : Tables → Reading

abbrev pub reading_of : Taken Tables → Reading
reading_of (stop e) = rejected e
reading_of (took T s) = taken T

unfoldable pub tables_of : Bytes → Reading
tables_of s = reading_of (whole s)

-- "A refusal gives its number"; "An accepted input has number 0."
abbrev pub reading_number : Reading → ℕ
reading_number (rejected e) = number_of e
reading_number (taken T) = 0

-- The words of refused tables are all 0.
abbrev pub words_of : Reading → List ℕ
words_of (rejected e) = replicate whole_length 0
words_of (taken T) = flat T

-- What `read` answers: the refusal, or the flat tables.
abbrev pub loaded_of : Reading → Result (List ℕ) Refusal
loaded_of (rejected e) = Err e
loaded_of (taken T) = Ok (flat T)

-- Document 02, N4: "takes tables' bytes and gives the first step that fails, 1, 2 or 3, where they are refused 7, and 0 for all others."
abbrev pub rows_read : Taken (List ℕ) → List ℕ
rows_read (stop e) = []
rows_read (took rs s) = rs

unfoldable pub rank_step_of : Bytes → ℕ
rank_step_of s = cond (eqb (reading_number (tables_of s)) (number_of Rank)) (rank_step (rows_read (roles s))) 0
