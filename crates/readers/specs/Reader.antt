-- Document 02, N10: the reader's day sheet, and what the call that writes one of its lines answers.
-- Assumes nothing.
use Rattle.std.specs.Prelude.{◌≡◌, Bool, true, ◌&&◌, cond, List, ℕ, ◌≤◌, ◌<◌, leb, length}
use Rattle.answers.specs.Answer.{Answer, refused, wrote}
use Rattle.answers.specs.declared.Refusal.TheVariants.{Reader}
use Rattle.words.specs.Words.{has, any_to}
use Rattle.syntax.specs.Bytes.{Bytes}
use Rattle.tables.specs.Tables.{Tables}
use Rattle.tables.specs.Reading.{Reading, rejected, taken, tables_of}
use Rattle.sheets.specs.Sheet.{sheet_by, sheet_line}
use Rattle.cuts.specs.Cut.{cut}

-- "The day sheet for that reader is judged with ..": the day sheet of the tables as the reader sees them; "A sheet is the list of its lines."
unfoldable pub reader_sheet : ℕ → Tables → Bytes → List Bytes
reader_sheet w T rules = sheet_by (taken (cut w T)) rules

-- "23 (reader: bit at or above the user count)": the word has bit u, one of 64, and there are no more than u users.
pub record Beyond (w : ℕ) (T : Tables) : Type 0 where
  pub user : ℕ
  pub bit : user < 64
  pub held : has w user ≡ true
  pub above : length T.users ≤ user

unfoldable pub is_beyond : ℕ → Tables → Bool
is_beyond w T = any_to 64 (λ u. leb (length T.users) u && has w u)

-- "Refused tables give their number"; 23 "after the tables' checks and before the rules' length is looked at"; "one line of this sheet, without
-- byte 10, .. any other place gives length 0". But for 17.
unfoldable pub line_by : Reading → ℕ → Bytes → ℕ → Answer
line_by (rejected e) w rules place = refused e
line_by (taken T) w rules place = cond (is_beyond w T) (refused Reader) (wrote (sheet_line (reader_sheet w T rules) place))

unfoldable pub reader_line : Bytes → ℕ → Bytes → ℕ → Answer
reader_line tables w rules place = line_by (tables_of tables) w rules place
