-- What the code makes of the words of tables, section by section, and what a loop has made so far.
-- Internal: contracts of entry points do not speak of it. Assumes nothing.
use Rattle.std.specs.Prelude.{◌≡◌, not, List, [], ℕ, zero, suc, ◌≤◌, eqb, length, get_or, take, drop}
use Rattle.words.specs.Words.{has, gate, meet_of}
use Rattle.tables.specs.Tables.{Tables}
use Rattle.tables.specs.Accepted.{Fits}
use Rattle.tables.specs.Flat.{room, padded, tabulate, flat}
use Rattle.tables.specs.Code.Layout.{Whole, user_count_at, session_count_at, cu_count_at, done_count_at}
use Rattle.tables.specs.Code.Reads.{put}
use Rattle.cuts.specs.Cut.{rows_from, sessions_for, done_for, is_new, add_if, words_for, with_people}

-- Of the first i users the rows: the reader's own, 0 of the others.
abbrev pub rows_to : ℕ → List ℕ → ℕ → List ℕ
rows_to w rows i = tabulate i (λ u. gate (has w u) (get_or rows u 0))

-- Of the first i words of a column those beside a user of the reader's.
unfoldable pub kept_to : ℕ → List ℕ → List ℕ → ℕ → List ℕ
kept_to w users column zero = []
kept_to w users column (suc i) = add_if (not (eqb (meet_of (get_or users i 0) w) 0)) (kept_to w users column i) (get_or column i 0)

-- Of the first i words those that are cut, each once.
unfoldable pub firsts_to : ℕ → List ℕ → ℕ → List ℕ
firsts_to w cu zero = []
firsts_to w cu (suc i) = add_if (is_new (firsts_to w cu i) (meet_of (get_or cu i 0) w)) (firsts_to w cu i) (meet_of (get_or cu i 0) w)

-- A section's 64 words have these, n of them, and zeros behind.
pub record Fills (xs new : List ℕ) (n : ℕ) : Type 0 where
  pub count : n ≡ length xs
  pub words : new ≡ padded room xs

-- Of the n words from `at` on there are those beside a user of the reader's, whose words begin at `users`; r of them.
pub record ClosesUp (w users n at : ℕ) (old new : List ℕ) (r : ℕ) : Type 0 where
  pub count : r ≡ length (kept_to w (take n (drop users old)) (take n (drop at old)) n)
  pub words : new ≡ put old at (padded room (kept_to w (take n (drop users old)) (take n (drop at old)) n))

-- The tables with one part as the reader sees it.
abbrev pub seen_users : ℕ → Tables → Tables
seen_users w T = with_people T (rows_from w 0 T.users) T.sessions T.cu T.done

abbrev pub seen_sessions : ℕ → Tables → Tables
seen_sessions w T = with_people T T.users (sessions_for w T.sessions) T.cu T.done

abbrev pub seen_words : ℕ → Tables → Tables
seen_words w T = with_people T T.users T.sessions (words_for w T.cu) T.done

abbrev pub seen_done : ℕ → Tables → Tables
seen_done w T = with_people T T.users T.sessions T.cu (done_for w T.done)

-- The counts that the code takes parts of the words by.
pub record Counted (ts : List ℕ) : Type 0 where
  pub whole : Whole ts
  pub users : get_or ts user_count_at 0 ≤ room
  pub sessions : get_or ts session_count_at 0 ≤ room
  pub cus : get_or ts cu_count_at 0 ≤ room
  pub done : get_or ts done_count_at 0 ≤ room

-- The words hold tables that fit.
pub record Fitting (ts : List ℕ) : Type 0 where
  pub tables : Tables
  pub fits : Fits tables
  pub words : ts ≡ flat tables

-- Whatever tables the words old hold, new are the words of what f makes of them.
abbrev pub Turns : (Tables → Tables) → List ℕ → List ℕ → Type 0
Turns f old new = (T : Tables) → Fits T → old ≡ flat T → new ≡ flat (f T)
