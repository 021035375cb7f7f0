-- Document 02, N10, "The laboratory sees its own people": "A reader holds a word of users." The tables as the reader with the word w sees them.
-- Assumes nothing.
use Rattle.std.specs.Prelude.{Bool, true, false, not, List, [], ◌∷◌, ◌++◌, map, ℕ, suc, eqb, length, get_or}
use Rattle.words.specs.Words.{has, meet_of}
use Rattle.tables.specs.Tables.{User, Session, Deed, Tables}
use Rattle.tables.specs.Checks.{all_to}

-- "with every other user as left (mark 2, word zero)": the row of a user who is, or is not, the reader's; all rows, from user k on.
abbrev pub row_for : Bool → User → User
row_for true u = u
row_for false u = record { present = false; assigned = 0 }

unfoldable pub rows_from : ℕ → ℕ → List User → List User
rows_from w k [] = []
rows_from w k (u ∷ us) = row_for (has w k) u ∷ rows_from w (suc k) us

-- "their sessions and Done rows taken out, the remaining sessions closed up in order": of rows that each have a user, those of the reader's users.
abbrev pub keep_if : {A : Type 0} → Bool → A → List A → List A
keep_if true x xs = x ∷ xs
keep_if false x xs = xs

unfoldable pub of_reader : {A : Type 0} → (A → ℕ) → ℕ → List A → List A
of_reader user w [] = []
of_reader user w (x ∷ xs) = keep_if (has w (user x)) x (of_reader user w xs)

abbrev pub sessions_for : ℕ → List Session → List Session
sessions_for = of_reader (λ s. s.user)

abbrev pub done_for : ℕ → List Deed → List Deed
done_for = of_reader (λ d. d.user)

-- "words that become equal become one, the earliest": a word goes behind those before it, unless it is one of them.
unfoldable pub is_new : List ℕ → ℕ → Bool
is_new ws x = all_to (length ws) (λ i. not (eqb (get_or ws i 0) x))

abbrev pub add_if : Bool → List ℕ → ℕ → List ℕ
add_if true ws x = ws ++ (x ∷ [])
add_if false ws x = ws

unfoldable pub firsts_behind : List ℕ → List ℕ → List ℕ
firsts_behind ws [] = ws
firsts_behind ws (x ∷ xs) = firsts_behind (add_if (is_new ws x) ws x) xs

-- "each CU word cut to the reader's users", and made one so.
abbrev pub words_for : ℕ → List ℕ → List ℕ
words_for w cu = firsts_behind [] (map (λ x. meet_of x w) cu)

-- The tables with other people: their rows, their sessions, the words of CU and the rows of Done.
abbrev pub with_people : Tables → List User → List Session → List ℕ → List Deed → Tables
with_people T us ss cs ds =
    record {
      role_rows = T.role_rows;
      users = us;
      sessions = ss;
      operation_count = T.operation_count;
      object_count = T.object_count;
      permission_rows = T.permission_rows;
      cr = T.cr;
      cu = cs;
      cp = T.cp;
      done = ds;
    }

-- All of it. A leaver among the reader's users stays one and keeps his rows of Done; user numbers stay.
unfoldable pub cut : ℕ → Tables → Tables
cut w T = with_people T (rows_from w 0 T.users) (sessions_for w T.sessions) (words_for w T.cu) (done_for w T.done)
