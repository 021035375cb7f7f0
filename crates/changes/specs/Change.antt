-- Document 02, N9, "Sessions come and go": what a call asks for, what it makes of the tables, and what refuses it.
-- Assumes nothing.
use Rattle.std.specs.Prelude.{Bool, cond, List, [], ◌∷◌, ◌++◌, ℕ, suc, ◌^◌, ltb, length, take, drop}
use Rattle.std.proofs.Math.Option.{Option, none, some}
use Rattle.words.specs.Words.{has, item_of}
use Rattle.answers.specs.declared.Refusal.{Refusal}
use Rattle.answers.specs.declared.Refusal.TheVariants.{NoSuchItem, Overreach, Left, FullHouse, NotOpen}
use Rattle.tables.specs.Tables.{Session, Tables, is_present, with_sessions}
use Rattle.tables.specs.Functions.{juniors_of_users}
use Rattle.tables.specs.Checks.{all_to, implies, Check}
use Rattle.changes.specs.declared.Change.{Change}
use Rattle.changes.specs.declared.Change.TheVariants.{Opening, Closing}

-- "The tracker opens and closes sessions": `Opening u w` asks for a session of user u with the active roles w, `Closing k` for the end of session k,
-- numbered from 0. They are the cases of `changes::Change`.
abbrev pub new_session : ℕ → ℕ → Session
new_session u w = record { user = u; active = w }

-- "A new session is added behind the last; closing one moves those after it down by one."
unfoldable pub sessions_by : Change → List Session → List Session
sessions_by (Opening u w) ss = ss ++ (new_session u w ∷ [])
sessions_by (Closing k) ss = take k ss ++ drop (suc k) ss

-- "the tables with that list as section 3"
abbrev pub changed : Tables → Change → Tables
changed T c = with_sessions T (sessions_by c T.sessions)

-- 8, as document 02, N2, has it: every active role is in `roles*` of the session's user.
unfoldable pub reaches : Tables → Session → Bool
reaches T s = all_to (length T.role_rows) (λ r. implies (has s.active r) (has (juniors_of_users T (item_of s.user)) r))

-- "21 (full house: opening with 64 open) before 5, then 20, then 8; 22 (not open: closing a number that is not open)". 5 looks at the user's number
-- and then at the word, as in a row of section 3.
unfoldable pub change_checks : Tables → Change → List Check
change_checks T (Opening u w) =
    record { refusal = FullHouse; holds = ltb (length T.sessions) 64 }
    ∷ record { refusal = NoSuchItem; holds = ltb u (length T.users) }
    ∷ record { refusal = NoSuchItem; holds = ltb w (2 ^ length T.role_rows) }
    ∷ record { refusal = Left; holds = is_present T.users u }
    ∷ record { refusal = Overreach; holds = reaches T (new_session u w) }
    ∷ []
change_checks T (Closing k) = record { refusal = NotOpen; holds = ltb k (length T.sessions) } ∷ []

-- The first check that fails refuses.
unfoldable pub first_due : List Check → Option Refusal
first_due [] = none
first_due (c ∷ cs) = cond c.holds (first_due cs) (some c.refusal)

unfoldable pub change_refusal : Tables → Change → Option Refusal
change_refusal T c = first_due (change_checks T c)
