-- The tables that were accepted (document 01, "Tables"), as lists of words.
-- Assumes nothing.
use Rattle.std.specs.Prelude.{Bool, false, List, [], ◌∷◌, map, ℕ, ◌+◌, get_or}
use Rattle.words.specs.Words.{gate, word_of}

-- A user: present (mark 1) or left (mark 2; document 02, N6), and the assigned roles (UA).
pub record User : Type 0 where
  pub present : Bool
  pub assigned : ℕ

-- A session: its user's number and its active roles.
pub record Session : Type 0 where
  pub user : ℕ
  pub active : ℕ

-- Document 02, N8: what a user did: "rows of user, operation and object".
pub record Deed : Type 0 where
  pub user : ℕ
  pub operation : ℕ
  pub object : ℕ

pub record Tables : Type 0 where
  pub role_rows : List ℕ  -- 1: for each role the roles dominated, itself included
  pub users : List User  -- 2: a row for each user number, leavers' rows included
  pub sessions : List Session  -- 3
  pub operation_count : ℕ  -- 4
  pub object_count : ℕ  -- 5
  pub permission_rows : List ℕ  -- 6: for each permission the roles holding it (PA); number = operation × object count + object
  pub cr : List ℕ  -- 7: words of roles
  pub cu : List ℕ  -- 8: words of users
  pub cp : List ℕ  -- 9: words of permissions
  pub done : List Deed  -- 10: who already did what, row by row (document 02, N8)

-- Of each user number the assigned roles.
abbrev pub user_rows : Tables → List ℕ
user_rows T = map (λ u. u.assigned) T.users

-- Document 02, N6: "U is then the users marked 1": whether user u is one of them, and their word.
abbrev pub is_present : List User → ℕ → Bool
is_present us u = get_or (map (λ x. x.present) us) u false

unfoldable pub present_in : List User → ℕ
present_in us = word_of 64 (is_present us)

abbrev pub present_users : Tables → ℕ
present_users T = present_in T.users

-- How many they are.
unfoldable pub present_count : List User → ℕ
present_count [] = 0
present_count (u ∷ us) = gate u.present 1 + present_count us

-- The sessions' users, and their active roles.
abbrev pub session_users : Tables → List ℕ
session_users T = map (λ s. s.user) T.sessions

abbrev pub session_roles : Tables → List ℕ
session_roles T = map (λ s. s.active) T.sessions

-- Of each row of Done its user, its object and its operation.
abbrev pub done_users : Tables → List ℕ
done_users T = map (λ d. d.user) T.done

abbrev pub done_objects : Tables → List ℕ
done_objects T = map (λ d. d.object) T.done

abbrev pub done_operations : Tables → List ℕ
done_operations T = map (λ d. d.operation) T.done

-- Document 02, N9: "the tables with that list as section 3".
abbrev pub with_sessions : Tables → List Session → Tables
with_sessions T ss =
    record {
      role_rows = T.role_rows;
      users = T.users;
      sessions = ss;
      operation_count = T.operation_count;
      object_count = T.object_count;
      permission_rows = T.permission_rows;
      cr = T.cr;
      cu = T.cu;
      cp = T.cp;
      done = T.done;
    }
