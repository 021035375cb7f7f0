-- The counts that loaded words begin with, and the word of users present.
-- Assumes nothing.
use mathlib.Core.Path.{◌≡◌, ap, ◌∙◌}
use mathlib.Core.List.{List}
use Prim.Native.Nat.{ℕ, ◌≤◌, ◌<◌}
use native.Mathlib.Omega.{arith}
use lib.ListN.{length, get_or}
use Rattle.tables.specs.Tables.{Tables, present_users}
use Rattle.tables.specs.Flat.{room, counts}
use Rattle.tables.specs.Code.Layout.{Whole, role_count_at, user_count_at, present_at, session_count_at}
use Rattle.tables.specs.Code.Loaded.{TablesAt}
use Rattle.tables.proofs.FlatLaws.{count_at, length-flat}

pub record CountsOf (ts : List ℕ) (T : Tables) : Type 0 where
  pub roles : get_or ts role_count_at 0 ≡ length T.role_rows
  pub users : get_or ts user_count_at 0 ≡ length T.users
  pub present : get_or ts present_at 0 ≡ present_users T
  pub sessions : get_or ts session_count_at 0 ≡ length T.sessions
  pub long : Whole ts
  pub few_roles : length T.role_rows ≤ room
  pub few_users : length T.users ≤ room
  pub few_sessions : length T.sessions ≤ room

module _ {ts : List ℕ} {T : Tables} (a : TablesAt ts T) where
  count-is : (i : ℕ) → i < room → get_or ts i 0 ≡ get_or (counts T) i 0
  count-is i l = ap (λ (x : List ℕ). get_or x i 0) a.words ∙ count_at T i l

  pub counts_of : CountsOf ts T
  unfolding counts
  counts_of =
      record {
        roles = count-is role_count_at (omega arith);
        users = count-is user_count_at (omega arith);
        present = count-is present_at (omega arith);
        sessions = count-is session_count_at (omega arith);
        long = ap length a.words ∙ length-flat T;
        few_roles = a.passes.sound.fits.roles;
        few_users = a.passes.sound.fits.users;
        few_sessions = a.passes.sound.fits.sessions;
      }
