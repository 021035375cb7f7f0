-- Document 01, "Functions": `user` "of a session its user (one element)", who is present.
-- Assumes nothing.
use mathlib.Core.Path.{◌≡◌, refl, ap, ◌∙◌}
use mathlib.Core.Bool.{Bool, true, ◌&&◌}
use Prim.Native.Nat.{ℕ, ◌<◌}
use native.Mathlib.Omega.{arith}
use borrow.Author.Tests.{lt-ltb, eq-eqb}
use lib.Dec.{eqb}
use lib.ListN.{length, get_or}
use Rattle.words.specs.Words.{item_of}
use Rattle.words.specs.Relations.{some_in, reach}
use Rattle.words.proofs.WordsLaws.{word-ext, and_both, eqb_comm}
use Rattle.words.proofs.RelationLaws.{some_item}
use Rattle.tables.specs.Tables.{Tables, is_present, session_users}
use Rattle.tables.specs.Accepted.{Passes}
use Rattle.tables.specs.Functions.{session_of, user_of_sessions}
use Rattle.tables.proofs.LeaverLaws.{session-present}

pub user-of-one : (T : Tables) → Passes T → (s : ℕ) → s < length T.sessions
    → (user_of_sessions T (item_of s) ≡ item_of (get_or (session_users T) s 0)) × (is_present T.users (get_or (session_users T) s 0) ≡ true)
unfolding user_of_sessions reach item_of
user-of-one T passes s l = (
  word-ext 64 (λ u. some_in (item_of s) (λ s. session_of T s u)) (λ u. eqb u user) is,
  session-present T passes user s (and_both (lt-ltb s (length T.sessions) l) (eq-eqb user user refl)),
)
  where
    user : ℕ
    user = get_or (session_users T) s 0

    is : (u : ℕ) → u < 64 → some_in (item_of s) (λ s. session_of T s u) ≡ eqb u user
    is u k =
        some_item s (λ s. session_of T s u) (omega (arith, passes.sound.fits.sessions))
        ∙ ap (λ (b : Bool). b && eqb user u) (lt-ltb s (length T.sessions) l)
        ∙ eqb_comm user u
