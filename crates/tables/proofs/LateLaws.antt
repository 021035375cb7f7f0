-- The checks of the whole, one by one: tables pass them together exactly where they pass each; and who is withdrawn, by lists.
-- Assumes nothing.
use mathlib.Core.Path.{◌≡◌, refl}
use mathlib.Core.Bool.{Bool, true, false, cond, not, ◌&&◌}
use Prim.Native.Nat.{ℕ}
use lib.Dec.{eqb}
use lib.ListN.{length, get_or}
use borrow.Author.Tests.{eq-eqb, eqb-true}
use Rattle.words.specs.Words.{has}
use Rattle.words.proofs.WordsLaws.{and-true, and_both}
use Rattle.answers.specs.declared.Refusal.{Refusal}
use Rattle.answers.specs.Outcome.{Outcome, passes, refuses}
use Rattle.std.specs.declared.result.Result.TheVariants.{Err}
use Rattle.tables.specs.Tables.{Tables, user_rows, session_users}
use Rattle.tables.specs.Checks.{all_to, withdrawn, leavers_gone, ranked, in_reach, no_twin, late_checks, first_failing, late}
use Rattle.tables.specs.Accepted.{Every}
use Rattle.tables.proofs.EveryLaws.{words-all, all_words, each_all, all-each}
use Rattle.tables.proofs.LoadLaws.{never}

-- Nothing is there of user u: no role, no session, no place in a word of CU.
module _ (T : Tables) (u : ℕ) where
  pub record Withdrawn : Type 0 where
    pub row : get_or (user_rows T) u 0 ≡ 0
    pub sessions : Every (λ s. not (eqb s.user u) ≡ true) T.sessions
    pub words : Every (λ x. not (has x u) ≡ true) T.cu

  abbrev other : ℕ → ℕ → Bool
  other v a = not (eqb v u)

  abbrev unnamed : ℕ → Bool
  unnamed x = not (has x u)

  pub is-withdrawn : Withdrawn → withdrawn T u ≡ true
  unfolding withdrawn
  is-withdrawn x =
      and_both (eq-eqb (get_or (user_rows T) u 0) 0 x.row) (and_both (each_all other T.sessions x.sessions) (words-all unnamed T.cu x.words))

  pub of-withdrawn : withdrawn T u ≡ true → Withdrawn
  unfolding withdrawn
  of-withdrawn h =
      let no_session = all_to (length T.sessions) (λ s. not (eqb (get_or (session_users T) s 0) u)) in
      let no_word = all_to (length T.cu) (λ i. not (has (get_or T.cu i 0) u)) in
      let p = and-true (eqb (get_or (user_rows T) u 0) 0) (no_session && no_word) h in
      let q = and-true no_session no_word p.1 in
      record { row = eqb-true (get_or (user_rows T) u 0) 0 p.0; sessions = all-each other T.sessions q.0; words = all_words unnamed T.cu q.1 }

-- The four checks.
pub record Late (T : Tables) : Type 0 where
  pub gone : leavers_gone T ≡ true
  pub rank : ranked T.role_rows ≡ true
  pub reach : in_reach T ≡ true
  pub twin : no_twin T ≡ true

held : (b : Bool) (o : Outcome) (e : Refusal) → cond b o (refuses e) ≡ passes → (b ≡ true) × (o ≡ passes)
held true o e q = (refl, q)
held false o e q = never q

pub late-each : (T : Tables) → late T ≡ passes → Late T
unfolding late_checks first_failing
late-each T e =
    let a = held (leavers_gone T) _ _ e in
    let b = held (ranked T.role_rows) _ _ a.1 in
    let c = held (in_reach T) _ _ b.1 in
    let d = held (no_twin T) _ _ c.1 in
    record { gone = a.0; rank = b.0; reach = c.0; twin = d.0 }

pub each-late : (T : Tables) → Late T → late T ≡ passes
unfolding late_checks first_failing
each-late T l = rw (l.gone, l.rank, l.reach, l.twin)
