-- Document 01, "Turned back" 7 to 9, and document 02, N6, 20: what is asked of the tables as a whole, once all sections are read.
-- Assumes nothing.
use Rattle.std.specs.Prelude.{Bool, true, ◌&&◌, ◌||◌, not, cond, List, [], ◌∷◌, ℕ, zero, suc, eqb, length, get_or}
use Rattle.words.specs.Words.{has, item_of}
use Rattle.answers.specs.declared.Refusal.{Refusal}
use Rattle.answers.specs.declared.Refusal.TheVariants.{Left, Rank, Overreach, Twin}
use Rattle.answers.specs.Outcome.{Outcome, passes}
use Rattle.std.specs.declared.result.Result.TheVariants.{Err}
use Rattle.tables.specs.Tables.{Tables, user_rows, is_present, session_users}
use Rattle.tables.specs.Functions.{dominates, active, juniors_of_users}

-- f holds of every number below n.
unfoldable pub all_to : ℕ → (ℕ → Bool) → Bool
all_to zero f = true
all_to (suc n) f = all_to n f && f n

abbrev pub implies : Bool → Bool → Bool
implies a b = not a || b

-- 20, left, as document 02, N6, adds it: "a row of mark 2 with a word not zero, a session of a leaver, or a CU word naming one".
-- Nothing of that is there of user u;
unfoldable pub withdrawn : Tables → ℕ → Bool
withdrawn T u =
    eqb (get_or (user_rows T) u 0) 0
    && (all_to (length T.sessions) (λ s. not (eqb (get_or (session_users T) s 0) u))
    && all_to (length T.cu) (λ i. not (has (get_or T.cu i 0) u)))

-- and so it is of each who left.
unfoldable pub leavers_gone : Tables → Bool
leavers_gone T = all_to (length T.users) (λ u. is_present T.users u || withdrawn T u)

-- 7, rank: "role rows not reflexive, transitive, antisymmetric"; each over the whole hierarchy.
unfoldable pub reflexive : List ℕ → Bool
reflexive rows = all_to (length rows) (λ r. dominates rows r r)

unfoldable pub transitive : List ℕ → Bool
transitive rows =
    all_to (length rows)
    (λ r. all_to (length rows) (λ q. all_to (length rows) (λ p. implies (dominates rows r q && dominates rows q p) (dominates rows r p))))

unfoldable pub antisymmetric : List ℕ → Bool
antisymmetric rows =
    all_to (length rows) (λ r. all_to (length rows) (λ q. implies (dominates rows r q && dominates rows q r) (eqb r q)))

-- Document 02, N4: "reflexive, transitive and antisymmetric, in that sequence. Let the rank test .. take those steps in that sequence."
unfoldable pub rank_steps : List ℕ → List Bool
rank_steps rows = reflexive rows ∷ transitive rows ∷ antisymmetric rows ∷ []

-- "the first step that fails", of steps that are numbered from k on; 0 where none does.
unfoldable pub failing_from : ℕ → List Bool → ℕ
failing_from k [] = 0
failing_from k (holds ∷ steps) = cond holds (failing_from (suc k) steps) k

unfoldable pub rank_step : List ℕ → ℕ
rank_step rows = failing_from 1 (rank_steps rows)

-- "All three still give 7."
unfoldable pub ranked : List ℕ → Bool
ranked rows = eqb (rank_step rows) 0

-- 8, overreach, as document 02, N2, moves it: "exactly when an active role is not in `roles*` of the session's user" (document 01: "its user is not assigned").
unfoldable pub in_reach : Tables → Bool
in_reach T =
    all_to (length T.sessions)
    (λ s. all_to (length T.role_rows)
    (λ r. implies (active T s r) (has (juniors_of_users T (item_of (get_or (session_users T) s 0))) r)))

-- 9, twin: "equal words in one collection".
unfoldable pub apart : List ℕ → Bool
apart ws = all_to (length ws) (λ i. all_to i (λ j. not (eqb (get_or ws j 0) (get_or ws i 0))))

abbrev pub no_twin : Tables → Bool
no_twin T = apart T.cr && (apart T.cu && apart T.cp)

-- "After the last section come 10, 7, 8, 9 in that order", and 20 "after 10 and before 7": the checks of the whole, each with its refusal; the first that fails is the answer.
pub record Check : Type 0 where
  pub refusal : Refusal
  pub holds : Bool

unfoldable pub late_checks : Tables → List Check
late_checks T =
    record { refusal = Left; holds = leavers_gone T }
    ∷ record { refusal = Rank; holds = ranked T.role_rows }
    ∷ record { refusal = Overreach; holds = in_reach T }
    ∷ record { refusal = Twin; holds = no_twin T }
    ∷ []

unfoldable pub first_failing : List Check → Outcome
first_failing [] = passes
first_failing (c ∷ cs) = cond c.holds (first_failing cs) (Err c.refusal)

abbrev pub late : Tables → Outcome
late T = first_failing (late_checks T)
