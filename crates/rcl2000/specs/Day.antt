-- Document 02, N9: "For every list of opens and closes", of the numbers that the calls return and the bytes that they write.
-- Assumes nothing.
use Rattle.std.specs.Prelude.{◌≡◌, false, List, [], ◌∷◌, ◌++◌, ℕ, ◌≤◌, ◌<◌, length, take, drop}
use Rattle.std.proofs.Math.Option.{none, some}
use Rattle.answers.specs.declared.Refusal.{Refusal}
use Rattle.answers.specs.declared.Refusal.TheVariants.{ShortSheet}
use Rattle.tables.specs.Tables.{Session, Tables, with_sessions}
use Rattle.tables.specs.Reading.{taken, tables_of, word_from}
use Rattle.syntax.specs.Bytes.{Bytes}
use Rattle.syntax.specs.Rule.{Rule}
use Rattle.verdicts.specs.Verdict.{turn_order}
use Rattle.verdicts.specs.Report.{OrderOf}
use Rattle.changes.specs.declared.Change.{Change}
use Rattle.changes.specs.Change.{sessions_by, changed, change_refusal}
use Rattle.mentions.specs.Mention.{mentions}
use Rattle.sessions.specs.State.{verdict_in, rule_in, tables_in}
use Rattle.rcl2000.specs.Calls.{Judges, Changes, state_size}

-- A day of calls from the state `first` on, each with any lent output: the state that it ends in, and the changes of the calls that were accepted.
-- "Each call takes the state that the start or the call before it gave"; "A refused call changes nothing", so the next one takes the same state.
pub data Day (first : Bytes) : Bytes → List Change → Type 0 where
  morning : Day first first []
  accepted : {s : Bytes} {cs : List Change} → Day first s cs → (c : Change) (old new : Bytes) (r : ℕ) → Changes s c old new r → r < 65536
      → Day first (take r new) (cs ++ (c ∷ []))
  refused : {s : Bytes} {cs : List Change} → Day first s cs → (c : Change) (old new : Bytes) (r : ℕ) → Changes s c old new r → 65536 ≤ r → Day first s cs

-- "the starting list with the change of each accepted call made in turn"
unfoldable pub sessions_after : List Change → List Session → List Session
sessions_after [] ss = ss
sessions_after (c ∷ cs) ss = sessions_after cs (sessions_by c ss)

-- "the tables with that list as section 3"
abbrev pub tables_after : Tables → List Change → Tables
tables_after T cs = with_sessions T (sessions_after cs T.sessions)

-- Full and breaking, where `judge` writes them and a state has them.
abbrev pub full_in : Bytes → ℕ
full_in s = word_from (take 8 (drop 1 s))

abbrev pub breaking_in : Bytes → ℕ
breaking_in s = word_from (take 8 (drop 9 s))

-- The state s says of the tables S and the rule, from the state `first` on:
pub record Current (S : Tables) (rule : Bytes) (ρ : Rule) (first s : Bytes) : Type 0 where
  -- it has these tables and this rule;
  pub tables : tables_of (tables_in s) ≡ taken S
  pub text : rule_in s ≡ rule
  -- "full and breaking equal those judged afresh": what `judge` writes for S, by any bytes, along every order of the rule's variables;
  pub counts : (b order old new : Bytes) (r : ℕ) → tables_of b ≡ taken S → OrderOf ρ order → 26 ≤ length old → Judges b rule order old new r
      → (r ≡ 26) × (full_in s ≡ full_in new) × (breaking_in s ≡ breaking_in new)
  -- along 1, 2, .. the whole verdict is;
  pub verdict : (b old new : Bytes) (r : ℕ) → tables_of b ≡ taken S → 26 ≤ length old → Judges b rule (turn_order (some ρ)) old new r
      → verdict_in s ≡ take 26 new
  -- "For a rule that mentions neither S nor `sessions`, both counts after any such list are those from the start", and so is the verdict;
  pub unmentioned : mentions rule ≡ false → verdict_in s ≡ verdict_in first
  -- and no state is longer than 4,262 bytes.
  pub short : length s ≤ 4262

-- Which calls on it are refused, n bytes of output lent: those that 21, 5, 20, 8 or 22 refuse, and then those that have no room.
pub data DayRefuses (S : Tables) (rule : Bytes) (c : Change) (n : ℕ) : Refusal → Type 0 where
  day_change : {e : Refusal} → change_refusal S c ≡ some e → DayRefuses S rule c n e
  day_longer : change_refusal S c ≡ none → n < state_size rule (changed S c) → DayRefuses S rule c n ShortSheet
