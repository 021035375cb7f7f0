-- What is written of a state by the words and the bytes of the tables.
-- Internal: contracts of entry points do not speak of it. Assumes nothing.
use Rattle.std.specs.Prelude.{◌≡◌, List, ℕ, ◌+◌, ◌*◌, ◌-◌, ◌≤◌, cond, length, get_or, drop, Option, Some, None}
use Rattle.std.proofs.Math.Option.{none, some}
use Rattle.answers.specs.Answer.{wrote, lent}
use Rattle.answers.specs.Written.{Answers}
use Rattle.answers.specs.Written.{Written}
use Rattle.tables.specs.Tables.{Tables}
use Rattle.tables.specs.Encode.{encode}
use Rattle.tables.specs.Code.Layout.{role_count_at, user_count_at}
use Rattle.syntax.specs.Bytes.{Bytes}
use Rattle.syntax.specs.Rule.{Rule, rule_of}
use Rattle.rules.specs.declared.Parsed.{Parsed}
use Rattle.texts.specs.Code.Overwritten.{Overwritten, Added}
use Rattle.verdicts.specs.Code.Judging.{TablesAt, ParsedFrom, AnswersOn}
use Rattle.changes.specs.declared.Change.{Change}
use Rattle.changes.specs.declared.Change.TheVariants.{Opening, Closing}
use Rattle.changes.specs.Change.{changed, change_refusal}
use Rattle.sessions.specs.State.{parts, current_bytes, verdict_in, verdict_after, rule_length, is_cut, changed_state}

-- The bytes of a row of section 3; where its rows begin, by the counts of the words.
abbrev pub row_length : ℕ
row_length = 9

abbrev pub rows_in : List ℕ → ℕ
rows_in ts = 3 + 8 * get_or ts role_count_at 0 + row_length * get_or ts user_count_at 0

-- How many bytes there are once the change is made, where there were n.
abbrev pub next_length : Change → ℕ → ℕ
next_length (Opening u w) n = n + row_length
next_length (Closing k) n = n - row_length

-- Where the rule of a state ends, where the state is not cut short.
abbrev pub rule_end : Bytes → Option ℕ
rule_end s = cond (is_cut s) None (Some (28 + rule_length s))

-- The front of a state is its verdict, the rule's length and the rule, which has at most 256 bytes once it is accepted.
abbrev pub rule_of_front : Bytes → Bytes
rule_of_front front = drop 28 front

pub record Front (front : Bytes) (p : Parsed) : Type 0 where
  pub long : 28 ≤ length front
  pub parses : ParsedFrom (rule_of_front front) p

-- The words and the bytes hold the same tables.
pub record Holds (ts : List ℕ) (b : Bytes) : Type 0 where
  pub tables : Tables
  pub at : TablesAt ts tables
  pub bytes : b ≡ encode tables

-- The words hold tables in which the change was made, the bytes those before it.
pub record Changed (ts : List ℕ) (b : Bytes) (c : Change) : Type 0 where
  pub tables : Tables
  pub free : change_refusal tables c ≡ none
  pub at : TablesAt ts (changed tables c)
  pub bytes : b ≡ encode tables

-- Whatever tables these are, the bytes of the changed ones were added behind the first n.
abbrev pub AddsChanged : List ℕ → Bytes → Change → ℕ → Bytes → Bytes → ℕ → Type 0
AddsChanged ts b c n mid new r =
    (T : Tables) → change_refusal T c ≡ none → TablesAt ts (changed T c) → b ≡ encode T → Added n (encode (changed T c)) mid new r

-- Whatever tables the words hold, their verdict on the text's rule was written over the beginning of the lent bytes;
abbrev pub PutsCurrent : List ℕ → Bytes → Bytes → Bytes → ℕ → Type 0
PutsCurrent ts rule old new r = (T : Tables) (ρ : Rule) → TablesAt ts T → rule_of rule ≡ some ρ → Overwritten (current_bytes T ρ) old new r

-- that, or the verdict in front, as the rule has it.
abbrev pub PutsVerdict : List ℕ → Bytes → Bytes → Bytes → ℕ → Type 0
PutsVerdict ts front old new r =
    (T : Tables) (ρ : Rule) → TablesAt ts T → rule_of (rule_of_front front) ≡ some ρ
    → Overwritten (verdict_after (verdict_in front) (rule_of_front front) T ρ) old new r

-- A change of the tables that nothing refuses, for the accepted rule in front; any change, whatever the rule.
abbrev pub ChangesOn : List ℕ → Bytes → Change → Bytes → Bytes → Written → Type 0
ChangesOn ts front c old new w =
    (T : Tables) (ρ : Rule) → TablesAt ts T → change_refusal T c ≡ none → rule_of (rule_of_front front) ≡ some ρ
    → Answers (lent (length old) (wrote (parts (verdict_after (verdict_in front) (rule_of_front front) (changed T c) ρ) (rule_of_front front) (encode (changed T c))))) old new w

abbrev pub StepsOn : List ℕ → Bytes → Change → Bytes → Bytes → Written → Type 0
StepsOn ts front c old new w = AnswersOn ts (rule_of_front front) (changed_state (verdict_in front) (rule_of_front front) c) old new w
