-- Document 02, N9: "Start from accepted tables and an accepted rule. Each call takes the state that the start or the call before it gave".
-- Assumes nothing.
use Rattle.std.specs.Prelude.{Bool, ◌||◌, cond, ◌++◌, ℕ, ◌+◌, ltb, length, take, drop}
use Rattle.std.proofs.Math.Option.{some}
use Rattle.answers.specs.Answer.{Answer, refused, wrote}
use Rattle.answers.specs.declared.Refusal.TheVariants.{CutShort}
use Rattle.tables.specs.Tables.{Tables}
use Rattle.tables.specs.Bytes.{word_from, lowest_first}
use Rattle.tables.specs.Encode.{encode}
use Rattle.syntax.specs.Bytes.{Bytes}
use Rattle.syntax.specs.Rule.{Rule}
use Rattle.verdicts.specs.Verdict.{turn_order, verdict_bytes, unless_refused}
use Rattle.verdicts.specs.Both.{of_texts}
use Rattle.changes.specs.declared.Change.{Change}
use Rattle.changes.specs.Change.{changed, change_refusal}
use Rattle.mentions.specs.Mention.{mentions}

-- A state: the 26 bytes of a verdict, the rule's length (2 bytes, lowest first), the rule, and the tables to the end.
abbrev pub parts : Bytes → Bytes → Bytes → Bytes
parts head rule tables = head ++ (lowest_first 2 (length rule) ++ (rule ++ tables))

-- "wants one rule's counts current": the verdict on the tables, in the order 1, 2, ..
abbrev pub current_bytes : Tables → Rule → Bytes
current_bytes T ρ = verdict_bytes T ρ (turn_order (some ρ))

abbrev pub state_bytes : Tables → Rule → Bytes → Bytes
state_bytes T ρ rule = parts (current_bytes T ρ) rule (encode T)

-- The start, but for 17.
unfoldable pub started : Bytes → Bytes → Answer
started tables rule = of_texts tables rule (λ T ρ. wrote (state_bytes T ρ rule))

-- The parts of a state. "of other states only demand 1 is asked": all are read so, and the verdict is not looked at.
abbrev pub verdict_in : Bytes → Bytes
verdict_in s = take 26 s

abbrev pub rule_length : Bytes → ℕ
rule_length s = word_from (take 2 (drop 26 s))

abbrev pub rule_in : Bytes → Bytes
rule_in s = take (rule_length s) (drop 28 s)

abbrev pub tables_in : Bytes → Bytes
tables_in s = drop (28 + rule_length s) s

-- 1: the bytes end before the rule does.
unfoldable pub is_cut : Bytes → Bool
is_cut s = ltb (length s) 28 || ltb (length s) (28 + rule_length s)

-- The verdict on the changed tables: of a rule that mentions sessions it is given afresh, of others it is the one that there was.
unfoldable pub verdict_after : Bytes → Bytes → Tables → Rule → Bytes
verdict_after head rule T ρ = cond (mentions rule) (current_bytes T ρ) head

unfoldable pub changed_state : Bytes → Bytes → Change → Tables → Rule → Answer
changed_state head rule c T ρ =
    unless_refused (change_refusal T c) (parts (verdict_after head rule (changed T c) ρ) rule (encode (changed T c)))

-- A call that asks for the change c of the state s, but for 17: the state is read, and then the change is looked at.
unfoldable pub stepped : Bytes → Change → Answer
stepped s c = cond (is_cut s) (refused CutShort) (of_texts (tables_in s) (rule_in s) (λ T ρ. changed_state (verdict_in s) (rule_in s) c T ρ))
