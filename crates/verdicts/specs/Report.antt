-- What a verdict says of accepted tables, an accepted rule and an admissible order (document 01, "Verdict"; the third demand), of its
-- fields and of the 26 bytes. Assumes nothing.
use Rattle.std.specs.Prelude.{◌≡◌, [], ◌++◌, ◌↔◌, ℕ, ◌<◌, length, get_or, take, drop}
use Rattle.std.proofs.Math.Option.{none, some}
use Rattle.answers.specs.declared.Refusal.{Refusal}
use Rattle.tables.specs.Tables.{Tables}
use Rattle.tables.specs.Reading.{rejected, taken, tables_of, word_from}
use Rattle.syntax.specs.Bytes.{Bytes}
use Rattle.syntax.specs.Rule.{Rule, rule_vars, rule_of}
use Rattle.rules.specs.Accept.{refusal}
use Rattle.walks.specs.Choices.{nothing_chosen}
use Rattle.walks.specs.Order.{variables_of}
use Rattle.walks.specs.Meaning.{Admissible, FirstBreaking}
use Rattle.walks.specs.Share.{IsShare}
use Rattle.values.specs.Sets.{items_of, in_set, names, breaks}
use Rattle.verdicts.specs.declared.Verdict.{Verdict}
use Rattle.verdicts.specs.Verdict.{verdict_number, word_number, full_count, breaking_count}

-- "An order lists the variable numbers, one byte each, once each, every variable after those its set names."
abbrev pub OrderOf : Rule → Bytes → Type 0
OrderOf ρ order = Admissible (names (rule_vars [] ρ)) (length (rule_vars [] ρ)) (variables_of order)

-- "the first breaking choice in that order (8 bytes by variable number, 255 where unused ..)": a choice of items of the sorts, full, under
-- which the rule is false, and no such choice comes earlier in the order.
abbrev pub FirstOf : Tables → Rule → Bytes → Bytes → Type 0
FirstOf T ρ order d =
    FirstBreaking (items_of T (rule_vars [] ρ)) (length (rule_vars [] ρ)) (in_set T (rule_vars [] ρ)) (breaks T (rule_vars [] ρ) ρ) (variables_of order) nothing_chosen d

-- "the verdict's two counts are the order-free counts for every admissible order", and "broken / idle / held exactly as the counts say".
pub record Reports (T : Tables) (ρ : Rule) (order : Bytes) (word full breaking : ℕ) (first : Bytes) (share : ℕ) : Type 0 where
  pub fulls : full ≡ full_count T ρ
  pub breakings : breaking ≡ breaking_count T ρ
  pub broken : (word ≡ 2) ↔ (0 < breaking)  -- "Broken: breaking above 0."
  pub idle : (word ≡ 1) ↔ (full ≡ 0)  -- "Idle: full 0."
  pub held : (word ≡ 0) ↔ ((0 < full) × (breaking ≡ 0))  -- "Held: otherwise."
  pub found : 0 < breaking → FirstOf T ρ order first
  pub unfound : breaking ≡ 0 → first ≡ nothing_chosen  -- "255 where unused or none"
  pub shared : IsShare full breaking share  -- document 02, N7

-- The same of the fields of `Verdict`: "An accepted input has number 0."
abbrev pub ReportsBy : Tables → Rule → Bytes → Verdict → Type 0
ReportsBy T ρ order v =
    (verdict_number v.outcome ≡ 0) × Reports T ρ order (word_number v.outcome) v.full v.breaking v.first v.share

-- And of bytes, "a verdict is written as 26 bytes ..: 0 held, 1 idle or 2 broken; full and breaking as words; the choice; share": byte 0,
-- bytes 1 to 8 and 9 to 16 as words, bytes 17 to 24, byte 25.
abbrev pub ReportsIn : Tables → Rule → Bytes → Bytes → Type 0
ReportsIn T ρ order b =
    Reports T ρ order (get_or b 0 255) (word_from (take 8 (drop 1 b))) (word_from (take 8 (drop 9 b))) (take 8 (drop 17 b)) (get_or b 25 0)

-- The last of the bytes b is the share of the two words, full and breaking, and no other number is.
abbrev pub SharesIn : Bytes → Type 0
SharesIn b = (s : ℕ) → IsShare (word_from (take 8 (drop 1 b))) (word_from (take 8 (drop 9 b))) s ↔ (s ≡ get_or b 25 0)

-- b are 26 bytes that report so, whatever stands behind them in the lent output.
pub record Told (T : Tables) (ρ : Rule) (order b : Bytes) : Type 0 where
  pub long : length b ≡ 26
  pub reports : (rest : Bytes) → ReportsIn T ρ order (b ++ rest)

-- The tables are accepted as T, the rule is accepted as ρ, and the order is one of its variables.
pub record Admitted (tables rule order : Bytes) (T : Tables) (ρ : Rule) : Type 0 where
  pub reads : tables_of tables ≡ taken T
  pub accepts : refusal rule ≡ none
  pub tree : rule_of rule ≡ some ρ
  pub ordered : OrderOf ρ order

-- "Judging checks tables, rule, order": what it meets first, and where nothing refuses the input is admitted.
pub data Met (tables rule order : Bytes) : Type 0 where
  bad_tables : (e : Refusal) → tables_of tables ≡ rejected e → Met tables rule order
  bad_rule : (T : Tables) (e : Refusal) → tables_of tables ≡ taken T → refusal rule ≡ some e → Met tables rule order
  bad_order : (T : Tables) (ρ : Rule) → tables_of tables ≡ taken T → refusal rule ≡ none → rule_of rule ≡ some ρ → (OrderOf ρ order → ⊥)
      → Met tables rule order
  good : (T : Tables) (ρ : Rule) → Admitted tables rule order T ρ → Met tables rule order
