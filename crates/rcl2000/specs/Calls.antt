-- What the tracker sees of its calls: the number that a call returns, and the lent bytes before (old) and after it (new).
-- Assumes nothing.
use Rattle.std.specs.Prelude.{◌≡◌, true, false, [], ◌⊎◌, ℕ, suc, ◌+◌, ◌*◌, ◌≤◌, ◌<◌, length, get_or, take, drop}
use Rattle.std.proofs.Math.Option.{none, some}
use Rattle.std.proofs.Math.ListN.{get_elem?}
use Rattle.answers.specs.Refusal.{number_of}
use Rattle.answers.specs.Answer.{Answer, wrote, lent, reply, output_after}
use Rattle.answers.specs.declared.Refusal.{Refusal}
use Rattle.answers.specs.declared.Refusal.TheVariants.{CutShort, Rank, NoRulesFormula, ShortSheet, NotAnOrder, Page, Left, FullHouse, NotOpen, Reader}
use Rattle.tables.specs.Tables.{Tables}
use Rattle.tables.specs.Checks.{reflexive, transitive, antisymmetric}
use Rattle.tables.specs.Encode.{encode}
use Rattle.tables.specs.Leavers.{LeaverRemains}
use Rattle.tables.specs.Reading.{took, sections, rejected, taken, tables_of, rank_step_of, word_from}
use Rattle.texts.specs.Pieces.{lines}
use Rattle.syntax.specs.Bytes.{Bytes}
use Rattle.syntax.specs.Rule.{Rule, rule_vars, formula, rule_of}
use Rattle.rules.specs.Accept.{refusal}
use Rattle.formulas.specs.Formulas.{RuleOf, reduced, Rebuilds}
use Rattle.values.specs.Sets.{TakesPresent}
use Rattle.values.specs.Ceiling.{ceiling_of}
use Rattle.verdicts.specs.Verdict.{word_number, turn_order, judged}
use Rattle.verdicts.specs.Report.{OrderOf, ReportsIn, Admitted}
use Rattle.verdicts.specs.Both.{Given}
use Rattle.forecasts.specs.Forecast.{forecast_size, forecast_of}
use Rattle.changes.specs.declared.Change.{Change}
use Rattle.changes.specs.declared.Change.TheVariants.{Opening, Closing}
use Rattle.changes.specs.Change.{changed, change_refusal}
use Rattle.sessions.specs.State.{started, rule_in, tables_in, is_cut, stepped}
use Rattle.sheets.specs.Sheet.{sheet_of, sheet_line}
use Rattle.readers.specs.Reader.{reader_sheet, Beyond, reader_line}
use Rattle.pages.specs.Page.{PageAnswer, page_of, page_lent, page_reply, page_after, walks_of, verdicts_on, page_outcome, full_sum, breaking_sum}
use Rattle.pages.specs.Met.{Sized, FirstRefused, PageAdmitted}

-- A call that answers a: "Calls from the tracker return one number: L, or 65,536 × the refusal number"; "lent bytes keep their contents.
-- Success writes the first L bytes, returns L, keeps the rest."
pub record Sees (a : Answer) (old new : Bytes) (r : ℕ) : Type 0 where
  pub number : r ≡ reply (lent (length old) a)
  pub bytes : new ≡ output_after (lent (length old) a) old

-- r and new are what `reduce` gives for a rule,
abbrev pub Reduces : Bytes → Bytes → Bytes → ℕ → Type 0
Reduces rule old new r = Sees (reduced rule) old new r

-- `judge` for tables, a rule and an order,
abbrev pub Judges : Bytes → Bytes → Bytes → Bytes → Bytes → ℕ → Type 0
Judges tables rule order old new r = Sees (judged tables rule order) old new r

-- and `rebuild` for a formula.
pub record GivesBack (formula old new : Bytes) (r : ℕ) : Type 0 where
  pub answer : Answer
  pub rebuilds : Rebuilds formula answer
  pub sees : Sees answer old new r

-- The call refused by e: its number and no result, and every lent byte as it was.
pub record Refuses (e : Refusal) (old new : Bytes) (r : ℕ) : Type 0 where
  pub number : r ≡ 65536 * number_of e
  pub kept : new ≡ old

-- The call wrote the text w: its length is the number, w are the first bytes, and the rest is as it was.
pub record Writes (w old new : Bytes) (r : ℕ) : Type 0 where
  pub number : r ≡ length w
  pub below : r < 65536
  pub front : take r new ≡ w
  pub kept : drop r new ≡ drop r old
  pub same : length new ≡ length old

-- Each call has its own numbers. Tables are refused by 1 to 10 and by 20, rules by 11 to 15;
abbrev pub OfTables : ℕ → Type 0
OfTables n = ((1 ≤ n) × (n ≤ 10)) ⊎ (n ≡ number_of Left)

abbrev pub OfRules : ℕ → Type 0
OfRules n = (11 ≤ n) × (n ≤ 15)

abbrev pub OfBoth : ℕ → Type 0
OfBoth n = OfTables n ⊎ OfRules n

-- beside what they are handed, the calls refuse by 17, and some by a number of their own.
abbrev pub ReduceNumber : ℕ → Type 0
ReduceNumber n = OfRules n ⊎ (n ≡ number_of ShortSheet)

abbrev pub RebuildNumber : ℕ → Type 0
RebuildNumber n = (n ≡ number_of NoRulesFormula) ⊎ (n ≡ number_of ShortSheet)

abbrev pub BothNumber : ℕ → Type 0
BothNumber n = OfBoth n ⊎ (n ≡ number_of ShortSheet)

abbrev pub BesidesNumber : Refusal → ℕ → Type 0
BesidesNumber e n = BothNumber n ⊎ (n ≡ number_of e)

-- "finishes with an answer or a numbered refusal", by a number of the call's
pub data Ends (Number : ℕ → Type 0) (old new : Bytes) (r : ℕ) : Type 0 where
  answers : (w : Bytes) → Writes w old new r → Ends Number old new r
  refuses : (e : Refusal) → Number (number_of e) → Refuses e old new r → Ends Number old new r

-- Where a call refuses, and by which refusal, n bytes of output lent.

-- "Rules are checked 11 to 15 in order; 17 follows 15": 17 where the rule is accepted and its formula is longer.
pub data ReduceRefuses (rule : Bytes) (n : ℕ) : Refusal → Type 0 where
  rule_refused : {e : Refusal} → refusal rule ≡ some e → ReduceRefuses rule n e
  formula_longer : {f : Bytes} → RuleOf f rule → n < length f → ReduceRefuses rule n ShortSheet

-- "or 16 when rebuilding": 16 where "no accepted rule has this formula", 17 where one has and is longer.
pub data RebuildRefuses (f : Bytes) (n : ℕ) : Refusal → Type 0 where
  no_rule : ((rule : Bytes) → RuleOf f rule → ⊥) → RebuildRefuses f n NoRulesFormula
  rule_longer : {rule : Bytes} → RuleOf f rule → n < length rule → RebuildRefuses f n ShortSheet

-- "Judging checks tables, rule, order"; "There 17 follows 18", and "L is 26".
pub data JudgeRefuses (tables rule order : Bytes) (n : ℕ) : Refusal → Type 0 where
  tables_refused : {e : Refusal} → tables_of tables ≡ rejected e → JudgeRefuses tables rule order n e
  judged_refused : {T : Tables} {e : Refusal} → tables_of tables ≡ taken T → refusal rule ≡ some e → JudgeRefuses tables rule order n e
  order_refused : {T : Tables} {ρ : Rule} → tables_of tables ≡ taken T → refusal rule ≡ none → rule_of rule ≡ some ρ → (OrderOf ρ order → ⊥)
      → JudgeRefuses tables rule order n NotAnOrder
  verdict_longer : {T : Tables} {ρ : Rule} → Admitted tables rule order T ρ → n < 26 → JudgeRefuses tables rule order n ShortSheet

-- "any sheet long enough" for the formula of a rule.
abbrev pub LongEnough : Bytes → Bytes → Type 0
LongEnough rule old = (f : Bytes) → RuleOf f rule → length f ≤ length old

-- The lent bytes after a verdict was written: the first 26 report it, and the rest is as it was.
pub record Reported (T : Tables) (ρ : Rule) (order old new : Bytes) : Type 0 where
  pub reports : ReportsIn T ρ order new
  pub kept : drop 26 new ≡ drop 26 old
  pub same : length new ≡ length old

-- DOCUMENT 02, N3. A call for a page that answers a: the number is L, or 65,536 × the refusal number + the position.
pub record SeesPage (a : PageAnswer) (old new : Bytes) (r : ℕ) : Type 0 where
  pub number : r ≡ page_reply (page_lent (length old) a)
  pub bytes : new ≡ page_after (page_lent (length old) a) old

-- r and new are what `judge_page` gives for tables and a page.
abbrev pub JudgesPage : Bytes → Bytes → Bytes → Bytes → ℕ → Type 0
JudgesPage tables page old new r = SeesPage (page_of tables page) old new r

-- The page is refused by e at the position p: its number, and every lent byte as it was; no counts, no walks, no lines.
pub record RefusesPage (e : Refusal) (p : ℕ) (old new : Bytes) (r : ℕ) : Type 0 where
  pub number : r ≡ 65536 * number_of e + p
  pub place : p ≤ 32
  pub kept : new ≡ old

-- "finishes with an answer or a numbered refusal"
pub data PageEnds (old new : Bytes) (r : ℕ) : Type 0 where
  answers_page : (w : Bytes) → Writes w old new r → PageEnds old new r
  refuses_page : (e : Refusal) (p : ℕ) → BesidesNumber Page (number_of e) → RefusesPage e p old new r → PageEnds old new r

-- A page of n lines takes as many bytes.
abbrev pub page_size : ℕ → ℕ
page_size n = 18 + 26 * n

-- "19 .. after the tables' checks and before any line's"; the "first refused line" with its position "counted from 1"; "Every other refusal has
-- position 0"; 17 after all others, where n bytes are lent.
pub data PageRefuses (tables page : Bytes) (n : ℕ) : Refusal → ℕ → Type 0 where
  page_tables : {e : Refusal} → tables_of tables ≡ rejected e → PageRefuses tables page n e 0
  page_unsized : {T : Tables} → tables_of tables ≡ taken T → (Sized (lines page) → ⊥) → PageRefuses tables page n Page 0
  page_line : {T : Tables} {k : ℕ} {e : Refusal} → tables_of tables ≡ taken T → Sized (lines page) → FirstRefused (lines page) k e
      → PageRefuses tables page n e (suc k)
  page_longer : {T : Tables} → PageAdmitted tables page T → n < page_size (length (lines page)) → PageRefuses tables page n ShortSheet 0

-- The lent bytes after a page was written: its word, its counts, "the number of walks made, which is that of different quantifier parts", and the
-- rest as it was.
pub record PageReported (T : Tables) (page old new : Bytes) : Type 0 where
  pub word : get_or new 0 255 ≡ word_number (page_outcome (verdicts_on T (lines page)))
  pub full : word_from (take 8 (drop 1 new)) ≡ full_sum (verdicts_on T (lines page))
  pub breaking : word_from (take 8 (drop 9 new)) ≡ breaking_sum (verdicts_on T (lines page))
  pub walks : get_or new 17 255 ≡ walks_of (lines page)
  pub kept : drop (page_size (length (lines page))) new ≡ drop (page_size (length (lines page))) old
  pub same : length new ≡ length old

-- "It carries each line's verdict, as when judged by itself, in the order 1, 2, ..": the 26 bytes of line j are those that `judge` writes for it.
abbrev pub AsJudged : Bytes → Bytes → Bytes → Type 0
AsJudged tables page new =
    (j : ℕ) (w : Bytes) → get_elem? (lines page) j ≡ some w → (old₂ new₂ : Bytes) (r₂ : ℕ) → 26 ≤ length old₂
    → Judges tables w (turn_order (rule_of w)) old₂ new₂ r₂ → (r₂ ≡ 26) × (take 26 (drop (page_size j) new) ≡ take 26 new₂)

-- DOCUMENT 02, N4. r is what `rank_step` gives for tables. It lends nothing and refuses nothing.
abbrev pub GivesStep : Bytes → ℕ → Type 0
GivesStep tables r = r ≡ rank_step_of tables

-- "where they are refused 7": the tables T that the bytes have, to their last byte, are refused so.
pub record RefusedRank (tables : Bytes) (T : Tables) : Type 0 where
  pub number : tables_of tables ≡ rejected Rank
  pub bytes : sections tables ≡ took T []

-- "gives the first step that fails, 1, 2 or 3, where they are refused 7, and 0 for all others."
pub data StepOf (tables : Bytes) : ℕ → Type 0 where
  other : (tables_of tables ≡ rejected Rank → ⊥) → StepOf tables 0
  not_reflexive : {T : Tables} → RefusedRank tables T → reflexive T.role_rows ≡ false → StepOf tables 1
  not_transitive : {T : Tables} → RefusedRank tables T → reflexive T.role_rows ≡ true → transitive T.role_rows ≡ false → StepOf tables 2
  not_antisymmetric : {T : Tables} → RefusedRank tables T → reflexive T.role_rows ≡ true → transitive T.role_rows ≡ true
      → antisymmetric T.role_rows ≡ false → StepOf tables 3

-- DOCUMENT 02, N5. r and new are what `forecast` gives for tables and a rule.
abbrev pub Forecasts : Bytes → Bytes → Bytes → Bytes → ℕ → Type 0
Forecasts tables rule old new r = Sees (forecast_of tables rule) old new r

-- "Refused tables and rules give document 01's numbers", the tables' first; 17 after all others, where n bytes are lent and `size` are to be written.
pub data BothRefuses (size : Tables → Rule → ℕ) (tables rule : Bytes) (n : ℕ) : Refusal → Type 0 where
  both_tables : {e : Refusal} → tables_of tables ≡ rejected e → BothRefuses size tables rule n e
  both_rule : {T : Tables} {e : Refusal} → tables_of tables ≡ taken T → refusal rule ≡ some e → BothRefuses size tables rule n e
  both_longer : {T : Tables} {ρ : Rule} → Given tables rule T ρ → n < size T ρ → BothRefuses size tables rule n ShortSheet

abbrev pub ForecastRefuses : Bytes → Bytes → ℕ → Refusal → Type 0
ForecastRefuses tables rule n e = BothRefuses (λ T ρ. forecast_size) tables rule n e

-- The first word of a forecast, and the second.
abbrev pub told_length : Bytes → ℕ
told_length new = word_from (take 8 new)

abbrev pub told_ceiling : Bytes → ℕ
told_ceiling new = word_from (take 8 (drop 8 new))

-- The lent bytes after a forecast was written: "the exact length of the formula", the "ceiling on full choices", and the rest as it was.
pub record Foretold (T : Tables) (ρ : Rule) (old new : Bytes) : Type 0 where
  pub size : told_length new ≡ length (formula ρ)
  pub most : told_ceiling new ≡ ceiling_of T (rule_vars [] ρ)
  pub kept : drop forecast_size new ≡ drop forecast_size old
  pub same : length new ≡ length old

-- DOCUMENT 02, N6. Where 20 is due, "after 10 and before 7": the bytes have all sections and nothing behind them, and something of a leaver remains.
pub record LeftBehind (tables : Bytes) : Type 0 where
  pub has : Tables
  pub reads : sections tables ≡ took has []
  pub remains : LeaverRemains has

-- Where the 26 bytes b of a verdict on ρ count a breaking choice, the one in bytes 17 to 24 takes no leaver.
abbrev pub NamesPresent : Tables → Rule → Bytes → Type 0
NamesPresent T ρ b = 0 < word_from (take 8 (drop 9 b)) → TakesPresent T ρ (take 8 (drop 17 b))

-- DOCUMENT 02, N9. r and new are what `sessions_start` gives for tables and a rule;
abbrev pub Starts : Bytes → Bytes → Bytes → Bytes → ℕ → Type 0
Starts tables rule old new r = Sees (started tables rule) old new r

-- what a call on the state s gives that asks for the change c: `session_open` for `Opening user roles`, `session_close` for `Closing number`.
abbrev pub Changes : Bytes → Change → Bytes → Bytes → ℕ → Type 0
Changes s c old new r = Sees (stepped s c) old new r

-- A state has 28 bytes, the rule and the tables.
abbrev pub state_size : Bytes → Tables → ℕ
state_size rule T = 28 + length rule + length (encode T)

abbrev pub StartRefuses : Bytes → Bytes → ℕ → Refusal → Type 0
StartRefuses tables rule n e = BothRefuses (λ T ρ. state_size rule T) tables rule n e

-- What is refused of any state, n bytes of output lent: "shorter than 28 or than 28 and the rule is 1", then the tables' own number, the rule's, the
-- change's, and 17.
pub data ChangeRefuses (s : Bytes) (c : Change) (n : ℕ) : Refusal → Type 0 where
  state_cut : is_cut s ≡ true → ChangeRefuses s c n CutShort
  state_tables : {e : Refusal} → is_cut s ≡ false → tables_of (tables_in s) ≡ rejected e → ChangeRefuses s c n e
  state_rule : {T : Tables} {e : Refusal} → is_cut s ≡ false → tables_of (tables_in s) ≡ taken T → refusal (rule_in s) ≡ some e → ChangeRefuses s c n e
  change_refused : {T : Tables} {ρ : Rule} {e : Refusal} → is_cut s ≡ false → Given (tables_in s) (rule_in s) T ρ → change_refusal T c ≡ some e
      → ChangeRefuses s c n e
  next_longer : {T : Tables} {ρ : Rule} → is_cut s ≡ false → Given (tables_in s) (rule_in s) T ρ → change_refusal T c ≡ none
      → n < state_size (rule_in s) (changed T c) → ChangeRefuses s c n ShortSheet

-- The numbers of a call on a state: an opening has 21 beside those of tables and rules, a closing 22.
abbrev pub ChangeNumber : Change → ℕ → Type 0
ChangeNumber (Opening u w) n = BesidesNumber FullHouse n
ChangeNumber (Closing k) n = BesidesNumber NotOpen n

-- DOCUMENT 02, N10. r and new are what `sheet_line` gives for tables, a reader's word w of users, rules and a place;
abbrev pub ListsLine : Bytes → ℕ → Bytes → ℕ → Bytes → Bytes → ℕ → Type 0
ListsLine tables w rules place old new r = Sees (reader_line tables w rules place) old new r

-- they are the line at that place of the day sheet of these tables.
abbrev pub DayLine : Bytes → Bytes → ℕ → Bytes → Bytes → ℕ → Type 0
DayLine tables rules place old new r = Sees (wrote (sheet_line (sheet_of tables rules) place)) old new r

-- "Refused tables give their number"; 23 "after the tables' checks and before the rules' length is looked at"; 17 where n bytes are lent and the line
-- is longer, so that there is one.
pub data LineRefuses (tables : Bytes) (w : ℕ) (rules : Bytes) (place n : ℕ) : Refusal → Type 0 where
  line_tables : {e : Refusal} → tables_of tables ≡ rejected e → LineRefuses tables w rules place n e
  line_reader : {T : Tables} → tables_of tables ≡ taken T → Beyond w T → LineRefuses tables w rules place n Reader
  line_longer : {T : Tables} → tables_of tables ≡ taken T → (Beyond w T → ⊥) → n < length (sheet_line (reader_sheet w T rules) place)
      → LineRefuses tables w rules place n ShortSheet

abbrev pub LineNumber : ℕ → Type 0
LineNumber n = OfTables n ⊎ ((n ≡ number_of Reader) ⊎ (n ≡ number_of ShortSheet))
