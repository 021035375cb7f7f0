-- What judging is told by the words of the tables and a parsed rule, and what it says of them.
-- Internal: contracts of entry points do not speak of it. Assumes nothing.
use Rattle.std.specs.Prelude.{◌≡◌, List, ℕ, length, Result}
use Rattle.std.proofs.Math.Option.{some}
use Rattle.answers.specs.declared.Refusal.{Refusal}
use Rattle.answers.specs.Answer.{Answer, lent}
use Rattle.answers.specs.Written.{Answers}
use Rattle.answers.specs.Written.{Written}
use Rattle.tables.specs.Tables.{Tables}
use Rattle.tables.specs.Reading.{taken}
pub use Rattle.tables.specs.Code.Loaded.{TablesAt, Loaded}
use Rattle.syntax.specs.Bytes.{Bytes}
use Rattle.syntax.specs.Rule.{Rule, rule_of}
use Rattle.rules.specs.Accept.{refusal}
use Rattle.rules.specs.declared.Parsed.{Parsed}
pub use Rattle.rules.specs.Code.Parsed.{ParsedFrom}
use Rattle.rules.specs.Code.Parsed.{Parses}
use Rattle.walks.specs.declared.Tally.{Tally}
use Rattle.walks.specs.Share.{share_of}
use Rattle.judging.specs.Code.Lent.{CaseBy}
use Rattle.verdicts.specs.Verdict.{outcome_of, full_count, breaking_count, order_verdict, accepted_verdict, turn_verdict}
use Rattle.verdicts.specs.Both.{of_both}
use Rattle.verdicts.specs.declared.Verdict.{Verdict}

-- The verdict of a tally.
abbrev pub ruled_by : Tally → Verdict
ruled_by a = record {
  outcome = outcome_of a.full a.breaking;
  full = a.full;
  breaking = a.breaking;
  first = a.first;
  share = share_of a.full a.breaking;
}

-- The parsed rule is that of some text.
pub record SomeRule (p : Parsed) : Type 0 where
  pub text : Bytes
  pub parses : ParsedFrom text p

-- What parsing gave is the answer to some text.
pub record SomeText (w : Result Parsed Refusal) : Type 0 where
  pub text : Bytes
  pub parses : Parses text w

-- Whatever tables the words hold, these are the counts of the text's rule, if it is one.
abbrev pub KnownCounts : List ℕ → Bytes → ℕ → ℕ → Type 0
KnownCounts ts rule full breaking =
    (T : Tables) → TablesAt ts T → (κ : Rule) → rule_of rule ≡ some κ → (full ≡ full_count T κ) × (breaking ≡ breaking_count T κ)

-- Whatever tables and rule the slices hold, the verdict r is that of the order.
abbrev pub RulesOn : List ℕ → Parsed → List ℕ → Verdict → Type 0
RulesOn ts p order r = (T : Tables) (ρ : Rule) → CaseBy ts p T ρ → r ≡ order_verdict T ρ order

-- Whatever tables the words hold, the verdict r is that of the rule along the order; along 1, 2, ..; of what parsing gave, whatever text it answers.
abbrev pub JudgesOn : List ℕ → Bytes → Bytes → Verdict → Type 0
JudgesOn ts rule order r = (T : Tables) → TablesAt ts T → r ≡ accepted_verdict T (refusal rule) rule order

abbrev pub JudgesInTurn : List ℕ → Bytes → Verdict → Type 0
JudgesInTurn ts rule r = (T : Tables) → TablesAt ts T → r ≡ turn_verdict T rule

abbrev pub JudgesParsed : List ℕ → Result Parsed Refusal → Bytes → Verdict → Type 0
JudgesParsed ts w order r = (rule : Bytes) → Parses rule w → JudgesOn ts rule order r

-- Whatever tables the words hold, that is what f answers of them and of the rule, which may be refused.
abbrev pub AnswersOn : List ℕ → Bytes → (Tables → Rule → Answer) → Bytes → Bytes → Written → Type 0
AnswersOn ts rule f old new w = (T : Tables) → TablesAt ts T → Answers (lent (length old) (of_both (taken T) (refusal rule) (rule_of rule) f)) old new w
