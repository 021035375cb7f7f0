-- Document 01, "Verdict" and "Turned back": what judging answers, as fields and as the 26 bytes that are written.
-- Assumes nothing.
use Rattle.std.specs.Prelude.{◌≡◌, Bool, true, false, cond, List, [], ◌∷◌, ◌++◌, ℕ, eqb, ltb, length}
use Rattle.std.proofs.Math.Option.{Option, none, some}
use Rattle.answers.specs.Answer.{Answer, refused, wrote, number_or_zero}
use Rattle.answers.specs.declared.Refusal.{Refusal}
use Rattle.answers.specs.declared.Refusal.TheVariants.{NotARule, NotAnOrder}
use Rattle.tables.specs.Tables.{Tables}
use Rattle.tables.specs.Bytes.{lowest_first}
use Rattle.tables.specs.Reading.{Reading, rejected, taken, tables_of}
use Rattle.syntax.specs.Bytes.{Bytes}
use Rattle.syntax.specs.Rule.{Rule, rule_vars, rule_of}
use Rattle.rules.specs.Accept.{refusal}
use Rattle.walks.specs.Choices.{nothing_chosen, count_full, each, if_breaks}
use Rattle.walks.specs.Walk.{walk_first, choice_bytes}
use Rattle.walks.specs.Order.{variables_of, is_order, up_from}
use Rattle.walks.specs.Share.{share_of}
use Rattle.values.specs.Sets.{items_of, in_set, names, breaks}
use Rattle.verdicts.specs.declared.Outcome.{Outcome}
use Rattle.verdicts.specs.declared.Outcome.TheVariants.{Refused, Held, Idle, Broken}
use Rattle.verdicts.specs.declared.Verdict.{Verdict}

-- "When an answer is an enum, a definition gives this paper's number and values for each of its cases": the refusal, if it is one, and its
-- number ("An accepted input has number 0"),
abbrev pub refusal_in : Outcome → Option Refusal
refusal_in (Refused e) = some e
refusal_in Held = none
refusal_in Idle = none
refusal_in Broken = none

abbrev pub verdict_number : Outcome → ℕ
verdict_number o = number_or_zero (refusal_in o)

-- and the verdict's word, "0 held, 1 idle or 2 broken"; a refusal has none of them.
abbrev pub word_number : Outcome → ℕ
word_number (Refused e) = 255
word_number Held = 0
word_number Idle = 1
word_number Broken = 2

-- The verdict r has the number, the word and the values of v.
pub record Gives (v r : Verdict) : Type 0 where
  pub number : verdict_number r.outcome ≡ verdict_number v.outcome
  pub word : word_number r.outcome ≡ word_number v.outcome
  pub full : r.full ≡ v.full
  pub breaking : r.breaking ≡ v.breaking
  pub first : r.first ≡ v.first
  pub share : r.share ≡ v.share

-- "Broken: breaking above 0. Idle: full 0. Held: otherwise."
unfoldable pub outcome_of : ℕ → ℕ → Outcome
outcome_of full breaking = cond (ltb 0 breaking) Broken (cond (eqb full 0) Idle Held)

module _ (T : Tables) (ρ : Rule) where
  -- "full" and "breaking (full choices that make the rule false)", among the choices that give each variable one item of its sort: no order.
  unfoldable pub full_count : ℕ
  full_count = count_full (items_of T (rule_vars [] ρ)) (in_set T (rule_vars [] ρ)) each (length (rule_vars [] ρ)) nothing_chosen

  unfoldable pub breaking_count : ℕ
  breaking_count =
      count_full (items_of T (rule_vars [] ρ)) (in_set T (rule_vars [] ρ)) (if_breaks (breaks T (rule_vars [] ρ) ρ)) (length (rule_vars [] ρ)) nothing_chosen

  -- "the first breaking choice in that order"
  unfoldable pub first_breaking : List ℕ → Option (List ℕ)
  first_breaking order = walk_first 64 (in_set T (rule_vars [] ρ)) (breaks T (rule_vars [] ρ) ρ) order nothing_chosen

  -- "The verdict carries full, breaking .., the first breaking choice .. and share"
  unfoldable pub verdict_along : List ℕ → Verdict
  verdict_along order = record {
    outcome = outcome_of full_count breaking_count;
    full = full_count;
    breaking = breaking_count;
    first = choice_bytes (first_breaking order);
    share = share_of full_count breaking_count;
  }

-- "A refusal gives its number, .. counts 0, share 255 and choice all 255".
abbrev pub refused_by : Refusal → Verdict
refused_by e = record { outcome = Refused e; full = 0; breaking = 0; first = nothing_chosen; share = 255 }

-- 18: "not an order as above".
abbrev pub if_ordered : Bool → Verdict → Verdict
if_ordered true v = v
if_ordered false v = refused_by NotAnOrder

unfoldable pub order_verdict : Tables → Rule → Bytes → Verdict
order_verdict T ρ order =
    if_ordered (is_order (names (rule_vars [] ρ)) (length (rule_vars [] ρ)) (variables_of order)) (verdict_along T ρ (variables_of order))

-- An accepted rule is a rule.
unfoldable pub tree_verdict : Tables → Option Rule → Bytes → Verdict
tree_verdict T none order = refused_by NotARule
tree_verdict T (some ρ) order = order_verdict T ρ order

unfoldable pub accepted_verdict : Tables → Option Refusal → Bytes → Bytes → Verdict
accepted_verdict T (some e) rule order = refused_by e
accepted_verdict T none rule order = tree_verdict T (rule_of rule) order

-- "The order is 1, 2, ..": one byte for each variable; no rule, no variables.
unfoldable pub turn_order : Option Rule → Bytes
turn_order none = []
turn_order (some ρ) = up_from 1 (length (rule_vars [] ρ))

unfoldable pub turn_verdict : Tables → Bytes → Verdict
turn_verdict T rule = accepted_verdict T (refusal rule) rule (turn_order (rule_of rule))

-- "Judging checks tables, rule, order."
unfoldable pub tables_verdict : Reading → Bytes → Bytes → Verdict
tables_verdict (rejected e) rule order = refused_by e
tables_verdict (taken T) rule order = accepted_verdict T (refusal rule) rule order

unfoldable pub verdict_of : Bytes → Bytes → Bytes → Verdict
verdict_of tables rule order = tables_verdict (tables_of tables) rule order

-- "a verdict is written as 26 bytes (L is 26): 0 held, 1 idle or 2 broken; full and breaking as words; the choice; share"
unfoldable pub written : ℕ → Verdict → Bytes
written word v = word ∷ (lowest_first 8 v.full ++ (lowest_first 8 v.breaking ++ (v.first ++ (v.share ∷ []))))

-- What is written of an accepted rule on accepted tables along an order.
abbrev pub verdict_bytes : Tables → Rule → Bytes → Bytes
verdict_bytes T ρ order = written (word_number (outcome_of (full_count T ρ) (breaking_count T ρ))) (verdict_along T ρ (variables_of order))

-- A refusal, or the verdict's bytes.
abbrev pub unless_refused : Option Refusal → Bytes → Answer
unless_refused (some e) b = refused e
unless_refused none b = wrote b

unfoldable pub answer_by : Outcome → Verdict → Answer
answer_by o v = unless_refused (refusal_in o) (written (word_number o) v)

abbrev pub answered : Verdict → Answer
answered v = answer_by v.outcome v

-- What judging answers before the lent output is looked at: "There 17 follows 18."
unfoldable pub judged : Bytes → Bytes → Bytes → Answer
judged tables rule order = answered (verdict_of tables rule order)
