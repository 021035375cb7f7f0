-- Document 01, "Proved examples": "These stand as one table, proved with one lemma." The table is in specs/Examples.
-- Assumes nothing.
use mathlib.Core.Path.{◌≡◌, refl, ap, ◌∙◌}
use mathlib.Core.Bool.{Bool, true, false, ◌&&◌}
use mathlib.Core.List.{List, [], ◌∷◌}
use mathlib.Core.Option.{Option, none, some}
use Prim.Native.Nat.{◌≤◌}
use lib.Dec.{eqb}
use lib.ListN.{length}
use borrow.Author.Tests.{eqb-true}
use Rattle.words.specs.Words.{has as has_item, word_of, any_to, count_to, size_of, all_of, item_of, meet_of, join_of, less_of}
use Rattle.words.specs.Relations.{reach}
use Rattle.words.proofs.WordsLaws.{and-true}
use Rattle.answers.specs.Refusal.{number_of}
use Rattle.answers.specs.Answer.{Answer, refused, wrote}
use Rattle.answers.specs.declared.Refusal.TheVariants.{NoRulesFormula}
use Rattle.answers.proofs.AnswerLaws.{same_number}
use Rattle.tables.specs.Tables.{Tables, present_in}
use Rattle.tables.specs.Bytes.{lowest_first}
use Rattle.tables.specs.Checks.{all_to, withdrawn, leavers_gone, reflexive, transitive, antisymmetric, rank_steps, failing_from, rank_step, ranked, in_reach, apart, late_checks, first_failing}
use Rattle.tables.specs.Reading.{next as next_read, refuse, front, byte, count as count_read, word_from, word_within, word_row, marked_row, user_row, permission_row, session_row, rows, section}
use Rattle.tables.specs.Reading.{permissions as permissions_read, rights, collections, sections, nothing_left, settle, whole as whole_read, taken, tables_of}
use Rattle.tables.proofs.FitsLaws.{accepted-passes}
use Rattle.tables.specs.Functions.{user_of_sessions, user_of_roles, roles_of_users, roles_of_sessions, roles_of_permissions}
use Rattle.syntax.specs.Bytes.{Bytes, next, skip, scan, either, same}
use Rattle.syntax.proofs.BytesLaws.{same_gives}
use Rattle.syntax.specs.Term.{b_u, base, Term≟, digit_from, named_from, spell, spell_middle, opening, parting, oe_text, ao_text, text, bracket_heads, call_heads, collection_heads}
use Rattle.syntax.specs.Term.{heads, middles, known, closed, second, inner, term_within, read_term}
use Rattle.syntax.specs.Rule.{is, empty, plain, last, Rule, spell_cmp, spell_between, digits, count_text, test_text, clause_text, rule_text, add, vars, count_vars}
use Rattle.syntax.specs.Rule.{test_vars, clause_vars, rule_vars, quantifiers, formula_with, formula, cmps, betweens, down, read_count, read_second}
use Rattle.syntax.specs.Rule.{read_test, read_clause, read_rule, read_formula, whole, rule_of, rule_of_formula}
use Rattle.rules.specs.Kind.{one_of, base_kind, takes, makes, of_element, call_kind, inside, one_kind, others_kind, as_set, joined, row, call2_kind, two_kind, kind}
use Rattle.rules.specs.Kind.{countable, is_member, count_kinds, test_kinds, clause_kinds, rule_kinds}
use Rattle.rules.specs.Accept.{deep, tree_refusal, refusal, accepted}
use Rattle.rules.proofs.AcceptLaws.{tree-few, accepted-rule}
use Rattle.formulas.specs.Formulas.{formula_of, reduced}
use Rattle.formulas.specs.Code.Rebuilding.{kept, rebuilt, rebuilt_answer}
use Rattle.formulas.proofs.RebuildLaws.{none_true, rebuilt-answer}
use Rattle.walks.specs.Choices.{nothing_chosen, each, if_breaks, sum_to}
use Rattle.walks.specs.Walk.{walk, walk_first, first_to, choice_bytes}
use Rattle.walks.specs.Order.{variables_of, is_small, count, is_once, is_free, is_after, is_order}
use Rattle.walks.specs.Share.{is_nearest, nearest_to, share_of}
use Rattle.walks.proofs.OrderLaws.{order-admissible}
use Rattle.values.specs.Items.{sort_items, kind_items}
use Rattle.values.specs.Values.{of_sort, call_value, call2_value, op_value, two_value, variable_of, one_value, value}
use Rattle.values.specs.Truth.{compared, signed, count_value, test_true, clause_true, rule_true}
use Rattle.values.specs.Sets.{in_set, names_in, names, breaks}
use Rattle.values.proofs.BoundLaws.{accepted-within}
use Rattle.verdicts.specs.declared.Verdict.{Verdict}
use Rattle.verdicts.specs.Verdict.{outcome_of, first_breaking, verdict_along, if_ordered, order_verdict, tree_verdict, accepted_verdict, tables_verdict}
use Rattle.verdicts.specs.Verdict.{verdict_of, written, answer_by, answered, judged}
use Rattle.judging.specs.Code.Lent.{InSorts}
use Rattle.verdicts.proofs.VerdictLaws.{walk-full, walk-breaking}
use Rattle.rcl2000.specs.Examples.{bytes_t, Line, has, is_none, gives, Right, All, table}

-- Equal answers, as a test that computes.
abbrev alike : Answer → Answer → Bool
alike (refused d) (refused e) = eqb (number_of d) (number_of e)
alike (refused d) (wrote b) = false
alike (wrote a) (refused e) = false
alike (wrote a) (wrote b) = same a b

alike_same : (a b : Answer) → alike a b ≡ true → a ≡ b
alike_same (refused d) (refused e) q = ap refused (same_number d e (eqb-true (number_of d) (number_of e) q))
alike_same (refused d) (wrote b) q = cc
alike_same (wrote a) (refused e) q = cc
alike_same (wrote a) (wrote b) q = ap wrote (same_gives a b q)

-- What reading T gives.
abbrev tables_t : Tables
tables_t = record {
  role_rows = 1 ∷ 2 ∷ [];
  users = record { present = true; assigned = 3 } ∷ record { present = true; assigned = 1 } ∷ [];
  sessions = [];
  operation_count = 0;
  object_count = 0;
  permission_rows = [];
  cr = 3 ∷ [];
  cu = [];
  cp = [];
  done = [];
}

reads-T : tables_of bytes_t ≡ taken tables_t
unfolding next_read refuse front byte count_read word_from word_within word_row marked_row user_row permission_row session_row rows section permissions_read rights collections sections nothing_left settle whole_read tables_of late_checks first_failing leavers_gone withdrawn all_to reflexive transitive antisymmetric rank_steps failing_from rank_step ranked in_reach apart has_item
reads-T = refl

-- By the walk, which computes, and not by the count over all choices.
module _ (ρ : Rule) (order : Bytes) where
  abbrev walked : Verdict
  walked =
      let full = walk 64 (in_set tables_t (rule_vars [] ρ)) each (variables_of order) nothing_chosen in
      let breaking = walk 64 (in_set tables_t (rule_vars [] ρ)) (if_breaks (breaks tables_t (rule_vars [] ρ) ρ)) (variables_of order) nothing_chosen in
      record {
        outcome = outcome_of full breaking;
        full = full;
        breaking = breaking;
        first = choice_bytes (walk_first 64 (in_set tables_t (rule_vars [] ρ)) (breaks tables_t (rule_vars [] ρ) ρ) (variables_of order) nothing_chosen);
        share = share_of full breaking;
      }

  abbrev ordered : Bool
  ordered = is_order (names (rule_vars [] ρ)) (length (rule_vars [] ρ)) (variables_of order)

  by-walk : length (rule_vars [] ρ) ≤ 8 → InSorts tables_t ρ → order_verdict tables_t ρ order ≡ if_ordered ordered walked
  unfolding order_verdict verdict_along first_breaking
  by-walk few sorts = go ordered refl
    where
      go : (t : Bool) → ordered ≡ t → if_ordered t (verdict_along tables_t ρ (variables_of order)) ≡ if_ordered t walked
      go true ok =
          let a = (order-admissible (names (rule_vars [] ρ)) (length (rule_vars [] ρ)) (variables_of order)).0 ok in
          rw (walk-full tables_t ρ few sorts (variables_of order) a, walk-breaking tables_t ρ few sorts (variables_of order) a)
      go false ok = refl

-- The tree of an accepted text.
abbrev tree_of : Option Rule → Rule
tree_of (some ρ) = ρ
tree_of none = last (plain (empty is (base b_u)))

on-T : (rule order : Bytes) → accepted rule ≡ true → judged bytes_t rule order ≡ answered (if_ordered (ordered (tree_of (rule_of rule)) order) (walked (tree_of (rule_of rule)) order))
unfolding judged verdict_of tables_verdict accepted_verdict tree_verdict
on-T rule order h =
    let r = none_true (refusal rule) h in
    let (ρ, t, fits) = accepted-rule rule r in
    let v = by-walk ρ order (tree-few ρ fits) (accepted-within tables_t (accepted-passes bytes_t reads-T) rule ρ r t) in
    rw (reads-T, r, t, v)

-- Whether a line is right, as a test that computes.
abbrev right : Line → Bool
right (has rule f) = alike (reduced rule) (wrote f) && alike (rebuilt_answer f) (wrote rule)
right (is_none f) = alike (rebuilt_answer f) (refused NoRulesFormula)
right (gives rule order a) = accepted rule && alike (answered (if_ordered (ordered (tree_of (rule_of rule)) order) (walked (tree_of (rule_of rule)) order))) a

abbrev all_right : List Line → Bool
all_right [] = true
all_right (l ∷ ls) = right l && all_right ls

-- THE LEMMA: a line that the test finds right is right.
by-test : (l : Line) → right l ≡ true → Right l
by-test (has rule f) q =
    let (a, b) = and-true (alike (reduced rule) (wrote f)) (alike (rebuilt_answer f) (wrote rule)) q in
    (alike_same (reduced rule) (wrote f) a, rw (alike_same (rebuilt_answer f) (wrote rule) b) at (rebuilt-answer f))
by-test (is_none f) q = rw (alike_same (rebuilt_answer f) (refused NoRulesFormula) q) at (rebuilt-answer f)
by-test (gives rule order a) q =
    let (h, b) = and-true (accepted rule) (alike (answered (if_ordered (ordered (tree_of (rule_of rule)) order) (walked (tree_of (rule_of rule)) order))) a) q in
    on-T rule order h ∙ alike_same _ a b

all_right_lem : (ls : List Line) → all_right ls ≡ true → All ls
all_right_lem [] q = tt
all_right_lem (l ∷ ls) q =
    let (a, b) = and-true (right l) (all_right ls) q in
    (by-test l a, all_right_lem ls b)

-- Opening this opens all that the examples compute with.
unfoldable everything : Unit {0}
unfolding next skip scan either same Term≟ digit_from named_from spell spell_middle opening parting oe_text ao_text text bracket_heads call_heads collection_heads heads middles known closed second inner term_within read_term spell_cmp spell_between digits count_text test_text clause_text rule_text add vars count_vars test_vars clause_vars rule_vars quantifiers formula_with formula cmps betweens down read_count read_second read_test read_clause read_rule read_formula whole rule_of rule_of_formula formula_of kept rebuilt reduced rebuilt_answer one_of base_kind takes makes of_element call_kind inside one_kind others_kind as_set joined row call2_kind two_kind kind countable is_member count_kinds test_kinds clause_kinds rule_kinds deep tree_refusal refusal sum_to walk walk_first first_to variables_of is_small count is_once is_free is_after is_order is_nearest nearest_to share_of present_in sort_items kind_items of_sort call_value call2_value op_value two_value variable_of one_value value compared signed count_value test_true clause_true rule_true names_in outcome_of lowest_first written answer_by has_item word_of any_to count_to size_of all_of item_of meet_of join_of less_of reach user_of_sessions user_of_roles roles_of_users roles_of_sessions roles_of_permissions
everything = tt

pub examples : All table
unfolding everything
examples = all_right_lem table refl
