-- Tables on which every call has the same value, wherever the items of a choice are of their kinds: they have the same verdict, of every rule along
-- every order. Assumes nothing.
use mathlib.Core.Path.{◌≡◌, refl, sym, ap, ◌∙◌}
use mathlib.Core.Bool.{Bool, true, false}
use mathlib.Core.List.{List, []}
use mathlib.Core.Option.{Option, none, some}
use Prim.Native.Nat.{ℕ}
use lib.ListN.{length}
use Rattle.answers.specs.declared.Refusal.{Refusal}
use Rattle.words.specs.Words.{gate}
use Rattle.words.proofs.WordsLaws.{both}
use Rattle.tables.specs.Tables.{Tables}
use Rattle.tables.specs.Reading.{taken, tables_of}
use Rattle.tables.proofs.FitsLaws.{accepted-sound, accepted-passes}
use Rattle.functions.specs.Done.{with_done, SameRows, SameDone}
use Rattle.syntax.specs.Bytes.{Bytes}
use Rattle.syntax.specs.Rule.{Rule, rule_vars, rule_of}
use Rattle.rules.specs.Accept.{refusal}
use Rattle.walks.specs.Choices.{nothing_chosen, variables, full_on, each, if_breaks}
use Rattle.walks.specs.Walk.{choice_bytes}
use Rattle.walks.specs.Order.{variables_of, is_order}
use Rattle.walks.proofs.AlikeLaws.{counts-alike, first_alike}
use Rattle.walks.proofs.OrderLaws.{order-admissible}
use Rattle.values.specs.Sets.{in_set, names, breaks}
use Rattle.values.proofs.AlikeLaws.{Alike, full-there, breaks-there}
use Rattle.values.proofs.DoneLaws.{rows_alike}
use Rattle.verdicts.specs.Verdict.{full_count, breaking_count, first_breaking, verdict_along, if_ordered, order_verdict, tree_verdict, accepted_verdict, turn_order, turn_verdict}
use Rattle.verdicts.specs.Report.{OrderOf, Reports, Admitted}
use Rattle.verdicts.proofs.JudgedLaws.{few-variables, in-sorts}
use Rattle.verdicts.proofs.ReportLaws.{along-reports, reports-one}

-- Tables that are accepted, each from its bytes, and alike.
pub record Twins (b c : Bytes) (T U : Tables) : Type 0 where
  pub reads : tables_of b ≡ taken T
  pub others : tables_of c ≡ taken U
  pub there : Alike T U
  pub back : Alike U T

module _ {b c : Bytes} {T U : Tables} (t : Twins b c T U) (rule order : Bytes) where
  module _ (ρ : Rule) (e : refusal rule ≡ none) (h : rule_of rule ≡ some ρ) (o : OrderOf ρ order) where
    here : Admitted b rule order T ρ
    here = record { reads = t.reads; accepts = e; tree = h; ordered = o }

    yonder : Admitted c rule order U ρ
    yonder = record { reads = t.others; accepts = e; tree = h; ordered = o }

    abbrev many : ℕ
    many = length (rule_vars [] ρ)

    full-same : (d : List ℕ) → full_on (in_set T (rule_vars [] ρ)) (variables many) d ≡ full_on (in_set U (rule_vars [] ρ)) (variables many) d
    full-same d =
        both (full_on (in_set T (rule_vars [] ρ)) (variables many) d) (full_on (in_set U (rule_vars [] ρ)) (variables many) d)
        (full-there t.there (accepted-passes b t.reads) rule ρ e h d) (full-there t.back (accepted-passes c t.others) rule ρ e h d)

    breaks-same : (d : List ℕ) → full_on (in_set T (rule_vars [] ρ)) (variables many) d ≡ true → breaks T (rule_vars [] ρ) ρ d ≡ breaks U (rule_vars [] ρ) ρ d
    breaks-same d full = sym (breaks-there t.there (accepted-passes b t.reads) rule ρ e h d full)

    fulls : full_count T ρ ≡ full_count U ρ
    unfolding full_count
    fulls = counts-alike many (in-sorts here) (in-sorts yonder) full-same each each (λ d _. refl) nothing_chosen (few-variables here)

    breakings : breaking_count T ρ ≡ breaking_count U ρ
    unfolding breaking_count
    breakings =
        counts-alike many (in-sorts here) (in-sorts yonder) full-same (if_breaks (breaks T (rule_vars [] ρ) ρ)) (if_breaks (breaks U (rule_vars [] ρ) ρ))
        (λ d full. ap (λ (x : Bool). gate x 1) (breaks-same d full)) nothing_chosen (few-variables here)

    -- What is reported of the others is reported of these.
    told : {w f k s : ℕ} {d : Bytes} → Reports U ρ order w f k d s → Reports T ρ order w f k d s
    told r =
        record {
          fulls = r.fulls ∙ sym fulls;
          breakings = r.breakings ∙ sym breakings;
          broken = r.broken;
          idle = r.idle;
          held = r.held;
          found = λ above. first_alike many (in-sorts yonder) (in-sorts here) (λ d. sym (full-same d)) (λ d full. sym (breaks-same d (full-same d ∙ full))) (r.found above);
          unfound = r.unfound;
          shared = r.shared;
        }

    along-alike : verdict_along U ρ (variables_of order) ≡ verdict_along T ρ (variables_of order)
    unfolding verdict_along
    along-alike =
        let first : choice_bytes (first_breaking U ρ (variables_of order)) ≡ choice_bytes (first_breaking T ρ (variables_of order)) =
        sym (reports-one o (along-reports here) (told (along-reports yonder))).3 in
        rw (sym fulls, sym breakings, first)

  pub verdict-alike : accepted_verdict U (refusal rule) rule order ≡ accepted_verdict T (refusal rule) rule order
  unfolding accepted_verdict tree_verdict order_verdict
  verdict-alike = by-refusal (refusal rule) refl
    where
      by_order : (ρ : Rule) → refusal rule ≡ none → rule_of rule ≡ some ρ → (x : Bool) → is_order (names (rule_vars [] ρ)) (length (rule_vars [] ρ)) (variables_of order) ≡ x
          → if_ordered x (verdict_along U ρ (variables_of order)) ≡ if_ordered x (verdict_along T ρ (variables_of order))
      by_order ρ e h true q = along-alike ρ e h ((order-admissible (names (rule_vars [] ρ)) (length (rule_vars [] ρ)) (variables_of order)).0 q)
      by_order ρ e h false q = refl

      by-tree : refusal rule ≡ none → (x : Option Rule) → rule_of rule ≡ x → tree_verdict U x order ≡ tree_verdict T x order
      by-tree e none h = refl
      by-tree e (some ρ) h = by_order ρ e h (is_order (names (rule_vars [] ρ)) (length (rule_vars [] ρ)) (variables_of order)) refl

      by-refusal : (x : Option Refusal) → refusal rule ≡ x → accepted_verdict U x rule order ≡ accepted_verdict T x rule order
      by-refusal (some f) e = refl
      by-refusal none e = by-tree e (rule_of rule) refl

-- Along the order 1, 2, .. too.
pub turn-alike : {b c : Bytes} {T U : Tables} → Twins b c T U → (rule : Bytes) → turn_verdict U rule ≡ turn_verdict T rule
unfolding turn_verdict
turn-alike t rule = verdict-alike t rule (turn_order (rule_of rule))

-- Document 02, N8: tables that differ in the order of Done's rows, in repeats and in rows of leavers are alike.
pub done-twins : {b c : Bytes} → (s : SameDone b c) → Twins b c s.has (with_done s.has s.rows)
unfolding with_done
done-twins {b} {c} s =
    let few = (accepted-sound b s.reads).fits.done in
    let fewer = (accepted-sound c s.others).fits.done in
    let flipped : SameRows s.has.users s.rows s.has.done = record { there = s.same.back; back = s.same.there } in
    record {
      reads = s.reads;
      others = s.others;
      there = rows_alike s.has s.has.done s.rows few fewer flipped;
      back = rows_alike s.has s.rows s.has.done fewer few s.same;
    }
