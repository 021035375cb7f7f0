-- What judging answers by what it meets: a refusal of the tables, the rule or the order, or the verdict of an admitted input.
-- Assumes nothing.
use mathlib.Core.Path.{◌≡◌, refl, sym, ap, ◌∙◌}
use mathlib.Core.List.{List, []}
use mathlib.Core.Option.{Option, none, some}
use mathlib.Core.Bool.{Bool, true, false, true≢false}
use Prim.Native.Nat.{ℕ, ◌≤◌}
use native.Mathlib.Omega.{arith}
use mathlib.Core.Logic.{◌↔◌}
use lib.ListN.{length}
use Rattle.answers.specs.Answer.{refused, wrote}
use Rattle.answers.specs.declared.Refusal.{Refusal}
use Rattle.answers.specs.declared.Refusal.TheVariants.{NotAnOrder}
use Rattle.tables.specs.Tables.{Tables}
use Rattle.tables.specs.Reading.{Reading, rejected, taken, tables_of}
use Rattle.syntax.specs.Bytes.{Bytes}
use Rattle.syntax.specs.Rule.{Rule, rule_vars, rule_of}
use Rattle.rules.specs.Accept.{refusal}
use Rattle.rules.proofs.AcceptLaws.{tree-few, accepted-rule, accepted-tree}
use Rattle.tables.proofs.FitsLaws.{accepted-passes}
use Rattle.walks.specs.Order.{variables_of, is_order}
use Rattle.walks.specs.Walk.{choice_bytes}
use Rattle.walks.proofs.OrderLaws.{order-admissible}
use Rattle.values.specs.Sets.{names}
use Rattle.values.proofs.BoundLaws.{accepted-within}
use Rattle.verdicts.specs.Verdict.{full_count, breaking_count, first_breaking, verdict_along, refused_by, if_ordered, order_verdict, tree_verdict}
use Rattle.verdicts.specs.Verdict.{accepted_verdict, tables_verdict, verdict_of, verdict_bytes, unless_refused, answer_by, judged}
use Rattle.verdicts.specs.Report.{OrderOf, Admitted, Met, bad_tables, bad_rule, bad_order, good}
use Rattle.judging.specs.Code.Lent.{InSorts}
use Rattle.verdicts.proofs.OutcomeLaws.{word-accepted}
use Rattle.verdicts.proofs.VerdictLaws.{first-least}
use Rattle.verdicts.proofs.SheetLaws.{length-written}

-- The refusals of judging, one after the other: "A refusal gives its number, .. counts 0, share 255 and choice all 255".

module _ (tables rule order : Bytes) where
  pub tables-rejected : (e : Refusal) → tables_of tables ≡ rejected e → verdict_of tables rule order ≡ refused_by e
  unfolding verdict_of tables_verdict
  tables-rejected e h = rw h

  pub rule-rejected : (T : Tables) (e : Refusal) → tables_of tables ≡ taken T → refusal rule ≡ some e → verdict_of tables rule order ≡ refused_by e
  unfolding verdict_of tables_verdict accepted_verdict
  rule-rejected T e h g = rw (h, g)

  -- An order that the test holds of is one, and no other is.
  abbrev test : Rule → Bool
  test ρ = is_order (names (rule_vars [] ρ)) (length (rule_vars [] ρ)) (variables_of order)

  ordered : (ρ : Rule) → (test ρ ≡ true) ↔ OrderOf ρ order
  ordered ρ = order-admissible (names (rule_vars [] ρ)) (length (rule_vars [] ρ)) (variables_of order)

  -- 18: "not an order as above".
  pub order-rejected : (T : Tables) (ρ : Rule) → tables_of tables ≡ taken T → refusal rule ≡ none → rule_of rule ≡ some ρ → (OrderOf ρ order → ⊥)
      → verdict_of tables rule order ≡ refused_by NotAnOrder
  unfolding verdict_of tables_verdict accepted_verdict tree_verdict order_verdict
  order-rejected T ρ h g t bad = rw (h, g, t) (go (test ρ) refl)
    where
      go : (b : Bool) → test ρ ≡ b → if_ordered b (verdict_along T ρ (variables_of order)) ≡ refused_by NotAnOrder
      go true q = absurd (bad ((ordered ρ).0 q))
      go false q = refl

  pub judged-rejected : (e : Refusal) → verdict_of tables rule order ≡ refused_by e → judged tables rule order ≡ refused e
  unfolding judged answer_by
  judged-rejected e h = rw h

  -- Every input meets one of them, or is admitted.
  pub met : Met tables rule order
  met = at-tables (tables_of tables) refl
    where
      at-order : (T : Tables) (ρ : Rule) → tables_of tables ≡ taken T → refusal rule ≡ none → rule_of rule ≡ some ρ
          → (b : Bool) → test ρ ≡ b → Met tables rule order
      at-order T ρ t r h true q = good T ρ (record { reads = t; accepts = r; tree = h; ordered = (ordered ρ).0 q })
      at-order T ρ t r h false q = bad_order T ρ t r h (λ o. true≢false (sym ((ordered ρ).1 o) ∙ q))

      at-rule : (T : Tables) → tables_of tables ≡ taken T → (o : Option Refusal) → refusal rule ≡ o → Met tables rule order
      at-rule T t (some e) r = bad_rule T e t r
      at-rule T t none r = let (ρ, h, _) = accepted-rule rule r in at-order T ρ t r h (test ρ) refl

      at-tables : (q : Reading) → tables_of tables ≡ q → Met tables rule order
      at-tables (rejected e) t = bad_tables e t
      at-tables (taken T) t = at-rule T t (refusal rule) refl

-- The rule of an admitted input has at most 8 variables, whose items are of their sorts under a full choice.
module _ {tables rule order : Bytes} {T : Tables} {ρ : Rule} (a : Admitted tables rule order T ρ) where
  pub few-variables : length (rule_vars [] ρ) ≤ 8
  few-variables = tree-few ρ (accepted-tree rule ρ a.accepts a.tree)

  pub in-sorts : InSorts T ρ
  in-sorts = accepted-within T (accepted-passes tables a.reads) rule ρ a.accepts a.tree

  -- The first breaking choice has 8 bytes.
  pub first-length : length (choice_bytes (first_breaking T ρ (variables_of order))) ≡ 8
  first-length = go (first_breaking T ρ (variables_of order)) refl
    where
      go : (o : Option (List ℕ)) → first_breaking T ρ (variables_of order) ≡ o → length (choice_bytes o) ≡ 8
      go none q = refl
      go (some d) q = (first-least T ρ few-variables in-sorts (variables_of order) d a.ordered q).choice.long

  -- Its verdict is that along the order, and is written with its word.
  pub admitted-verdict : verdict_of tables rule order ≡ verdict_along T ρ (variables_of order)
  unfolding verdict_of tables_verdict accepted_verdict tree_verdict order_verdict
  admitted-verdict = rw (a.reads, a.accepts, a.tree, (ordered tables rule order ρ).1 a.ordered)

  pub admitted-wrote : judged tables rule order ≡ wrote (verdict_bytes T ρ order)
  unfolding judged answer_by verdict_along
  admitted-wrote =
      rw admitted-verdict (ap (λ (o : Option Refusal). unless_refused o (verdict_bytes T ρ order)) (word-accepted (full_count T ρ) (breaking_count T ρ)))

  pub bytes-length : length (verdict_bytes T ρ order) ≡ 26
  unfolding verdict_along
  bytes-length = length-written _ (verdict_along T ρ (variables_of order)) first-length

-- Whatever is written was written of an admitted input, and so has 26 bytes.
pub written-length : (tables rule order b : Bytes) → judged tables rule order ≡ wrote b → length b ≡ 26
written-length tables rule order b q = go (met tables rule order)
  where
    never : (e : Refusal) → verdict_of tables rule order ≡ refused_by e → {A : Type 0} → A
    never e h = let z : ◌≡◌ {A = ℕ} 0 1 = cc (judged-rejected tables rule order e h, q) in absurd (omega arith)

    go : Met tables rule order → length b ≡ 26
    go (bad_tables e t) = never e (tables-rejected tables rule order e t)
    go (bad_rule T e t r) = never e (rule-rejected tables rule order T e t r)
    go (bad_order T ρ t r h bad) = never NotAnOrder (order-rejected tables rule order T ρ t r h bad)
    go (good T ρ a) = let s : b ≡ verdict_bytes T ρ order = cc (admitted-wrote a, q) in rw s (bytes-length a)
