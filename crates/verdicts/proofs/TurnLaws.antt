-- Judging in the order 1, 2, ..: it is always an order, so that an accepted rule's verdict is what its counts say.
-- Assumes nothing.
use mathlib.Core.Path.{◌≡◌, refl, sym, ap, ◌∙◌}
use mathlib.Core.List.{List, [], ◌∷◌}
use mathlib.Core.Option.{Option, none, some}
use Prim.Native.Nat.{ℕ, zero, suc, ◌≤◌}
use native.Mathlib.Omega.{arith}
use lib.ListN.{take}
use Rattle.std.specs.declared.result.Result.{Result}
use Rattle.std.specs.declared.result.Result.TheVariants.{Ok, Err}
use Rattle.answers.specs.declared.Refusal.{Refusal}
use Rattle.answers.specs.declared.Refusal.TheVariants.{NotAnOrder}
use Rattle.syntax.specs.Bytes.{Bytes}
use Rattle.syntax.specs.Rule.{Rule, rule_of}
use Rattle.rules.specs.declared.Parsed.{Parsed}
use Rattle.rules.specs.Accept.{refusal}
use Rattle.rules.specs.Code.Parsed.{Parses, refused, parsed}
use Rattle.rules.proofs.AcceptLaws.{accepted-rule, refused-early}
use Rattle.tables.specs.Tables.{Tables}
use Rattle.walks.specs.Order.{variables_of, up_from}
use Rattle.verdicts.specs.declared.Outcome.TheVariants.{Refused}
use Rattle.verdicts.specs.declared.Verdict.{Verdict}
use Rattle.verdicts.specs.Verdict.{refusal_in, outcome_of, full_count, breaking_count, verdict_along, order_verdict, tree_verdict, accepted_verdict}
use Rattle.verdicts.specs.Verdict.{turn_order, turn_verdict}
use Rattle.verdicts.proofs.OutcomeLaws.{word-accepted}
use Rattle.verdicts.proofs.VerdictLaws.{turn-order}
use Rattle.verdicts.proofs.ParsedLaws.{parsed-few}

pub take-up : (n m i : ℕ) → n ≤ m → take n (up_from i m) ≡ up_from i n
unfolding up_from
take-up zero m i h = refl
take-up (suc n) zero i h = absurd (omega arith)
take-up (suc n) (suc m) i h = ap (λ (l : List ℕ). i ∷ l) (take-up n m (suc i) (omega arith))

-- The first n of 1, 2, ..
abbrev eight : List ℕ
eight = 1 ∷ 2 ∷ 3 ∷ 4 ∷ 5 ∷ 6 ∷ 7 ∷ 8 ∷ []

up-eight : up_from 1 8 ≡ eight
unfolding up_from
up-eight = refl

-- How many variables were parsed, none where parsing refused.
abbrev pub parsed_count : Result Parsed Refusal → ℕ
parsed_count (Ok p) = p.count
parsed_count (Err e) = 0

-- Along as many numbers as a parsed rule has variables it is judged in turn.
pub judged-turn : {s : Bytes} {w : Result Parsed Refusal} → Parses s w → (T : Tables) {r : Verdict} → r ≡ accepted_verdict T (refusal s) s (take (parsed_count w) eight) → r ≡ turn_verdict T s
unfolding turn_verdict turn_order accepted_verdict
judged-turn (refused h) T e = e ∙ rw h
judged-turn (parsed {p = p} f) T e = e ∙ rw (← up-eight, take-up p.count 8 1 (parsed-few f)) (rw (f.rule.reads, f.rule.counted))

module _ (T : Tables) (rule : Bytes) (ok : refusal rule ≡ none) where
  -- An accepted rule is judged along 1, 2, ..:
  pub judged-in-turn : (ρ : Rule) → rule_of rule ≡ some ρ → turn_verdict T rule ≡ verdict_along T ρ (variables_of (turn_order (rule_of rule)))
  unfolding turn_verdict accepted_verdict tree_verdict order_verdict turn_order
  judged-in-turn ρ h = rw (ok, h, turn-order ρ)

  -- it is broken, idle or held as its counts say,
  pub outcome-in-turn : (ρ : Rule) → rule_of rule ≡ some ρ → (turn_verdict T rule).outcome ≡ outcome_of (full_count T ρ) (breaking_count T ρ)
  unfolding verdict_along
  outcome-in-turn ρ h = rw (judged-in-turn ρ h)

  -- and never refused.
  pub never-refused : (e : Refusal) → (turn_verdict T rule).outcome ≡ Refused e → ⊥
  never-refused e q =
      let (ρ, h, _) = accepted-rule rule ok in
      let none-some : none ≡ some e = sym (word-accepted (full_count T ρ) (breaking_count T ρ)) ∙ ap refusal_in (sym (outcome-in-turn ρ h) ∙ q) in
      let z : ◌≡◌ {A = ℕ} 0 1 = cc in
      absurd (omega arith)

-- No verdict in turn says 18, whatever the rule: a refused rule is refused by 11 to 15.
pub never-disordered : (T : Tables) (rule : Bytes) → (turn_verdict T rule).outcome ≡ Refused NotAnOrder → ⊥
unfolding turn_verdict accepted_verdict
never-disordered T rule q = go (refusal rule) refl
  where
    go : (r : Option Refusal) → refusal rule ≡ r → ⊥
    go none ok = never-refused T rule ok NotAnOrder q
    go (some e) is =
        let said : Refused e ≡ Refused NotAnOrder = rw is at q in
        let same : e ≡ NotAnOrder = cc in
        absurd (omega (arith, (refused-early rule NotAnOrder (is ∙ ap some same)).1))
