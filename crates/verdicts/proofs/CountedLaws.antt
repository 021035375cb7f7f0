-- Judging in the order 1, 2, .. a rule whose counts are known: the walk has them, and its verdict is the rule's.
-- Assumes nothing.
use mathlib.Core.Path.{◌≡◌, refl, sym, ap, subst, ◌∙◌}
use mathlib.Core.Bool.{true}
use mathlib.Core.List.{List, [], ◌∷◌}
use Prim.Native.Nat.{ℕ, ◌≤◌, ◌^◌}
use native.Mathlib.Omega.{arith}
use lib.ListN.{length, take}
use lib.Seq.{length-take-le}
use mathlib.Core.Option.{some}
use Rattle.answers.specs.declared.Refusal.{Refusal}
use Rattle.rules.specs.Accept.{refusal}
use Rattle.tables.specs.Tables.{Tables}
use Rattle.syntax.specs.Bytes.{Bytes}
use Rattle.syntax.specs.Term.{Choices}
use Rattle.syntax.specs.Rule.{Rule, rule_vars, rule_of}
use Rattle.syntax.proofs.ArenaLaws.{all_one}
use Rattle.rules.specs.declared.Parsed.{Parsed}
use Rattle.walks.specs.Choices.{nothing_chosen, each, if_breaks}
use Rattle.walks.specs.Meaning.{Once, After, Admissible}
use Rattle.walks.specs.Order.{variables_of, is_order, up_from}
use Rattle.walks.specs.Walk.{walk}
use Rattle.walks.specs.declared.Tally.{Tally}
use Rattle.walks.proofs.OrderLaws.{order-admissible, order-length, order_small}
use Rattle.walks.proofs.TurnLaws.{in-turn, turn-variables}
use Rattle.values.specs.Sets.{in_set, names, breaks}
use Rattle.values.proofs.EarlierLaws.{rule-earlier}
use Rattle.judging.specs.Code.Lent.{InSorts, vars_of}
use Rattle.judging.specs.Code.Walking.{Ordered, CountsBy, WalksBy}
use Rattle.verdicts.specs.Verdict.{refused_by, verdict_along, turn_order, turn_verdict}
use Rattle.verdicts.specs.Code.Judging.{ruled_by, Loaded, ParsedFrom, KnownCounts, JudgesInTurn}
use Rattle.verdicts.proofs.VerdictLaws.{walk-full, walk-breaking}
use Rattle.verdicts.proofs.RulingLaws.{tally-fits, tally-verdict}
use Rattle.verdicts.proofs.HeldLaws.{held-rule}
use Rattle.verdicts.proofs.LoadedLaws.{all_pass}
use Rattle.verdicts.proofs.ParsedLaws.{parsed-few, parsed-refused, rule-case}
use Rattle.verdicts.proofs.TurnLaws.{take-up, judged-in-turn}

-- The first of 0, 1, ..
abbrev numbers : List ℕ
numbers = 0 ∷ 1 ∷ 2 ∷ 3 ∷ 4 ∷ 5 ∷ 6 ∷ 7 ∷ []

up-numbers : up_from 0 8 ≡ numbers
unfolding up_from
up-numbers = refl

-- A refused rule has its refusal.
pub turn-refused : (s : Bytes) {e : Refusal} → refusal s ≡ some e → (T : Tables) → refused_by e ≡ turn_verdict T s
unfolding turn_verdict
turn-refused s h T = parsed-refused s h T (turn_order (rule_of s))

module _ {p : Parsed} {s : Bytes} (P : ParsedFrom s p) where
  abbrev ρ : Rule
  ρ = P.rule.tree

  abbrev many : ℕ
  many = length (rule_vars [] ρ)

  abbrev listed : List ℕ
  listed = take p.count numbers

  few : many ≤ 8
  few = omega (arith, parsed-few P, P.rule.counted)

  -- The first variables are listed in turn, which is an order of them.
  in-line : listed ≡ up_from 0 many
  in-line = ap (take p.count) (sym up-numbers) ∙ take-up p.count 8 0 (parsed-few P) ∙ ap (up_from 0) P.rule.counted

  is-order : is_order (names (rule_vars [] ρ)) many listed ≡ true
  is-order = ap (is_order (names (rule_vars [] ρ)) many) in-line ∙ in-turn (names (rule_vars [] ρ)) many (rule-earlier ρ)

  admissible : Admissible (names (rule_vars [] ρ)) many listed
  admissible = (order-admissible (names (rule_vars [] ρ)) many listed).0 is-order

  pub turn-ordered : length p.vars ≡ 8 → Ordered p listed
  turn-ordered l =
      let all : length (vars_of p) ≡ many = length-take-le p.count p.vars (omega (arith, parsed-few P)) ∙ P.rule.counted in
      record {
        list = record {
          short = omega (arith, order-length (names (rule_vars [] ρ)) many listed is-order, few);
          small = λ i k. omega (arith, all, order_small (names (rule_vars [] ρ)) many listed is-order i k);
        };
        turn = λ σ w.
            let same : rule_vars [] ρ ≡ σ = all_one p.nodes (vars_of p) (rule_vars [] ρ) σ P.rule.knows.holds w.holds in
            subst (λ (τ : Choices). After (names τ) listed) same admissible.after;
        once = subst (λ (k : ℕ). Once k listed) (sym all) admissible.once;
      }

  module _ {ts : List ℕ} (L : Loaded ts) where
    -- The known counts are the walk's, whatever the slices hold: there is but one rule, and one case of tables.
    pub turn-counts : {full breaking : ℕ} → KnownCounts ts s full breaking → CountsBy ts p listed full breaking
    turn-counts {full} {breaking} K T κ C =
        let H = all_pass T L C.world.fits C.world.words in
        let sorts : InSorts T ρ = (rule-case P H).sorts in
        let known = K T H ρ P.rule.reads in
        subst
        (λ (τ : Rule).
        (full ≡ walk 64 (in_set T (rule_vars [] τ)) each listed nothing_chosen)
        × (breaking ≡ walk 64 (in_set T (rule_vars [] τ)) (if_breaks (breaks T (rule_vars [] τ) τ)) listed nothing_chosen))
        (held-rule p.nodes p.root ρ κ P.rule.holds C.holds)
        (known.0 ∙ sym (walk-full T ρ few sorts listed admissible), known.1 ∙ sym (walk-breaking T ρ few sorts listed admissible))

    module _ {tally : Tally} (W : WalksBy ts p listed tally) where
      pub turn-fits : (tally.breaking ≤ tally.full) × (tally.full ≤ 64 ^ 8)
      turn-fits =
          let C = rule-case P L.holds in
          tally-fits L.tables ρ few C.sorts listed tally is-order (W L.tables ρ C)

      pub turn-ruled : JudgesInTurn ts s (ruled_by tally)
      unfolding turn_order
      turn-ruled T H =
          let C = rule-case P H in
          let bytes : listed ≡ variables_of (turn_order (rule_of s)) = rw P.rule.reads (in-line ∙ sym (turn-variables many 0)) in
          tally-verdict T ρ few C.sorts listed tally is-order (W T ρ C) ∙ ap (verdict_along T ρ) bytes
          ∙ sym (judged-in-turn T s P.accepts ρ P.rule.reads)
