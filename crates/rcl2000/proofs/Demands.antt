-- The three demands, sentence by sentence, of what the tracker sees of `reduce`, `rebuild` and `judge`: the number r that a call returns and the
-- lent bytes, old before it and new after it. The calls' contracts say `Reduces`, `GivesBack` and `Judges` of them. Assumes nothing.
use mathlib.Core.Path.{◌≡◌, ap, ◌∙◌}
use mathlib.Core.List.{[]}
use mathlib.Core.Bool.{true}
use mathlib.Core.Logic.{◌↔◌}
use Prim.Native.Nat.{ℕ, ◌*◌, ◌≤◌, ◌<◌}
use native.Mathlib.Omega.{arith}
use lib.ListN.{length, take}
use Rattle.answers.specs.Refusal.{number_of}
use Rattle.answers.specs.declared.Refusal.{Refusal}
use Rattle.answers.specs.declared.Refusal.TheVariants.{NoRulesFormula, NotAnOrder}
use Rattle.tables.specs.Tables.{Tables}
use Rattle.tables.specs.Reading.{taken, tables_of}
use Rattle.syntax.specs.Bytes.{Bytes}
use Rattle.syntax.specs.Rule.{Rule, rule_text, formula}
use Rattle.verdicts.specs.Report.{OrderOf, Admitted, SharesIn}
use Rattle.verdicts.proofs.ReportLaws.{reported-share}
use Rattle.rcl2000.specs.Calls.{Reduces, GivesBack, Judges, Refuses, Writes, ReduceNumber, RebuildNumber, BesidesNumber, Ends, ReduceRefuses, RebuildRefuses, JudgeRefuses, no_rule, LongEnough, Reported}
use Rattle.answers.specs.Answer.{wrote, lent}
use Rattle.answers.proofs.AnswerLaws.{lent_fits, lent-wrote}
use Rattle.rules.specs.Accept.{refusal, accepted}
use Rattle.formulas.specs.Formulas.{RuleOf, formula_of, reduced, Rebuilds, gives}
use Rattle.rules.proofs.AcceptLaws.{accepted-gives}
use Rattle.formulas.proofs.RebuildLaws.{accepted-formula, none_true, rule-of, rule-once, rebuilds-once}
use Rattle.formulas.proofs.Theorems.{rule-given}
use Rattle.rcl2000.proofs.CallLaws.{through, sees-refused, sees-wrote, refuses-exactly, writes-exactly, call_ends}
use Rattle.rcl2000.proofs.FormulaLaws.{reduced-short, rebuilt-short, formula-answered, long-enough, reduce-refused, rebuild-refused}
use Rattle.rcl2000.proofs.JudgeLaws.{judged-short, judge-refused, admitted-reported, written-admitted}
use Rattle.rcl2000.proofs.RefusalLaws.{reduce-own, rebuild-own, judge-own}

-- DEMAND 1. "every public entry point, on every input, finishes with an answer or a numbered refusal; a refusal carries no result and changes no
-- lent byte": that the calls finish is what the proof of a contract with no `requires` says; whatever they return is an answer or a refusal.

pub reduce-ends : (rule old new : Bytes) (r : ℕ) → Reduces rule old new r → Ends ReduceNumber old new r
reduce-ends rule old new r s = call_ends s ReduceNumber (reduced-short rule) (λ e q. reduce-own ((reduce-refused rule (length old) e).0 q))

pub rebuild-ends : (formula old new : Bytes) (r : ℕ) → GivesBack formula old new r → Ends RebuildNumber old new r
rebuild-ends formula old new r g = call_ends g.sees RebuildNumber (rebuilt-short g.rebuilds) (λ e q. rebuild-own ((rebuild-refused g.rebuilds (length old) e).0 q))

pub judge-ends : (tables rule order old new : Bytes) (r : ℕ) → Judges tables rule order old new r → Ends (BesidesNumber NotAnOrder) old new r
judge-ends tables rule order old new r s = call_ends s (BesidesNumber NotAnOrder) (judged-short tables rule order) (λ e q. judge-own ((judge-refused tables rule order (length old) e).0 q))

-- DEMAND 2. "input is refused exactly where [document 01] says, by the number given there".

pub reduce-refuses : (rule old new : Bytes) (r : ℕ) → Reduces rule old new r → (e : Refusal) → (r ≡ 65536 * number_of e) ↔ ReduceRefuses rule (length old) e
reduce-refuses rule old new r s e = through (refuses-exactly s (reduced-short rule) e) (reduce-refused rule (length old) e)

pub rebuild-refuses : (formula old new : Bytes) (r : ℕ) → GivesBack formula old new r → (e : Refusal)
    → (r ≡ 65536 * number_of e) ↔ RebuildRefuses formula (length old) e
rebuild-refuses formula old new r g e = through (refuses-exactly g.sees (rebuilt-short g.rebuilds) e) (rebuild-refused g.rebuilds (length old) e)

pub judge-refuses : (tables rule order old new : Bytes) (r : ℕ) → Judges tables rule order old new r → (e : Refusal)
    → (r ≡ 65536 * number_of e) ↔ JudgeRefuses tables rule order (length old) e
judge-refuses tables rule order old new r s e = through (refuses-exactly s (judged-short tables rule order) e) (judge-refused tables rule order (length old) e)

-- "Formulas, rebuilt rules and verdicts are those of document 01": a number below 65,536 is returned exactly where something is written, and that is
-- the formula of the accepted rule, the accepted rule whose formula this is, the verdict's 26 bytes.

pub reduce-writes : (rule old new : Bytes) (r : ℕ) → Reduces rule old new r → (r < 65536) ↔ ((f : Bytes) × RuleOf f rule × Writes f old new r)
reduce-writes rule old new r s = (
  λ q.
      let w = (writes-exactly s (reduced-short rule)).0 q in
      (w.0, rule-of (lent-wrote (length old) (reduced rule) w.0 w.1), sees-wrote s (reduced-short rule) w.1),
  λ x. x.2.below,
)

pub rebuild-writes : (formula old new : Bytes) (r : ℕ) → GivesBack formula old new r
    → (r < 65536) ↔ ((rule : Bytes) × RuleOf formula rule × Writes rule old new r)
rebuild-writes formula old new r g = (
  λ q.
      let w = (writes-exactly g.sees (rebuilt-short g.rebuilds)).0 q in
      let x : Rebuilds formula (wrote w.0) = rw (lent-wrote (length old) g.answer w.0 w.1) at g.rebuilds in
      let p = (rule-given formula w.0).0 x in
      (w.0, record { accepts = p.0; formula = p.1 }, sees-wrote g.sees (rebuilt-short g.rebuilds) w.1),
  λ x. x.2.below,
)

pub judge-writes : (tables rule order old new : Bytes) (r : ℕ) → Judges tables rule order old new r
    → (r < 65536) ↔ ((T : Tables) × (ρ : Rule) × Admitted tables rule order T ρ × (26 ≤ length old) × (r ≡ 26) × Reported T ρ order old new)
judge-writes tables rule order old new r s = (
  λ q.
      let w = (writes-exactly s (judged-short tables rule order)).0 q in
      let (T, ρ, a, room) = written-admitted (length old) w.0 w.1 in
      let (n, told) = admitted-reported a s room in
      (T, ρ, a, room, n, told),
  λ (T, ρ, a, room, n, told). omega arith,
)

-- DEMAND 3. "For every two accepted rules, each turned into its formula on any sheet long enough, the bytes written are the formula that document 01
-- builds": of the tree that the rule is the text of;
pub formula-written : (rule : Bytes) → accepted rule ≡ true
    → (ρ : Rule) × (rule ≡ rule_text [] ρ) × ((old new : Bytes) (r : ℕ) → length (formula ρ) ≤ length old → Reduces rule old new r → Writes (formula ρ) old new r)
formula-written rule h =
    let a = accepted-gives rule (none_true (refusal rule) h) in
    let f : RuleOf (formula a.rule) rule = record { accepts = h; formula = accepted-formula a } in
    (a.rule, a.text, λ old new r room s. sees-wrote s (reduced-short rule) (ap (lent (length old)) (formula-answered rule f) ∙ lent_fits (length old) (formula a.rule) room))

-- "and the two formulas are equal, byte for byte, exactly when the rules are."
pub formulas-equal : (rule rule₂ : Bytes) → accepted rule ≡ true → accepted rule₂ ≡ true → (old new old₂ new₂ : Bytes) (r r₂ : ℕ)
    → LongEnough rule old → LongEnough rule₂ old₂ → Reduces rule old new r → Reduces rule₂ old₂ new₂ r₂ → (take r new ≡ take r₂ new₂) ↔ (rule ≡ rule₂)
formulas-equal rule rule₂ h h₂ old new old₂ new₂ r r₂ l l₂ s s₂ =
    let (f, p, w) = long-enough rule h l s in
    let (g, q, v) = long-enough rule₂ h₂ l₂ s₂ in (
      λ e.
          let same : f ≡ g = cc (w.front, v.front) in
          let own : RuleOf f rule₂ = rw same q in
          rule-once p own,
      λ e. let same : f ≡ g = cc (p.formula, q.formula, ap formula_of e) in cc (w.front, v.front),
    )

-- "Every such formula, handed back with any sheet long enough, gives exactly its own rule."
pub formula-gives-back : (rule : Bytes) → accepted rule ≡ true → (old new old₂ new₂ : Bytes) (r r₂ : ℕ) → LongEnough rule old → Reduces rule old new r
    → length rule ≤ length old₂ → GivesBack (take r new) old₂ new₂ r₂ → Writes rule old₂ new₂ r₂
formula-gives-back rule h old new old₂ new₂ r r₂ l s room g =
    let (f, p, w) = long-enough rule h l s in
    let x : Rebuilds f g.answer = rw w.front at g.rebuilds in
    sees-wrote g.sees (rebuilt-short g.rebuilds) (ap (lent (length old₂)) (rebuilds-once x (gives p)) ∙ lent_fits (length old₂) rule room)

-- "Bytes that are no accepted rule's formula give back none, whatever sheet is lent."
pub other-bytes-give-none : (f : Bytes) → ((rule : Bytes) → RuleOf f rule → ⊥) → (old new : Bytes) (r : ℕ) → GivesBack f old new r
    → Refuses NoRulesFormula old new r
other-bytes-give-none f h old new r g = sees-refused g.sees ((rebuild-refused g.rebuilds (length old) NoRulesFormula).1 (no_rule h))

-- "For every accepted rule, all accepted tables and every order of the rule's variables that puts each after those its set names, the verdict reports
-- the number of full choices and the number among them that make the rule false. It is "broken" exactly when the second is above zero, "idle" exactly
-- when the first is zero, and otherwise "held". Where a verdict is written on a lent sheet, this is meant for every sheet long enough." `Reported`
-- says all of it of the lent bytes, with the first breaking choice and the share (N7: below); that the accepted rule has a tree is part of it.
pub verdict-reported : (rule : Bytes) → accepted rule ≡ true
    → (ρ : Rule) × (rule ≡ rule_text [] ρ) × ((tables order old new : Bytes) (T : Tables) (r : ℕ) → tables_of tables ≡ taken T → OrderOf ρ order → 26 ≤ length old
    → Judges tables rule order old new r → (r ≡ 26) × Reported T ρ order old new)
verdict-reported rule h =
    let n = none_true (refusal rule) h in
    let a = accepted-gives rule n in (
      a.rule,
      a.text,
      λ tables order old new T r t o room s.
          admitted-reported (record { reads = t; accepts = n; tree = a.reads; ordered = o }) s room,
    )

-- DOCUMENT 02, N7. "Share becomes the nearest whole per cent, and an exact half takes the even neighbour. .. The contract compares whole numbers only":
-- wherever a verdict is written, its last byte is the s whose s × full is nearest to 100 × breaking, of two as near the even one, and 255 if full is 0;
-- and one s only is.
pub share-written : (tables rule order old new : Bytes) (r : ℕ) → Judges tables rule order old new r → r < 65536 → SharesIn new
share-written tables rule order old new r s q =
    let (_, _, _, _, _, told) = (judge-writes tables rule order old new r s).0 q in
    reported-share new told.reports
