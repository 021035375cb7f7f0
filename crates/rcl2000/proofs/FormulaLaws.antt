-- What `reduce` and `rebuild` answer where n bytes are lent: exactly where they refuse, and what they write.
-- Assumes nothing.
use mathlib.Core.Path.{◌≡◌, refl, ap, sym, ◌∙◌}
use mathlib.Core.Option.{Option, none, some}
use mathlib.Core.Bool.{Bool, true, false}
use mathlib.Core.Logic.{◌↔◌}
use Prim.Native.Nat.{ℕ, ◌<◌}
use native.Mathlib.Omega.{arith}
use lib.Dec.{leb}
use lib.ListN.{length}
use borrow.Author.Tests.{leb-false}
use Rattle.answers.specs.Answer.{Answer, refused, wrote, if_room, lent}
use Rattle.answers.specs.declared.Refusal.{Refusal}
use Rattle.answers.specs.declared.Refusal.TheVariants.{NoRulesFormula, ShortSheet}
use Rattle.answers.proofs.AnswerLaws.{lent-refused, lent_fits, lent-short}
use Rattle.syntax.specs.Bytes.{Bytes}
use Rattle.rules.specs.Accept.{refusal, is_none, accepted}
use Rattle.formulas.specs.Formulas.{RuleOf, reduced, Rebuilds, gives, gives_none}
use Rattle.rules.proofs.AcceptLaws.{accepted-gives}
use Rattle.formulas.proofs.RebuildLaws.{wrote-reduced, accepted-formula, none_true, rebuilds-once}
use Rattle.formulas.proofs.Theorems.{formula-at-most, rule-at-most}
use Rattle.rcl2000.specs.Calls.{Reduces, Writes, LongEnough, ReduceRefuses, RebuildRefuses, rule_refused, formula_longer, no_rule, rule_longer}
use Rattle.rcl2000.proofs.CallLaws.{Short, sees-wrote}

-- A text is refused only where it is longer than the n bytes lent, and by 17.
pub short-lent : (n : ℕ) (b : Bytes) {e : Refusal} → lent n (wrote b) ≡ refused e → (ShortSheet ≡ e) × (n < length b)
unfolding lent
short-lent n b {e} q = go (leb (length b) n) refl q
  where
    go : (x : Bool) → leb (length b) n ≡ x → if_room x b ≡ refused e → (ShortSheet ≡ e) × (n < length b)
    go true i q = let z : ◌≡◌ {A = ℕ} 0 1 = cc in absurd (omega arith)
    go false i q = (cc, leb-false (length b) n i)

-- A refusal stays as it is, whatever is lent: it is no other, and nothing is written.
pub same-lent : (n : ℕ) {d e : Refusal} → lent n (refused d) ≡ refused e → d ≡ e
same-lent n {d} q = let s = sym (lent-refused n d) ∙ q in cc

module _ (n : ℕ) {a : Answer} {d : Refusal} (is : a ≡ refused d) where
  pub stays-refused : lent n a ≡ refused d
  stays-refused = ap (lent n) is ∙ lent-refused n d

  pub same-refused : {e : Refusal} → lent n a ≡ refused e → d ≡ e
  same-refused q = same-lent n (sym (ap (lent n) is) ∙ q)

  pub never-wrote : {b : Bytes} {A : Type 0} → lent n a ≡ wrote b → A
  never-wrote q = let z : ◌≡◌ {A = ℕ} 0 1 = cc (sym stays-refused ∙ q) in absurd (omega arith)

-- The texts written are short.
pub reduced-short : (rule : Bytes) → Short (reduced rule)
reduced-short rule w q =
    let l = formula-at-most rule w (length w) (ap (lent (length w)) q ∙ lent_fits (length w) w (omega arith)) in
    omega arith

pub rebuilt-short : {f : Bytes} {a : Answer} → Rebuilds f a → Short a
rebuilt-short {f} {a} x w q =
    let l = rule-at-most f w (length w) a x (ap (lent (length w)) q ∙ lent_fits (length w) w (omega arith)) in
    omega arith

module _ (rule : Bytes) where
  -- An accepted rule is answered with its formula, and every other by its own refusal.
  pub formula-answered : {f : Bytes} → RuleOf f rule → reduced rule ≡ wrote f
  formula-answered {f} q = wrote-reduced rule f (none_true (refusal rule) q.accepts) q.formula

  pub rule-answered : {e : Refusal} → refusal rule ≡ some e → reduced rule ≡ refused e
  unfolding reduced
  rule-answered h = rw (h, reduced)

  pub has-formula : refusal rule ≡ none → (f : Bytes) × RuleOf f rule
  has-formula q = (_, record { accepts = ap is_none q; formula = accepted-formula (accepted-gives rule q) })

  pub reduce-refused : (n : ℕ) (e : Refusal) → (lent n (reduced rule) ≡ refused e) ↔ ReduceRefuses rule n e
  reduce-refused n e = (λ q. there (refusal rule) refl q, λ x. back x)
    where
      there : (o : Option Refusal) → refusal rule ≡ o → lent n (reduced rule) ≡ refused e → ReduceRefuses rule n e
      there (some g) i q = rule_refused (i ∙ ap some (same-refused n (rule-answered i) q))
      there none i q =
          let f = has-formula i in
          let s = short-lent n f.0 (sym (ap (lent n) (formula-answered f.1)) ∙ q) in
          rw (← s.0) (formula_longer f.1 s.1)

      back : {e : Refusal} → ReduceRefuses rule n e → lent n (reduced rule) ≡ refused e
      back (rule_refused h) = stays-refused n (rule-answered h)
      back (formula_longer {f} h l) = ap (lent n) (formula-answered h) ∙ lent-short n f l

-- An accepted rule on an output long enough: its formula is written.
pub long-enough : (rule : Bytes) {old new : Bytes} {r : ℕ} → accepted rule ≡ true → LongEnough rule old → Reduces rule old new r
    → (f : Bytes) × RuleOf f rule × Writes f old new r
long-enough rule {old} h l s =
    let (f, p) = has-formula rule (none_true (refusal rule) h) in
    (f, p, sees-wrote s (reduced-short rule) (ap (lent (length old)) (formula-answered rule p) ∙ lent_fits (length old) f (l f p)))

-- Every answer of `rebuild` is the accepted rule's text, or 16.
module _ {f : Bytes} {a : Answer} (x : Rebuilds f a) (n : ℕ) where
  pub rebuild-refused : (e : Refusal) → (lent n a ≡ refused e) ↔ RebuildRefuses f n e
  rebuild-refused e = (λ q. there x q, λ y. back y)
    where
      there : {b : Answer} → Rebuilds f b → lent n b ≡ refused e → RebuildRefuses f n e
      there (gives {s} p) q = let k = short-lent n s q in rw (← k.0) (rule_longer p k.1)
      there (gives_none h) q = rw (← (same-lent n q)) (no_rule h)

      back : {e : Refusal} → RebuildRefuses f n e → lent n a ≡ refused e
      back (no_rule h) = ap (lent n) (rebuilds-once x (gives_none h)) ∙ lent-refused n NoRulesFormula
      back (rule_longer {rule} p l) = ap (lent n) (rebuilds-once x (gives p)) ∙ lent-short n rule l
