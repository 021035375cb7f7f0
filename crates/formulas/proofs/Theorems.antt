-- What is promised of rule to formula and formula to rule, of the answers themselves, for every input and every lent length.
-- Assumes nothing.
use mathlib.Core.Path.{◌≡◌, ap, ◌∙◌}
use mathlib.Core.List.{[]}
use mathlib.Core.Option.{some}
use mathlib.Core.Bool.{Bool, true, false}
use mathlib.Core.Logic.{◌↔◌}
use Prim.Native.Nat.{ℕ, ◌≤◌}
use native.Mathlib.Omega.{arith}
use lib.Dec.{leb}
use lib.ListN.{length}
use Rattle.answers.specs.Answer.{Answer, refused, wrote, answer_number, if_room, lent}
use Rattle.answers.specs.declared.Refusal.TheVariants.{NoRulesFormula}
use Rattle.answers.proofs.AnswerLaws.{lent-wrote, lent-refused, lent_fits}
use Rattle.syntax.specs.Bytes.{Bytes}
use Rattle.syntax.specs.Rule.{Rule, RuleFits, rule_text, formula, rule_of}
use Rattle.syntax.proofs.RuleLaws.{rule-back, rule-text}
use Rattle.rules.specs.Accept.{refusal, accepted}
use Rattle.formulas.specs.Formulas.{formula_of, reduced, Rebuilds, gives, gives_none}
use Rattle.rules.proofs.AcceptLaws.{accepted-gives, formula-within}
use Rattle.formulas.proofs.RebuildLaws.{reduced-wrote, wrote-reduced, accepted-formula}
use Rattle.formulas.proofs.RebuildLaws.{none_true, rule-of, rule-once, rebuilds-once}

-- "For an accepted rule the bytes written are the formula of document 01": of the rule that the text is.
pub formula-written : (r : Bytes) → accepted r ≡ true → (ρ : Rule) × (r ≡ rule_text [] ρ) × ((n : ℕ) → length (formula ρ) ≤ n → lent n (reduced r) ≡ wrote (formula ρ))
formula-written r e =
    let a = accepted-gives r (none_true (refusal r) e) in
    let q : reduced r ≡ wrote (formula a.rule) = wrote-reduced r (formula a.rule) (none_true (refusal r) e) (accepted-formula a) in
    (a.rule, a.text, λ n h. rw q (lent_fits n (formula a.rule) h))

-- "Two formulas are equal exactly when the rules are."
pub formulas-equal : (r s f g : Bytes) (n m : ℕ) → lent n (reduced r) ≡ wrote f → lent m (reduced s) ≡ wrote g → (f ≡ g) ↔ (r ≡ s)
formulas-equal r s f g n m p q =
    let a = lent-wrote n (reduced r) f p in
    let b = lent-wrote m (reduced s) g q in
    (λ e. rule-once (rule-of a) (rw e (rule-of b)), λ e. cc)

-- A rule is given back exactly where it is accepted and this is its formula.
pub rule-given : (f s : Bytes) → Rebuilds f (wrote s) ↔ ((accepted s ≡ true) × (formula_of s ≡ some f))
rule-given f s = (λ x. go x, λ p. gives (record { accepts = p.0; formula = p.1 }))
  where
    go : Rebuilds f (wrote s) → (accepted s ≡ true) × (formula_of s ≡ some f)
    go (gives p) = (p.accepts, p.formula)

-- "Every such formula handed back with any output long enough gives exactly its rule."
pub formula-handed-back : (r f : Bytes) (n m : ℕ) → lent n (reduced r) ≡ wrote f → length r ≤ m → (a : Answer) → Rebuilds f a → lent m a ≡ wrote r
formula-handed-back r f n m p h a x = rw (rebuilds-once x (gives (rule-of (lent-wrote n (reduced r) f p)))) (lent_fits m r h)

-- "Other bytes give back none whatever the output": bytes that are no accepted rule's formula are 16, and no others are.
pub others-refused : (f : Bytes) → ((s : Bytes) → accepted s ≡ true → formula_of s ≡ some f → ⊥) → (m : ℕ) (a : Answer) → Rebuilds f a → lent m a ≡ refused NoRulesFormula
others-refused f h m a x = ap (lent m) (rebuilds-once x (gives_none (λ s p. h s p.accepts p.formula))) ∙ lent-refused m NoRulesFormula

pub refused-others : (f : Bytes) (m : ℕ) (a : Answer) → Rebuilds f a → lent m a ≡ refused NoRulesFormula → (s : Bytes) → accepted s ≡ true → formula_of s ≡ some f → ⊥
unfolding lent
refused-others f m a x e s h g = go (leb (length s) m) (ap (lent m) (rebuilds-once (gives (record { accepts = h; formula = g })) x) ∙ e)
  where
    go : (b : Bool) → if_room b s ≡ refused NoRulesFormula → ⊥
    go true e = let z : ◌≡◌ {A = ℕ} 0 1 = cc in omega arith
    go false e = let z : ◌≡◌ {A = ℕ} 17 16 = ap answer_number e in omega arith

-- "No formula passes 4,096 bytes."
pub formula-at-most : (r f : Bytes) (n : ℕ) → lent n (reduced r) ≡ wrote f → length f ≤ 4096
formula-at-most r f n p =
    let w = reduced-wrote r f (lent-wrote n (reduced r) f p) in
    let a = accepted-gives r w.0 in
    let q : formula a.rule ≡ f = cc (accepted-formula a, w.1) in
    rw q at (formula-within a)

-- "The text read and the text printed are the same": a text is read as a rule exactly where it is that rule's text.
pub text-printed : (s : Bytes) (ρ : Rule) → (rule_of s ≡ some ρ) ↔ ((s ≡ rule_text [] ρ) × RuleFits ρ)
text-printed s ρ = (λ e. rule-text s ρ e, λ p. rw p.0 (rule-back ρ p.1))

-- A rule that is given back has at most 256 bytes.
pub rule-at-most : (f r : Bytes) (m : ℕ) (a : Answer) → Rebuilds f a → lent m a ≡ wrote r → length r ≤ 256
rule-at-most f r m a x e =
    let y : Rebuilds f (wrote r) = rw (lent-wrote m a r e) at x in
    (accepted-gives r (none_true (refusal r) ((rule-given f r).0 y).0)).short
