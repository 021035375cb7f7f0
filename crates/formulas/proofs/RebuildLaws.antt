-- Rebuilding on texts: exactly the formulas of accepted rules, one rule for each, and how the reader of formulas finds it.
-- Assumes nothing.
use mathlib.Core.Path.{◌≡◌, refl, ap, sym, ◌∙◌}
use mathlib.Core.List.{[]}
use mathlib.Core.Option.{Option, none, some}
use mathlib.Core.Bool.{Bool, true, false}
use Prim.Native.Nat.{ℕ, ◌≤◌}
use native.Mathlib.Omega.{arith}
use lib.ListN.{length}
use Rattle.answers.specs.Answer.{Answer, refused, wrote}
use Rattle.answers.specs.declared.Refusal.{Refusal}
use Rattle.answers.specs.declared.Refusal.TheVariants.{NotARule, NoRulesFormula}
use Rattle.syntax.specs.Bytes.{Bytes, same}
use Rattle.syntax.specs.Rule.{Rule, rule_text, formula, read_formula, whole, rule_of_formula}
use Rattle.syntax.proofs.BytesLaws.{same-own, same_gives}
use Rattle.syntax.specs.Code.Reading.{clause_room}
use Rattle.syntax.proofs.RuleLaws.{formula-back, clauses-few, read-formula}
use Rattle.rules.proofs.AcceptLaws.{Accepted, accepted-gives}
pub use Rattle.rules.proofs.AcceptLaws.{none_true}
use Rattle.rules.specs.Accept.{refusal, is_none, accepted}
use Rattle.formulas.specs.Formulas.{formula_of, wrote_or, reduced, RuleOf, Rebuilds, gives, gives_none}
use Rattle.formulas.specs.Code.Rebuilding.{kept, rebuilt, rebuilt_answer}

-- What `reduced` writes is the formula of an accepted text, and the other way.

pub reduced-wrote : (s f : Bytes) → reduced s ≡ wrote f → (refusal s ≡ none) × (formula_of s ≡ some f)
unfolding reduced
reduced-wrote s f e = go (refusal s) (formula_of s) e
  where
    go : (r : Option Refusal) (o : Option Bytes) → ◌≡◌ {A = Answer} (elim r [ some x ↦ refused x | none ↦ wrote_or NotARule o ]) (wrote f) → (r ≡ none) × (o ≡ some f)
    go (some x) o e = (cc, cc)
    go none none e = (cc, cc)
    go none (some g) e = (refl, cc)

pub wrote-reduced : (s f : Bytes) → refusal s ≡ none → formula_of s ≡ some f → reduced s ≡ wrote f
unfolding reduced
wrote-reduced s f e q = rw (e, q, reduced)

pub accepted-formula : {s : Bytes} (a : Accepted s) → formula_of s ≡ some (formula a.rule)
unfolding formula_of
accepted-formula a = rw (a.reads, formula_of)

pub rule-of : {f s : Bytes} → reduced s ≡ wrote f → RuleOf f s
rule-of {f} {s} e =
    let p = reduced-wrote s f e in
    record { accepts = ap is_none p.0; formula = p.1 }

-- The rule of a formula: its tree, its text, and the formula that `reduced` writes of it.
module _ {f s : Bytes} (p : RuleOf f s) where
  pub rule-accepted : Accepted s
  rule-accepted = accepted-gives s (none_true (refusal s) p.accepts)

  pub rule-formula : formula rule-accepted.rule ≡ f
  rule-formula = cc (accepted-formula rule-accepted, p.formula)

  pub rule-reduced : reduced s ≡ wrote f
  rule-reduced = wrote-reduced s f (none_true (refusal s) p.accepts) p.formula

-- The reader of formulas finds the rule of every formula of an accepted rule, within its bounds on clauses and quantifiers.
pub read_back : {s : Bytes} (a : Accepted s) → whole (read_formula clause_room 9 [] (formula a.rule)) ≡ some a.rule
read_back a =
    let l : length (rule_text [] a.rule) ≤ clause_room = rw (← a.text) a.short in
    read-formula clause_room 9 a.rule a.numbers (omega (arith, clauses-few [] a.rule)) (omega (arith, a.few))

-- It finds the one candidate.
module _ {f s : Bytes} (p : RuleOf f s) where
  pub rule-read : whole (read_formula clause_room 9 [] f) ≡ some (rule-accepted p).rule
  rule-read = ap (λ (g : Bytes). whole (read_formula clause_room 9 [] g)) (sym (rule-formula p)) ∙ read_back (rule-accepted p)

  pub rule-only : (ρ : Rule) → whole (read_formula clause_room 9 [] f) ≡ some ρ → s ≡ rule_text [] ρ
  rule-only ρ e =
      let h : (rule-accepted p).rule ≡ ρ = cc (rule-read, e) in
      (rule-accepted p).text ∙ ap (rule_text []) h

-- So two rules of one formula are one, and so are two answers of rebuilding.

pub rule-once : {f s t : Bytes} → RuleOf f s → RuleOf f t → s ≡ t
rule-once p q = rule-only p (rule-accepted q).rule (rule-read q) ∙ sym (rule-accepted q).text

pub rebuilds-once : {f : Bytes} {a b : Answer} → Rebuilds f a → Rebuilds f b → a ≡ b
rebuilds-once (gives p) (gives q) = ap wrote (rule-once p q)
rebuilds-once (gives {s = s} p) (gives_none n) = absurd (n s p)
rebuilds-once (gives_none n) (gives {s = s} p) = absurd (n s p)
rebuilds-once (gives_none n) (gives_none m) = refl

-- Reading, printing and comparing gives the rule of every formula, and nothing else.

kept_gives : (b : Bool) (g : Option Bytes) (f s r : Bytes) → kept b g f s ≡ some r → (b ≡ true) × (g ≡ some f) × (s ≡ r)
unfolding kept
kept_gives false g f s r e = (cc, cc, cc)
kept_gives true none f s r e = (cc, cc, cc)
kept_gives true (some g) f s r e = go (same g f) refl e
  where
    go : (b : Bool) → same g f ≡ b → ◌≡◌ {A = Option Bytes} (elim b [ false ↦ none | true ↦ some s ]) (some r) → (true ≡ true) × (some g ≡ some f) × (s ≡ r)
    go false q e = (cc, cc, cc)
    go true q e = (refl, ap some (same_gives g f q), cc)

kept-own : (f s : Bytes) → kept true (some f) f s ≡ some s
unfolding kept
kept-own f s = rw (same-own f, kept)

rebuilt-gives : (f s : Bytes) → rebuilt f ≡ some s → RuleOf f s
unfolding rebuilt
rebuilt-gives f s e = go (rule_of_formula f) e
  where
    go : (o : Option Rule) → ◌≡◌ {A = Option Bytes} (elim o [ none ↦ none | some ρ ↦ kept (accepted (rule_text [] ρ)) (formula_of (rule_text [] ρ)) f (rule_text [] ρ) ]) (some s)
        → RuleOf f s
    go none e = let z : ◌≡◌ {A = ℕ} 0 1 = cc in absurd (omega arith)
    go (some ρ) e =
        let k = kept_gives (accepted (rule_text [] ρ)) (formula_of (rule_text [] ρ)) f (rule_text [] ρ) s e in
        rw (← k.2) (record { accepts = k.0; formula = k.1 })

gives-rebuilt : {f s : Bytes} → RuleOf f s → rebuilt f ≡ some s
unfolding rebuilt
gives-rebuilt {f} {s} p =
    let a = rule-accepted p in
    let q : rule_of_formula f ≡ some a.rule = ap rule_of_formula (sym (rule-formula p)) ∙ formula-back a.rule a.numbers in
    rw (q, rebuilt) (rw (← a.text, p.accepts, p.formula) (kept-own f s))

pub rebuilt-answer : (f : Bytes) → Rebuilds f (rebuilt_answer f)
unfolding rebuilt_answer
rebuilt-answer f = go (rebuilt f) refl
  where
    go : (o : Option Bytes) → rebuilt f ≡ o → Rebuilds f (wrote_or NoRulesFormula o)
    go none q = gives_none (λ s p. let z : ◌≡◌ {A = ℕ} 0 1 = cc (gives-rebuilt p) in omega arith)
    go (some s) q = gives (rebuilt-gives f s q)
