-- The refusals 11 to 15, one after the other; and what it says of a rule that none of them refuses its text.
-- Assumes nothing.
use mathlib.Core.Path.{◌≡◌, refl}
use mathlib.Core.List.{[]}
use mathlib.Core.Bool.{Bool, true, false, ◌&&◌, and-eq-true_iff}
use mathlib.Core.Option.{Option, none, some}
use Prim.Native.Nat.{ℕ, ◌<◌, ◌≤◌}
use native.Mathlib.Decide.{dec_lt}
use native.Mathlib.Omega.{arith}
use lib.Dec.{ltb, leb, lit≤}
use lib.ListN.{length}
use borrow.Author.Tests.{lt-ltb, le-ltb, le-leb, lt-leb, leb-true}
use Rattle.answers.specs.Refusal.{number_of}
use Rattle.answers.specs.declared.Refusal.{Refusal}
use Rattle.answers.specs.declared.Refusal.TheVariants.{RuleLength, Deep, NotARule, KindMismatch, Choices}
use Rattle.syntax.specs.Bytes.{Bytes}
use Rattle.syntax.specs.Rule.{Rule, RuleFits, rule_text, rule_vars, formula, rule_of}
use Rattle.syntax.proofs.RuleLaws.{rule-text}
use Rattle.syntax.proofs.Length.{formula-short}
use Rattle.rules.specs.Accept.{rule_limit, choices_limit, deep, tree_refusal, refusal, is_none}
use Rattle.rules.specs.Kind.{rule_kinds}
use Rattle.rules.specs.Code.Parsed.{FitText}

pub none_true : (o : Option Refusal) → is_none o ≡ true → o ≡ none
none_true none e = refl
none_true (some r) e = cc

pub refuse-empty : (s : Bytes) → length s ≡ 0 → refusal s ≡ some RuleLength
unfolding refusal
refuse-empty s h =
    let l : length s ≤ 0 = omega arith in
    rw (le-ltb 0 (length s) l, refusal)

pub refuse-long : (s : Bytes) → rule_limit < length s → refusal s ≡ some RuleLength
unfolding refusal
refuse-long s h =
    let l : 0 < length s = omega arith in
    rw (lt-ltb 0 (length s) l, lt-leb (length s) rule_limit h, refusal)

pub refuse-deep : (s : Bytes) → 0 < length s → length s ≤ rule_limit → deep 0 0 s ≡ true → refusal s ≡ some Deep
unfolding refusal
refuse-deep s lo hi d = rw (lt-ltb 0 (length s) lo, le-leb (length s) rule_limit hi, d, refusal)

module _ (s : Bytes) (f : FitText s) where
  pub refuse-text : rule_of s ≡ none → refusal s ≡ some NotARule
  unfolding refusal
  refuse-text e = rw (lt-ltb 0 (length s) f.long, le-leb (length s) rule_limit f.short, f.shallow, e, refusal)

  pub refuse-tree : {ρ : Rule} → rule_of s ≡ some ρ → refusal s ≡ tree_refusal ρ
  unfolding refusal
  refuse-tree e = rw (lt-ltb 0 (length s) f.long, le-leb (length s) rule_limit f.short, f.shallow, e, refusal)

module _ (ρ : Rule) where
  pub tree-mismatch : rule_kinds ρ ≡ false → tree_refusal ρ ≡ some KindMismatch
  unfolding tree_refusal
  tree-mismatch k = rw (k, tree_refusal)

  pub tree-choices : rule_kinds ρ ≡ true → choices_limit < length (rule_vars [] ρ) → tree_refusal ρ ≡ some Choices
  unfolding tree_refusal
  tree-choices k c = rw (k, lt-leb (length (rule_vars [] ρ)) choices_limit c, tree_refusal)

  pub tree-fits : rule_kinds ρ ≡ true → length (rule_vars [] ρ) ≤ choices_limit → tree_refusal ρ ≡ none
  unfolding tree_refusal
  tree-fits k c = rw (k, le-leb (length (rule_vars [] ρ)) choices_limit c, tree_refusal)

  -- The other way round: no refusal, so the kinds fit and the variables are few.
  module _ (e : tree_refusal ρ ≡ none) where
    pub tree-kinds : rule_kinds ρ ≡ true
    tree-kinds = go (rule_kinds ρ) refl
      where
        go : (b : Bool) → rule_kinds ρ ≡ b → rule_kinds ρ ≡ true
        go true k = k
        go false k = cc (tree-mismatch k, e)

    pub tree-few : length (rule_vars [] ρ) ≤ choices_limit
    tree-few = go (dec_lt choices_limit (length (rule_vars [] ρ)))
      where
        go : Dec (choices_limit < length (rule_vars [] ρ)) → length (rule_vars [] ρ) ≤ choices_limit
        go (yes l) = let z : ◌≡◌ {A = ℕ} 0 1 = cc (tree-choices tree-kinds l, e) in absurd (omega arith)
        go (no n) = omega arith

-- The first refusal, by what the checks find: a fit length, deep brackets, a rule.
abbrev first_of : Bool → Bool → Option Rule → Option Refusal
first_of b d o =
    elim b [
      | false ↦ some RuleLength
      | true ↦ elim d [ true ↦ some Deep | false ↦ elim o [ none ↦ some NotARule | some ρ ↦ tree_refusal ρ ] ]
    ]

-- What it says of a text that none of 11 to 15 refuses it.
pub record Accepted (s : Bytes) : Type 0 where
  pub rule : Rule
  pub reads : rule_of s ≡ some rule
  pub text : s ≡ rule_text [] rule
  pub numbers : RuleFits rule
  pub short : length s ≤ rule_limit
  pub shallow : deep 0 0 s ≡ false
  pub fits : tree_refusal rule ≡ none
  pub few : length (rule_vars [] rule) ≤ choices_limit

pub accepted-gives : (s : Bytes) → refusal s ≡ none → Accepted s
unfolding refusal
accepted-gives s e = go (ltb 0 (length s) && leb (length s) rule_limit) (deep 0 0 s) (rule_of s) refl refl refl e
  where
    go : (b d : Bool) (o : Option Rule) → (ltb 0 (length s) && leb (length s) rule_limit) ≡ b → deep 0 0 s ≡ d → rule_of s ≡ o → first_of b d o ≡ none → Accepted s
    go false d o p h q e = let z : ◌≡◌ {A = ℕ} 0 1 = cc in absurd (omega arith)
    go true true o p h q e = let z : ◌≡◌ {A = ℕ} 0 1 = cc in absurd (omega arith)
    go true false none p h q e = let z : ◌≡◌ {A = ℕ} 0 1 = cc in absurd (omega arith)
    go true false (some ρ) p h q e =
        let w = rule-text s ρ q in
        record {
          rule = ρ;
          reads = q;
          text = w.0;
          numbers = w.1;
          short = leb-true _ _ ((and-eq-true_iff (ltb 0 (length s)) (leb (length s) rule_limit)).0 p).1;
          shallow = h;
          fits = e;
          few = tree-few ρ e;
        }

pub accepted-rule : (s : Bytes) → refusal s ≡ none → (ρ : Rule) × (rule_of s ≡ some ρ) × (tree_refusal ρ ≡ none)
accepted-rule s e = let a = accepted-gives s e in (a.rule, a.reads, a.fits)

-- "No formula passes 4,096 bytes."
pub formula-within : {s : Bytes} (a : Accepted s) → length (formula a.rule) ≤ 4096
formula-within a = formula-short a.rule (rw (← a.text) a.short) a.few

pub accepted-tree : (s : Bytes) (ρ : Rule) → refusal s ≡ none → rule_of s ≡ some ρ → tree_refusal ρ ≡ none
accepted-tree s ρ e h =
    let a = accepted-rule s e in
    let same : a.0 ≡ ρ = cc (a.1, h) in
    rw (← same) a.2

-- The refusal of any other text is one of 11 to 15.
abbrev pub Early : Refusal → Type 0
Early r = (11 ≤ number_of r) × (number_of r ≤ 15)

tree-early : (ρ : Rule) (r : Refusal) → tree_refusal ρ ≡ some r → Early r
unfolding tree_refusal
tree-early ρ r e = go (rule_kinds ρ) (leb (length (rule_vars [] ρ)) choices_limit) e
  where
    go : (k b : Bool) → ◌≡◌ {A = Option Refusal} (elim k [ false ↦ some KindMismatch | true ↦ elim b [ false ↦ some Choices | true ↦ none ] ]) (some r) → Early r
    go false b q = let p : KindMismatch ≡ r = cc in rw (← p) (lit≤ tt, lit≤ tt)
    go true false q = let p : Choices ≡ r = cc in rw (← p) (lit≤ tt, lit≤ tt)
    go true true q = let z : ◌≡◌ {A = ℕ} 0 1 = cc in absurd (omega arith)

pub refused-early : (s : Bytes) (r : Refusal) → refusal s ≡ some r → Early r
unfolding refusal
refused-early s r e = go (ltb 0 (length s) && leb (length s) rule_limit) (deep 0 0 s) (rule_of s) e
  where
    go : (b d : Bool) (o : Option Rule) → first_of b d o ≡ some r → Early r
    go false d o q = let p : RuleLength ≡ r = cc in rw (← p) (lit≤ tt, lit≤ tt)
    go true true o q = let p : Deep ≡ r = cc in rw (← p) (lit≤ tt, lit≤ tt)
    go true false none q = let p : NotARule ≡ r = cc in rw (← p) (lit≤ tt, lit≤ tt)
    go true false (some ρ) q = tree-early ρ r q
