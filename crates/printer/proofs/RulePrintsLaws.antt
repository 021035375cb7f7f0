-- The writers of tests, clauses, rules and quantifiers, by the operation of their node.
-- Assumes nothing.
use mathlib.Core.Path.{◌≡◌, refl, ap, sym, ◌∙◌}
use mathlib.Core.List.{List, [], ◌∷◌, ◌++◌, append_assoc}
use Prim.Native.Nat.{ℕ, ◌+◌, ◌%◌, ◌≤◌, ◌<◌}
use native.Mathlib.Omega.{arith}
use native.Mathlib.Numerals.{add-one}
use lib.ListN.{length, get_or, take}
use lib.Seq.{take_all}
use Rattle.syntax.specs.Bytes.{Bytes, ascii}
use Rattle.syntax.specs.Term.{Term, Choices, text}
use Rattle.syntax.specs.Rule.{digits, test_text, clause_text, rule_text}
use Rattle.syntax.specs.Code.Printing.{quantifiers_after}
use Rattle.syntax.specs.Code.Arena.{Holds, HoldsTest, HoldsClause, HoldsRule}
use Rattle.syntax.specs.Code.Nodes.{first_empty, first_numbered, first_counted, when_op, also_op, op_at, left_at, right_at}
use Rattle.printer.specs.Code.Signs.{sign_of, bound}
use Rattle.printer.specs.declared.sheet.Sheet.{Sheet}
use Rattle.printer.specs.Code.Printed.{Adds, Appends, Printable, left_text, right_text, quantifier, formula_in}
use Rattle.printer.proofs.PrintedLaws.{adds-as, adds-empty, adds_then}
use Rattle.printer.proofs.PrintsLaws.{appends-as, appends-one}
use Rattle.printer.proofs.RuleTextLaws.{test-text, left-term, left-count, right-term, right-empty, right-number, right-count, clause-plain, clause-when, rule-last}
use Rattle.printer.proofs.RuleTextLaws.{rule-also, split, quantifiers-more}
use Rattle.syntax.proofs.NameLaws.{all-length}

-- Of both terms.
abbrev Both : {A B : Type 0} → (A → Type 0) → (B → Type 0) → A × B → Type 0
Both H K p = H p.0 × K p.1

abbrev counted : Choices → Term → Bytes
counted σ a = ascii "|" ++ (text σ a ++ ascii "|")

module _ {ns vs : List ℕ} {k : ℕ} (w : Printable ns k vs) {op : ℕ} (e : op ≡ op_at ns k) {old new : Sheet} where
  module _ {l : ℕ} (q : l ≡ left_at ns k) where
    pub appends-left : op < first_numbered → Appends ns vs (Holds ns l) text old new → Appends ns vs (HoldsTest ns k) left_text old new
    appends-left h p = appends-as (λ σ t y x. left-term ns k σ t (omega arith) x) (rw q at p)

    pub appends-left-count : first_numbered ≤ op → Appends ns vs (Holds ns l) counted old new → Appends ns vs (HoldsTest ns k) left_text old new
    appends-left-count h p = appends-as (λ σ t y x. left-count ns k σ t (omega arith) x) (rw q at p)

  module _ {m : ℕ} (u : m ≡ right_at ns k) where
    pub appends-right : op < first_empty → Appends ns vs (Holds ns m) text old new → Appends ns vs (HoldsTest ns k) right_text old new
    appends-right h p = appends-as (λ σ t y x. right-term ns k σ t (omega arith) x) (rw u at p)

    pub appends-right-count : first_counted ≤ op → Appends ns vs (Holds ns m) counted old new → Appends ns vs (HoldsTest ns k) right_text old new
    appends-right-count h p = appends-as (λ σ t y x. right-count ns k σ t (omega arith) x) (rw u at p)

    pub appends-right-number : first_numbered ≤ op → op < first_counted → Adds (digits (m % 100)) old new → Appends ns vs (HoldsTest ns k) right_text old new
    appends-right-number h g p =
        appends-one (λ σ t y x. ap (λ (i : ℕ). digits (i % 100)) u ∙ right-number ns k σ t (omega arith) (omega arith) x) p

  pub appends-right-empty : first_empty ≤ op → op < first_numbered → Adds (ascii "{}") old new → Appends ns vs (HoldsTest ns k) right_text old new
  appends-right-empty h g p = appends-one (λ σ t y x. right-empty ns k σ t (omega arith) (omega arith) x) p

  -- A test from its left, its sign and its right.
  pub appends-test : Appends ns vs (Both (HoldsTest ns k) (HoldsTest ns k)) (λ σ p. (left_text σ p.0 ++ sign_of op) ++ right_text σ p.1) old new
      → Appends ns vs (HoldsTest ns k) test_text old new
  appends-test p = appends-as (λ σ t y x. record { thing = (t, t); held = (x, x); written = test-text ns k σ t x }) (rw e at p)

  module _ {l m : ℕ} (q : l ≡ left_at ns k) (u : m ≡ right_at ns k) where
    pub appends-when : op ≡ when_op → Appends ns vs (Both (HoldsTest ns l) (HoldsTest ns m)) (λ σ p. (test_text σ p.0 ++ ascii "=>") ++ test_text σ p.1) old new
        → Appends ns vs (HoldsClause ns k) clause_text old new
    appends-when h p = appends-as (λ σ t y x. clause-when ns k σ t (sym e ∙ h) x) (rw q at (rw u at p))

    pub appends-also : op ≡ also_op → Appends ns vs (Both (HoldsClause ns l) (HoldsRule ns m)) (λ σ p. (clause_text σ p.0 ++ ascii "^") ++ rule_text σ p.1) old new
        → Appends ns vs (HoldsRule ns k) rule_text old new
    appends-also h p = appends-as (λ σ t y x. rule-also ns k σ t (sym e ∙ h) x) (rw q at (rw u at p))

  pub appends-plain : (op ≡ when_op → ⊥) → Appends ns vs (HoldsTest ns k) test_text old new → Appends ns vs (HoldsClause ns k) clause_text old new
  appends-plain h p = appends-as (λ σ t y x. clause-plain ns k σ t (λ z. h (e ∙ z)) x) p

  pub appends-last : (op ≡ also_op → ⊥) → Appends ns vs (HoldsClause ns k) clause_text old new → Appends ns vs (HoldsRule ns k) rule_text old new
  appends-last h p = appends-as (λ σ t y x. rule-last ns k σ t (λ z. h (e ∙ z)) x) p

-- Quantifiers.

-- One quantifier, from its parts, after those of d choices.
pub appends-quantifier : {ns vs : List ℕ} (i : ℕ) {d : ℕ} {old new : Sheet} → d ≡ length vs
    → Appends ns vs (Holds ns i) (λ σ x. (bound (49 + d) ++ text σ x) ++ ascii "]") old new → Appends ns vs (Holds ns i) quantifier old new
unfolding quantifier
appends-quantifier {ns} {vs} i {d} e p =
    appends-as
    (λ σ x y z.
    let l : length σ ≡ d = all-length ns vs σ y ∙ sym e in
    record { thing = x; held = z; written = rw l (ap (λ (b : Bytes). ascii "[v" ++ ((49 + d) ∷ b)) (append_assoc (ascii "@") (text σ x) (ascii "]"))) })
    p

-- The quantifiers of the first d choices were put.
abbrev pub Quantified : List ℕ → List ℕ → ℕ → Sheet → Sheet → Type 0
Quantified ns vs d old new = Appends {A = Unit {0}} ns vs (λ u. Unit {0}) (λ σ u. quantifiers_after [] (take d σ)) old new

pub quantified-none : {ns vs : List ℕ} (old : Sheet) → Quantified ns vs 0 old old
unfolding quantifiers_after
quantified-none old = record { same = refl; size = refl; shows = λ σ u y x. adds-empty old }

pub quantified-more : {ns vs : List ℕ} {d : ℕ} {old mid new : Sheet} → d < length vs → Quantified ns vs d old mid
    → Appends ns (take d vs) (Holds ns (get_or vs d 0)) quantifier mid new → Quantified ns vs (d + 1) old new
quantified-more {ns} {vs} {d} h p q =
    record {
      same = q.same ∙ p.same;
      size = q.size ∙ p.size;
      shows = λ σ u y x.
          let z = split ns vs σ d h y in
          adds-as (rw (add-one, z.upto) (quantifiers-more [] (take d σ) z.term)) (adds_then (p.shows σ tt y tt) (q.shows (take d σ) z.term z.before z.holds));
    }

-- The quantifiers, the colon and the rule.
pub appends-formula : {ns vs : List ℕ} (k : ℕ) {d : ℕ} {old mid pre new : Sheet} → length vs ≤ d → Quantified ns vs d old mid → Adds (ascii ":") mid pre
    → Appends ns vs (HoldsRule ns k) rule_text pre new → Appends ns vs (HoldsRule ns k) formula_in old new
appends-formula {ns} {vs} k {d} h p q u =
    record {
      same = u.same ∙ q.same ∙ p.same;
      size = u.size ∙ q.size ∙ p.size;
      shows = λ σ ρ y x.
          let e : take d σ ≡ σ = take_all d σ (omega (arith, all-length ns vs σ y)) in
          adds-as (ap (λ (l : Choices). quantifiers_after [] l ++ (ascii ":" ++ rule_text σ ρ)) e) (adds_then (p.shows σ tt y tt) (adds_then q (u.shows σ ρ y x)));
    }
