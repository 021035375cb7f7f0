-- The quantifier part of a rule's formula tells its variables: it is their quantifiers, and these are read back.
-- Assumes nothing.
use mathlib.Core.Path.{◌≡◌, refl, ap, sym, ◌∙◌}
use mathlib.Core.List.{[], ◌∷◌, ◌++◌, append_assoc}
use mathlib.Core.Logic.{◌↔◌}
use mathlib.Core.Option.{Option, none, some}
use Prim.Native.Nat.{ℕ, suc, ◌+◌, ◌≤◌, ◌<◌}
use native.Mathlib.Omega.{arith}
use lib.ListN.{length, drop, length-append}
use borrow.Author.Tests.{ne_eqb}
use Rattle.syntax.specs.Bytes.{Bytes, ascii}
use Rattle.syntax.specs.Term.{Base, b_u, b_r, b_op, b_obj, b_p, b_s, b_cr, b_cp, b_cu, Fn, user, roles, roles*, sessions, permissions, permissions*, object, operations, done}
use Rattle.syntax.specs.Term.{meet, join, Pair, calls, joins, Term, base, call, oe, ao, two, Term≟, Choices, digit_from, digit, is_base, is_call, is_oe, is_ao, is_bracket, is_choice, is_less}
use Rattle.syntax.specs.Term.{spell, spell_middle, opening, parting, oe_text, ao_text, text}
use Rattle.syntax.specs.Rule.{Rule, rule_text, rule_vars, rule_of, formula}
use Rattle.syntax.specs.Code.Printing.{quantifiers_after, printed}
use Rattle.syntax.proofs.TermLaws.{term-split}
use Rattle.syntax.proofs.Closed.{formula-in}
use Rattle.rules.specs.Accept.{choices_limit, refusal}
use Rattle.rules.proofs.AcceptLaws.{accepted-gives}
use Rattle.formulas.specs.Quantifiers.{colon, quantifier_part}

-- A text without `:`.

record Free (w : Bytes) : Type 0 where
  past : (r : Bytes) → quantifier_part (w ++ r) ≡ w ++ quantifier_part r

free-none : Free []
free-none = record { past = λ r. refl }

free-byte : (x : ℕ) (w : Bytes) → (x ≡ colon → ⊥) → Free w → Free (x ∷ w)
unfolding quantifier_part
free-byte x w h f = record { past = λ r. rw (ne_eqb x colon h) (ap (λ (s : Bytes). x ∷ s) (f.past r)) }

free-join : (u w : Bytes) → Free u → Free w → Free (u ++ w)
free-join u w f g =
    record { past = λ r. ap quantifier_part (append_assoc u w r) ∙ f.past (w ++ r) ∙ ap (λ (s : Bytes). u ++ s) (g.past r) ∙ sym (append_assoc u w (quantifier_part r)) }

free-base : (b : Base) → Free (spell (is_base b))
unfolding spell quantifier_part
free-base b_u = record { past = λ r. refl }
free-base b_r = record { past = λ r. refl }
free-base b_op = record { past = λ r. refl }
free-base b_obj = record { past = λ r. refl }
free-base b_p = record { past = λ r. refl }
free-base b_s = record { past = λ r. refl }
free-base b_cr = record { past = λ r. refl }
free-base b_cp = record { past = λ r. refl }
free-base b_cu = record { past = λ r. refl }

free-call : (f : Fn) → Free (spell (is_call f))
unfolding spell quantifier_part
free-call user = record { past = λ r. refl }
free-call roles = record { past = λ r. refl }
free-call roles* = record { past = λ r. refl }
free-call sessions = record { past = λ r. refl }
free-call permissions = record { past = λ r. refl }
free-call permissions* = record { past = λ r. refl }
free-call object = record { past = λ r. refl }

free-opening : (o : Pair) → Free (spell (opening o))
unfolding spell opening quantifier_part
free-opening (calls operations) = record { past = λ r. refl }
free-opening (calls done) = record { past = λ r. refl }
free-opening (joins o) = record { past = λ r. refl }

free-parting : (o : Pair) → Free (parting o)
unfolding parting spell_middle quantifier_part
free-parting (calls operations) = record { past = λ r. refl }
free-parting (calls done) = record { past = λ r. refl }
free-parting (joins meet) = record { past = λ r. refl }
free-parting (joins join) = record { past = λ r. refl }

free-close : Free (ascii ")")
unfolding quantifier_part
free-close = record { past = λ r. refl }

-- The digit of one of at most 8 variables is no `:`.

digit-below : (d : ℕ) (σ : Choices) (a : Term) {c : ℕ} → digit_from d σ a ≡ some c → c < d + length σ
unfolding digit_from
digit-below d [] a e = let z : ◌≡◌ {A = ℕ} 0 1 = cc in absurd (omega arith)
digit-below d (x ∷ σ) a {c} e = go (λ h. digit-below (suc d) σ a h) (Term≟ x a) e
  where
    go : (digit_from (suc d) σ a ≡ some c → c < suc d + length σ) → (q : Dec (x ≡ a)) → ◌≡◌ {A = Option ℕ} (elim q [ yes p ↦ some d | no n ↦ digit_from (suc d) σ a ]) (some c) → c < d + suc (length σ)
    go ih (yes p) e = let z : c ≡ d = cc in omega arith
    go ih (no n) e = omega (arith, ih e)

module _ (σ : Choices) (few : length σ ≤ choices_limit) where
  free-oe : (o : Option ℕ) (a : Term) → digit σ a ≡ o → (w : Bytes) → Free w → Free (oe_text o w)
  unfolding oe_text spell quantifier_part
  free-oe none a e w f = free-join (spell is_oe) (w ++ ascii ")") (record { past = λ r. refl }) (free-join w (ascii ")") f free-close)
  free-oe (some d) a e w f = free-join (spell is_choice) (d ∷ []) (record { past = λ r. refl }) (free-byte d [] (λ q. omega (arith, digit-below 49 σ a e)) free-none)

  free-ao : (o : Option ℕ) (a : Term) → digit σ a ≡ o → (w : Bytes) → Free w → Free (ao_text o w)
  unfolding ao_text spell spell_middle quantifier_part
  free-ao none a e w f = free-join (spell is_ao) (w ++ ascii ")") (record { past = λ r. refl }) (free-join w (ascii ")") f free-close)
  free-ao (some d) a e w f =
      free-join (spell is_bracket) (w ++ (spell_middle is_less ++ (d ∷ ascii "})"))) (record { past = λ r. refl })
      (free-join w (spell_middle is_less ++ (d ∷ ascii "})")) f
      (free-join (spell_middle is_less) (d ∷ ascii "})") (record { past = λ r. refl }) (free-byte d (ascii "})") (λ q. omega (arith, digit-below 49 σ a e)) (record { past = λ r. refl }))))

  free-text : (t : Term) → Free (text σ t)
  unfolding text
  free-text (base b) = free-base b
  free-text (call f a) = free-join (spell (is_call f)) (text σ a ++ ascii ")") (free-call f) (free-join (text σ a) (ascii ")") (free-text a) free-close)
  free-text (oe a) = free-oe (digit σ a) a refl (text σ a) (free-text a)
  free-text (ao a) = free-ao (digit σ a) a refl (text σ a) (free-text a)
  free-text (two o a b) =
      free-join (spell (opening o)) (text σ a ++ (parting o ++ (text σ b ++ ascii ")"))) (free-opening o)
      (free-join (text σ a) (parting o ++ (text σ b ++ ascii ")")) (free-text a)
      (free-join (parting o) (text σ b ++ ascii ")") (free-parting o) (free-join (text σ b) (ascii ")") (free-text b) free-close)))

free-quantifiers : (σ xs : Choices) → length σ + length xs ≤ choices_limit → Free (quantifiers_after σ xs)
unfolding quantifiers_after quantifier_part
free-quantifiers σ [] few = free-none
free-quantifiers σ (x ∷ xs) few =
    let l : length (σ ++ (x ∷ [])) + length xs ≤ choices_limit = simp length-append (omega arith) in
    free-join (ascii "[v") ((49 + length σ) ∷ (ascii "@" ++ (text σ x ++ (ascii "]" ++ quantifiers_after (σ ++ (x ∷ [])) xs)))) (record { past = λ r. refl })
    (free-byte (49 + length σ) (ascii "@" ++ (text σ x ++ (ascii "]" ++ quantifiers_after (σ ++ (x ∷ [])) xs))) (λ q. omega arith)
    (free-join (ascii "@") (text σ x ++ (ascii "]" ++ quantifiers_after (σ ++ (x ∷ [])) xs)) (record { past = λ r. refl })
    (free-join (text σ x) (ascii "]" ++ quantifiers_after (σ ++ (x ∷ [])) xs) (free-text σ (omega arith) x)
    (free-join (ascii "]") (quantifiers_after (σ ++ (x ∷ [])) xs) (record { past = λ r. refl }) (free-quantifiers (σ ++ (x ∷ [])) xs l)))))

-- So the part is the quantifiers and `:`.
pub part-is : (ρ : Rule) → length (rule_vars [] ρ) ≤ choices_limit → quantifier_part (formula ρ) ≡ quantifiers_after [] (rule_vars [] ρ) ++ ascii ":"
unfolding printed quantifier_part
part-is ρ few = ap quantifier_part (formula-in ρ) ∙ (free-quantifiers [] (rule_vars [] ρ) (omega arith)).past (ascii ":" ++ rule_text (rule_vars [] ρ) ρ)

-- Quantifiers that are written alike are of the same variables.
quantifiers-one : (σ xs ys : Choices) → quantifiers_after σ xs ++ ascii ":" ≡ quantifiers_after σ ys ++ ascii ":" → xs ≡ ys
unfolding quantifiers_after
quantifiers-one σ [] [] e = refl
quantifiers-one σ [] (y ∷ ys) e = let z : ◌≡◌ {A = ℕ} 58 91 = cc in absurd (omega arith)
quantifiers-one σ (x ∷ xs) [] e = let z : ◌≡◌ {A = ℕ} 58 91 = cc in absurd (omega arith)
quantifiers-one σ (x ∷ xs) (y ∷ ys) e =
    let q : text σ x ++ (93 ∷ (quantifiers_after (σ ++ (x ∷ [])) xs ++ ascii ":")) ≡ text σ y ++ (93 ∷ (quantifiers_after (σ ++ (y ∷ [])) ys ++ ascii ":")) =
    sym (append_assoc (text σ x) (93 ∷ quantifiers_after (σ ++ (x ∷ [])) xs) (ascii ":")) ∙ ap (drop 4) e ∙ append_assoc (text σ y) (93 ∷ quantifiers_after (σ ++ (y ∷ [])) ys) (ascii ":") in
    let s = term-split σ x y (93 ∷ (quantifiers_after (σ ++ (x ∷ [])) xs ++ ascii ":")) (93 ∷ (quantifiers_after (σ ++ (y ∷ [])) ys ++ ascii ":")) q in
    let p : x ≡ y = s.0 in
    let f : quantifiers_after (σ ++ (x ∷ [])) xs ++ ascii ":" ≡ quantifiers_after (σ ++ (x ∷ [])) ys ++ ascii ":" =
    ap (drop 1) s.1 ∙ ap (λ (t : Term). quantifiers_after (σ ++ (t ∷ [])) ys ++ ascii ":") (sym p) in
    let r : xs ≡ ys = quantifiers-one (σ ++ (x ∷ [])) xs ys f in
    cc

-- Two rules with at most 8 variables have one quantifier part exactly where they have the same variables.
pub part-vars : (ρ π : Rule) → length (rule_vars [] ρ) ≤ choices_limit → length (rule_vars [] π) ≤ choices_limit → (quantifier_part (formula ρ) ≡ quantifier_part (formula π)) ↔ (rule_vars [] ρ ≡ rule_vars [] π)
part-vars ρ π a b = (
  λ e. quantifiers-one [] (rule_vars [] ρ) (rule_vars [] π) (sym (part-is ρ a) ∙ e ∙ part-is π b),
  λ e. part-is ρ a ∙ ap (λ (σ : Choices). quantifiers_after [] σ ++ ascii ":") e ∙ sym (part-is π b),
)

-- And so have accepted texts.
pub accepted-part : (s t : Bytes) (ρ π : Rule) → refusal s ≡ none → refusal t ≡ none → rule_of s ≡ some ρ → rule_of t ≡ some π → (quantifier_part (formula ρ) ≡ quantifier_part (formula π)) ↔ (rule_vars [] ρ ≡ rule_vars [] π)
accepted-part s t ρ π a b e f =
    let g = accepted-gives s a in
    let h = accepted-gives t b in
    let p : g.rule ≡ ρ = cc (g.reads, e) in
    let q : h.rule ≡ π = cc (h.reads, f) in
    part-vars ρ π (rw p at g.few) (rw q at h.few)
