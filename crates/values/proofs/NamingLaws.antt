-- The variables that a set names are those written in it.
-- Assumes nothing.
use mathlib.Core.Path.{◌≡◌, refl, ap, sym, ◌∙◌}
use mathlib.Core.List.{[], ◌∷◌, ◌++◌, append_assoc, append-nil}
use mathlib.Core.Option.{Option, some}
use mathlib.Core.Bool.{Bool, true, false, ◌||◌, or_assoc, or_comm, or-false}
use Prim.Native.Nat.{ℕ, zero, suc, ◌+◌, ◌≤◌, ◌<◌}
use native.Mathlib.Omega.{arith}
use native.Mathlib.Decide.{ℕ_discrete}
use lib.Dec.{eqb}
use lib.ListN.{length, get_or, length-append}
use borrow.Author.Tests.{eq-eqb, ne_eqb}
use Rattle.syntax.specs.Bytes.{Bytes, ascii, is_got, only_if, skip, begins}
use Rattle.syntax.specs.Term.{Base, b_u, b_r, b_op, b_obj, b_p, b_s, b_cr, b_cp, b_cu, Fn, user, roles, roles*, sessions, permissions, permissions*}
use Rattle.syntax.specs.Term.{object, operations, done, meet, join, calls, joins, Term, base, call, oe, ao, two, Term≟, Choices, digit_from, digit}
use Rattle.syntax.specs.Term.{is_base, is_call, is_call2, is_bracket, spell, spell_middle, opening, parting, text, oe_text, ao_text}
use Rattle.syntax.specs.Rule.{Rule, rule_vars}
use Rattle.syntax.proofs.Closed.{In, Known, Ordered, text-more, rule-ordered}
use Rattle.rules.specs.Accept.{choices_limit}
use Rattle.values.specs.Values.{variable_of}
use Rattle.values.specs.Sets.{set_of, names_in, names}
use Rattle.values.specs.Naming.{writes}
use Rattle.values.proofs.VariableLaws.{variable-digit, variable-more}

-- The digit of a choice is that of its variable.
digit-is : (d : ℕ) (σ : Choices) (a : Term) (e : ℕ) → digit_from d σ a ≡ some e → e ≡ d + variable_of σ a
unfolding digit_from variable_of
digit-is d [] a e h = cc
digit-is d (x ∷ σ) a e h = go (λ q. digit-is (suc d) σ a e q) (Term≟ x a) h
  where
    go : (digit_from (suc d) σ a ≡ some e → e ≡ suc d + variable_of σ a) → (q : Dec (x ≡ a)) → (elim q as (λ _. Option ℕ) [ yes p ↦ some d | no n ↦ digit_from (suc d) σ a ]) ≡ some e
        → e ≡ d + (elim q as (λ _. ℕ) [ yes p ↦ 0 | no n ↦ suc (variable_of σ a) ])
    go ih (yes p) h = let z : d ≡ e = cc in omega arith
    go ih (no n) h = omega (arith, ih h)

same-digit : (u m : ℕ) → eqb (49 + u) (49 + m) ≡ eqb m u
same-digit u m = go (ℕ_discrete u m)
  where
    go : Dec (u ≡ m) → eqb (49 + u) (49 + m) ≡ eqb m u
    go (yes e) = rw (eq-eqb (49 + u) (49 + m) (omega arith), eq-eqb m u (omega arith))
    go (no n) = rw (ne_eqb (49 + u) (49 + m) (omega arith), ne_eqb m u (omega arith))

only-got : (b : Bool) (s : Bytes) → is_got (only_if b (skip []) s) ≡ b
unfolding skip
only-got true s = refl
only-got false s = refl

writes-variable : (u m : ℕ) (r : Bytes) → m < choices_limit → writes u (118 ∷ (49 + m) ∷ r) ≡ (eqb m u || writes u r)
unfolding writes begins skip
writes-variable u m r h = rw (only-got (eqb (49 + u) (49 + m)) r, same-digit u m, ne_eqb 118 (49 + m) (omega arith))

-- Names have no `v`.

writes-base : (u : ℕ) (b : Base) (r : Bytes) → writes u (spell (is_base b) ++ r) ≡ writes u r
unfolding writes begins skip spell
writes-base u b_u r = refl
writes-base u b_r r = refl
writes-base u b_op r = refl
writes-base u b_obj r = refl
writes-base u b_p r = refl
writes-base u b_s r = refl
writes-base u b_cr r = refl
writes-base u b_cp r = refl
writes-base u b_cu r = refl

writes-call : (u : ℕ) (f : Fn) (r : Bytes) → writes u (spell (is_call f) ++ r) ≡ writes u r
unfolding writes begins skip spell
writes-call u user r = refl
writes-call u roles r = refl
writes-call u roles* r = refl
writes-call u sessions r = refl
writes-call u permissions r = refl
writes-call u permissions* r = refl
writes-call u object r = refl

or-three : (a b c : Bool) → (a || (b || c)) ≡ ((b || a) || c)
or-three a b c = sym (or_assoc a b c) ∙ ap (λ (x : Bool). x || c) (or_comm a b)

-- A term whose choices are all among σ, of which there are not too many.
module _ (σ ys : Choices) (few : length σ ≤ choices_limit) (u : ℕ) where
  abbrev Names : Term → Type 0
  Names t = (r : Bytes) → writes u (text σ t ++ r) ≡ (names_in (σ ++ ys) t u || writes u r)

  -- The variable of a known choice.
  abbrev of : Term → ℕ
  of a = variable_of (σ ++ ys) a

  numbered : (a : Term) → In σ a → (digit σ a ≡ some (49 + of a)) × (of a < choices_limit)
  numbered a h =
      let l = variable-digit 49 σ a h.0 h.1 in
      let m = variable-more σ ys a l in
      let e : h.0 ≡ 49 + of a = omega (arith, digit-is 49 σ a h.0 h.1, m) in
      (h.1 ∙ ap some e, omega (arith, l, m))

  one : (a : Term) (o : Option ℕ) → o ≡ some (49 + of a) → of a < choices_limit → (r : Bytes) → writes u (oe_text o (text σ a) ++ r) ≡ (eqb (of a) u || writes u r)
  unfolding oe_text spell
  one a o e h r = rw e (writes-variable u (of a) r h)

  others : (a : Term) → Names a → (o : Option ℕ) → o ≡ some (49 + of a) → of a < choices_limit → (r : Bytes)
      → writes u (ao_text o (text σ a) ++ r) ≡ ((eqb (of a) u || names_in (σ ++ ys) a u) || writes u r)
  unfolding ao_text spell spell_middle writes begins skip
  others a ih o e h r =
      rw e
      (ap (writes u) (append_assoc (text σ a) (45 ∷ 123 ∷ 118 ∷ (49 + of a) ∷ 125 ∷ 41 ∷ []) r)
      ∙ ih (45 ∷ 123 ∷ 118 ∷ (49 + of a) ∷ 125 ∷ 41 ∷ r)
      ∙ ap (λ (b : Bool). names_in (σ ++ ys) a u || b) (writes-variable u (of a) (125 ∷ 41 ∷ r) h)
      ∙ or-three (names_in (σ ++ ys) a u) (eqb (of a) u) (writes u r))

  -- Two terms in brackets, with a byte between.
  pair : (w : Bytes) (k : ℕ) (a b : Term) → ((s : Bytes) → writes u (w ++ s) ≡ writes u s) → ((s : Bytes) → writes u (k ∷ s) ≡ writes u s) → Names a → Names b → (r : Bytes)
      → writes u ((w ++ (text σ a ++ ((k ∷ []) ++ (text σ b ++ ascii ")")))) ++ r) ≡ ((names_in (σ ++ ys) a u || names_in (σ ++ ys) b u) || writes u r)
  unfolding writes begins skip
  pair w k a b g h p q r =
      let z : (w ++ (text σ a ++ ((k ∷ []) ++ (text σ b ++ ascii ")")))) ++ r ≡ w ++ (text σ a ++ (k ∷ (text σ b ++ (41 ∷ r)))) = simp append_assoc in
      ap (writes u) z
      ∙ g (text σ a ++ (k ∷ (text σ b ++ (41 ∷ r))))
      ∙ p (k ∷ (text σ b ++ (41 ∷ r)))
      ∙ ap (λ (c : Bool). names_in (σ ++ ys) a u || c) (h (text σ b ++ (41 ∷ r)) ∙ q (41 ∷ r))
      ∙ sym (or_assoc (names_in (σ ++ ys) a u) (names_in (σ ++ ys) b u) (writes u r))

  written : (t : Term) → Known σ t → Names t
  unfolding text names_in writes begins skip spell spell_middle opening parting
  written (base b) k r = writes-base u b r
  written (call f a) k r =
      ap (writes u) (append_assoc (spell (is_call f)) (text σ a ++ ascii ")") r)
      ∙ writes-call u f ((text σ a ++ ascii ")") ++ r)
      ∙ ap (writes u) (append_assoc (text σ a) (ascii ")") r)
      ∙ written a k (41 ∷ r)
  written (oe a) k r = let n = numbered a k.0 in one a (digit σ a) n.0 n.1 r
  written (ao a) k r = let n = numbered a k.0 in others a (written a k.1) (digit σ a) n.0 n.1 r
  written (two (calls operations) a b) k r = pair (spell (is_call2 operations)) 44 a b (λ s. refl) (λ s. refl) (written a k.0) (written b k.1) r
  written (two (calls done) a b) k r = pair (spell (is_call2 done)) 44 a b (λ s. refl) (λ s. refl) (written a k.0) (written b k.1) r
  written (two (joins meet) a b) k r = pair (spell is_bracket) 38 a b (λ s. refl) (λ s. refl) (written a k.0) (written b k.1) r
  written (two (joins join) a b) k r = pair (spell is_bracket) 43 a b (λ s. refl) (λ s. refl) (written a k.0) (written b k.1) r

set-written : (σ xs τ : Choices) → σ ++ xs ≡ τ → Ordered σ xs → length τ ≤ choices_limit → (i : ℕ) → i < length xs → (d : Term) (u : ℕ) → writes u (text τ (get_or xs i d)) ≡ names_in τ (get_or xs i d) u
unfolding writes
set-written σ [] τ e o few i l d u = absurd (omega arith)
set-written σ (x ∷ xs) τ e o few zero l d u =
    let n : length σ ≤ choices_limit = omega (arith, ap length e, length-append σ (x ∷ xs)) in
    let p : text τ x ≡ text σ x ++ [] = ap (λ (υ : Choices). text υ x) (sym e) ∙ text-more σ (x ∷ xs) x o.0 ∙ sym (append-nil (text σ x)) in
    ap (writes u) p ∙ written σ (x ∷ xs) n u x o.0 [] ∙ or-false (names_in (σ ++ (x ∷ xs)) x u) ∙ ap (λ (υ : Choices). names_in υ x u) e
set-written σ (x ∷ xs) τ e o few (suc i) l d u = set-written (σ ++ (x ∷ [])) xs τ (append_assoc σ (x ∷ []) xs ∙ e) o.1 few i (omega arith) d u

-- "it names the variables written in it"
pub names-written : (ρ : Rule) → length (rule_vars [] ρ) ≤ choices_limit → (v u : ℕ) → v < length (rule_vars [] ρ)
    → writes u (text (rule_vars [] ρ) (set_of (rule_vars [] ρ) v)) ≡ names (rule_vars [] ρ) v u
names-written ρ few v u l = set-written [] (rule_vars [] ρ) (rule_vars [] ρ) refl (rule-ordered [] ρ tt) few v l _ u
