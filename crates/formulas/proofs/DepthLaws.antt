-- The formula of a rule that passes check 12 passes it too: no term has more brackets open in the formula than in the rule.
-- Assumes nothing.
use mathlib.Core.Path.{◌≡◌, refl, sym, ap, ◌∙◌}
use mathlib.Core.List.{[], ◌∷◌, ◌++◌, append_assoc, append-nil}
use mathlib.Core.Option.{Option, none, some}
use mathlib.Core.Bool.{Bool, true, false, ◌||◌}
use Prim.Native.Nat.{ℕ, suc, ◌+◌, ◌≤◌, ◌<◌, max, ◌/◌, ◌%◌}
use native.Mathlib.Omega.{arith}
use native.Mathlib.Decide.{dec_lt}
use lib.Dec.{eqb, ltb}
use borrow.Author.Tests.{ne_eqb, lt-ltb, le-ltb, ltb-false}
use Rattle.syntax.specs.Bytes.{Bytes, ascii}
use Rattle.syntax.specs.Term.{Base, b_u, b_r, b_op, b_obj, b_p, b_s, b_cr, b_cp, b_cu, Fn, user, roles, roles*, sessions, permissions, permissions*, object, operations, done}
use Rattle.syntax.specs.Term.{meet, join, Pair, calls, joins, Term, base, call, oe, ao, two, Choices, digit_from, digit, is_base, is_call, is_oe, is_ao, is_bracket}
use Rattle.syntax.specs.Term.{spell, spell_middle, opening, parting, oe_text, ao_text, text}
use Rattle.syntax.specs.Rule.{Cmp, lt, le, gt, ge, eq, ne, spell_cmp, is, isnt, Between, is_in, is_sign, spell_between, Count, number, count, Test, member, alike, empty, sized}
use Rattle.syntax.specs.Rule.{Clause, plain, when, Rule, last, also, digits, count_text, test_text, clause_text, rule_text, rule_vars, quantifiers, formula_with, formula}
use Rattle.syntax.proofs.TermLaws.{digit-high}
use Rattle.syntax.proofs.RuleLaws.{digits-one, digits-two}
use Rattle.syntax.proofs.PartLaws.{All, CountHas, TestHas, ClauseHas, RuleHas, Passes, rule-all}
use Rattle.rules.specs.Accept.{deep}

-- How many brackets a term has open at once where it is written in a rule.
abbrev depth : Term → ℕ
depth (base b) = 0
depth (call f a) = suc (depth a)
depth (oe a) = suc (depth a)
depth (ao a) = suc (depth a)
depth (two o a b) = suc (max (depth a) (depth b))

test-same : (a b c d : ℕ) → (a < b → c < d) → (b ≤ a → d ≤ c) → ltb a b ≡ ltb c d
test-same a b c d f g = go (dec_lt a b)
  where
    go : Dec (a < b) → ltb a b ≡ ltb c d
    go (yes h) = rw (lt-ltb a b h, lt-ltb c d (f h))
    go (no h) = let l : b ≤ a = omega arith in rw (le-ltb a b l, le-ltb c d (g l))

-- Check 12 hangs on the surplus alone.
surplus-only : (o c : ℕ) (s : Bytes) → deep (suc o) (suc c) s ≡ deep o c s
unfolding deep
surplus-only o c [] = refl
surplus-only o c (x ∷ s) = go (eqb x 40) (eqb x 41) (surplus-only (suc o) c s) (surplus-only o (suc c) s) (surplus-only o c s)
  where
    go : (t u : Bool) → deep (suc (suc o)) (suc c) s ≡ deep (suc o) c s → deep (suc o) (suc (suc c)) s ≡ deep o (suc c) s → deep (suc o) (suc c) s ≡ deep o c s
        → ◌≡◌ {A = Bool} (elim t [ true ↦ ltb (suc c + 32) (suc (suc o)) || deep (suc (suc o)) (suc c) s | false ↦ elim u [ true ↦ deep (suc o) (suc (suc c)) s | false ↦ deep (suc o) (suc c) s ] ])
        (elim t [ true ↦ ltb (c + 32) (suc o) || deep (suc o) c s | false ↦ elim u [ true ↦ deep o (suc c) s | false ↦ deep o c s ] ])
    go true u p q e = rw (p, test-same (suc c + 32) (suc (suc o)) (c + 32) (suc o) (λ h. omega arith) (λ h. omega arith))
    go false true p q e = q
    go false false p q e = e

-- A text that opens no bracket, and one that opens one at its end.

record Flat (w : Bytes) : Type 0 where
  past : (o c : ℕ) (r : Bytes) → deep o c (w ++ r) ≡ deep o c r

record Opening (w : Bytes) : Type 0 where
  opens : (o c : ℕ) (r : Bytes) → deep o c (w ++ r) ≡ (ltb (c + 32) (suc o) || deep (suc o) c r)

plain_byte : (o c x : ℕ) (s : Bytes) → 41 < x → deep o c (x ∷ s) ≡ deep o c s
unfolding deep
plain_byte o c x s h = rw (ne_eqb x 40 (omega arith), ne_eqb x 41 (omega arith), deep)

flat-base : (b : Base) → Flat (spell (is_base b))
unfolding spell deep
flat-base b_u = record { past = λ o c r. refl }
flat-base b_r = record { past = λ o c r. refl }
flat-base b_op = record { past = λ o c r. refl }
flat-base b_obj = record { past = λ o c r. refl }
flat-base b_p = record { past = λ o c r. refl }
flat-base b_s = record { past = λ o c r. refl }
flat-base b_cr = record { past = λ o c r. refl }
flat-base b_cp = record { past = λ o c r. refl }
flat-base b_cu = record { past = λ o c r. refl }

open-call : (f : Fn) → Opening (spell (is_call f))
unfolding spell deep
open-call user = record { opens = λ o c r. refl }
open-call roles = record { opens = λ o c r. refl }
open-call roles* = record { opens = λ o c r. refl }
open-call sessions = record { opens = λ o c r. refl }
open-call permissions = record { opens = λ o c r. refl }
open-call permissions* = record { opens = λ o c r. refl }
open-call object = record { opens = λ o c r. refl }

open-oe : Opening (spell is_oe)
unfolding spell deep
open-oe = record { opens = λ o c r. refl }

open-ao : Opening (spell is_ao)
unfolding spell deep
open-ao = record { opens = λ o c r. refl }

open-bracket : Opening (spell is_bracket)
unfolding spell deep
open-bracket = record { opens = λ o c r. refl }

open-two : (o : Pair) → Opening (spell (opening o))
unfolding spell deep opening
open-two (calls operations) = record { opens = λ o c r. refl }
open-two (calls done) = record { opens = λ o c r. refl }
open-two (joins p) = record { opens = λ o c r. refl }

flat-parting : (o : Pair) → Flat (parting o)
unfolding parting spell_middle deep
flat-parting (calls f) = record { past = λ o c r. refl }
flat-parting (joins meet) = record { past = λ o c r. refl }
flat-parting (joins join) = record { past = λ o c r. refl }

flat-cmp : (k : Cmp) → Flat (spell_cmp k)
unfolding spell_cmp deep
flat-cmp lt = record { past = λ o c r. refl }
flat-cmp le = record { past = λ o c r. refl }
flat-cmp gt = record { past = λ o c r. refl }
flat-cmp ge = record { past = λ o c r. refl }
flat-cmp eq = record { past = λ o c r. refl }
flat-cmp ne = record { past = λ o c r. refl }

flat-between : (m : Between) → Flat (spell_between m)
unfolding spell_between deep
flat-between is_in = record { past = λ o c r. refl }
flat-between (is_sign is) = record { past = λ o c r. refl }
flat-between (is_sign isnt) = record { past = λ o c r. refl }

flat-number : (n : ℕ) → Flat (digits n)
flat-number n = record { past = λ o c r. go o c r (dec_lt n 10) }
  where
    go : (o c : ℕ) (r : Bytes) → Dec (n < 10) → deep o c (digits n ++ r) ≡ deep o c r
    go o c r (yes h) = rw (digits-one n h) (plain_byte o c (48 + n) r (omega arith))
    go o c r (no h) =
        rw (digits-two n (omega arith))
        (plain_byte o c (48 + n / 10) ((48 + n % 10) ∷ r) (omega arith) ∙ plain_byte o c (48 + n % 10) r (omega arith))

-- A text in brackets: what opens them, w, and the bracket that closes them.
closes : (o c : ℕ) (r : Bytes) → deep (suc o) c (ascii ")" ++ r) ≡ deep o c r
unfolding deep
closes o c r = surplus-only o c r

enters : {w : Bytes} → Opening w → (o c : ℕ) (r : Bytes) → suc o ≤ c + 32 → deep o c (w ++ r) ≡ deep (suc o) c r
enters x o c r h = x.opens o c r ∙ rw (le-ltb (c + 32) (suc o) h)

entered : {w : Bytes} → Opening w → (o c : ℕ) (r : Bytes) → deep o c (w ++ r) ≡ false → (suc o ≤ c + 32) × (deep (suc o) c r ≡ false)
entered x o c r e = go (ltb (c + 32) (suc o)) refl (sym (x.opens o c r) ∙ e)
  where
    go : (b : Bool) → ltb (c + 32) (suc o) ≡ b → (b || deep (suc o) c r) ≡ false → (suc o ≤ c + 32) × (deep (suc o) c r ≡ false)
    go true q e = let z : ◌≡◌ {A = ℕ} 0 1 = cc in absurd (omega arith)
    go false q e = (ltb-false (c + 32) (suc o) q, e)

-- A term, with whatever choices are known, changes nothing where there is room for its brackets.

wrapped : {w : Bytes} (v : Bytes) → Opening w → (o c : ℕ) (r : Bytes) → suc o ≤ c + 32 → ((s : Bytes) → deep (suc o) c (v ++ s) ≡ deep (suc o) c s)
    → deep o c ((w ++ (v ++ ascii ")")) ++ r) ≡ deep o c r
wrapped {w} v x o c r h k = rw (append_assoc w, append_assoc v) (enters x o c _ h ∙ k (ascii ")" ++ r) ∙ closes o c r)

module _ (σ : Choices) (a : Term) (inside : (o c : ℕ) (s : Bytes) → o + depth a ≤ c + 32 → deep o c (text σ a ++ s) ≡ deep o c s) where
  oe-shallow : (q : Option ℕ) → digit σ a ≡ q → (o c : ℕ) (r : Bytes) → o + suc (depth a) ≤ c + 32 → deep o c (oe_text q (text σ a) ++ r) ≡ deep o c r
  unfolding oe_text spell deep
  oe-shallow none e o c r h = wrapped (text σ a) open-oe o c r (omega arith) (λ s. inside (suc o) c s (omega arith))
  oe-shallow (some d) e o c r h = plain_byte o c d r (omega (arith, digit-high σ a e))

  ao-shallow : (q : Option ℕ) → digit σ a ≡ q → (o c : ℕ) (r : Bytes) → o + suc (depth a) ≤ c + 32 → deep o c (ao_text q (text σ a) ++ r) ≡ deep o c r
  unfolding ao_text spell_middle deep
  ao-shallow none e o c r h = wrapped (text σ a) open-ao o c r (omega arith) (λ s. inside (suc o) c s (omega arith))
  ao-shallow (some d) e o c r h =
      rw (append_assoc (spell is_bracket), append_assoc (text σ a))
      (enters open-bracket o c _ (omega arith) ∙ inside (suc o) c _ (omega arith)
      ∙ plain_byte (suc o) c d (125 ∷ 41 ∷ r) (omega (arith, digit-high σ a e)) ∙ closes o c r)

shallow : (σ : Choices) (t : Term) (o c : ℕ) (r : Bytes) → o + depth t ≤ c + 32 → deep o c (text σ t ++ r) ≡ deep o c r
unfolding text
shallow σ (base b) o c r h = (flat-base b).past o c r
shallow σ (call f a) o c r h = wrapped (text σ a) (open-call f) o c r (omega arith) (λ s. shallow σ a (suc o) c s (omega arith))
shallow σ (oe a) o c r h = oe-shallow σ a (λ o c s l. shallow σ a o c s l) (digit σ a) refl o c r h
shallow σ (ao a) o c r h = ao-shallow σ a (λ o c s l. shallow σ a o c s l) (digit σ a) refl o c r h
shallow σ (two p a b) o c r h =
    let l : (suc o ≤ c + 32) × (suc o + depth a ≤ c + 32) × (suc o + depth b ≤ c + 32) = omega arith in
    rw (append_assoc (spell (opening p)), append_assoc (text σ a), append_assoc (parting p), append_assoc (text σ b))
    (enters (open-two p) o c _ l.0 ∙ shallow σ a (suc o) c _ l.1 ∙ (flat-parting p).past (suc o) c _ ∙ shallow σ b (suc o) c _ l.2 ∙ closes o c r)

-- The other way: where a rule's term passes, there is room for its brackets.

inside : {w : Bytes} (v : Bytes) → Opening w → (o c : ℕ) (r : Bytes) → deep o c ((w ++ v) ++ r) ≡ false → (suc o ≤ c + 32) × (deep (suc o) c (v ++ r) ≡ false)
inside v x o c r e = entered x o c (v ++ r) (rw append_assoc at e)

room : (t : Term) (o c : ℕ) (r : Bytes) → o ≤ c + 32 → deep o c (text [] t ++ r) ≡ false → o + depth t ≤ c + 32
unfolding text oe_text ao_text digit_from
room (base b) o c r h e = omega arith
room (call f a) o c r h e =
    let p = inside (text [] a ++ ascii ")") (open-call f) o c r e in
    omega (arith, room a (suc o) c (ascii ")" ++ r) p.0 (rw append_assoc at p.1))
room (oe a) o c r h e =
    let p = inside (text [] a ++ ascii ")") open-oe o c r e in
    omega (arith, room a (suc o) c (ascii ")" ++ r) p.0 (rw append_assoc at p.1))
room (ao a) o c r h e =
    let p = inside (text [] a ++ ascii ")") open-ao o c r e in
    omega (arith, room a (suc o) c (ascii ")" ++ r) p.0 (rw append_assoc at p.1))
room (two q a b) o c r h e =
    let p = inside (text [] a ++ (parting q ++ (text [] b ++ ascii ")"))) (open-two q) o c r e in
    let s : Bytes = text [] b ++ (ascii ")" ++ r) in
    let f : deep (suc o) c (text [] a ++ (parting q ++ s)) ≡ false = rw (append_assoc (text [] a), append_assoc (parting q), append_assoc (text [] b)) at p.1 in
    let l = room a (suc o) c (parting q ++ s) p.0 f in
    let g : deep (suc o) c s ≡ false = sym ((flat-parting q).past (suc o) c s) ∙ sym (shallow [] a (suc o) c (parting q ++ s) l) ∙ f in
    omega (arith, l, room b (suc o) c (ascii ")" ++ r) p.0 g)

-- Tests, clauses, rules and formulas: no bracket is open around a term.

abbrev Low : Term → Type 0
Low t = depth t ≤ 32

record Level (w : Bytes) : Type 0 where
  past : (r : Bytes) → deep 0 0 (w ++ r) ≡ deep 0 0 r

level-flat : {w : Bytes} → Flat w → Level w
level-flat x = record { past = λ r. x.past 0 0 r }

level-term : (σ : Choices) (t : Term) → Low t → Level (text σ t)
level-term σ t h = record { past = λ r. shallow σ t 0 0 r (omega arith) }

infixr 30 ◌then◌
◌then◌ : {w v : Bytes} → Level w → Level v → Level (w ++ v)
◌then◌ {w} {v} x y = record { past = λ r. rw (append_assoc w v r) (x.past (v ++ r) ∙ y.past r) }

-- Where w passes, P holds, and so does what follows.
record Shows (w : Bytes) (P : Type 0) : Type 0 where
  gives : (r : Bytes) → deep 0 0 (w ++ r) ≡ false → P × (deep 0 0 r ≡ false)

shows-term : (t : Term) → Shows (text [] t) (Low t)
shows-term t = record { gives = λ r e. let l = room t 0 0 r (omega arith) e in (omega (arith, l), sym (shallow [] t 0 0 r l) ∙ e) }

shows-level : {w : Bytes} → Level w → Shows w (Unit {0})
shows-level x = record { gives = λ r e. (tt, sym (x.past r) ∙ e) }

shows-both : {w v : Bytes} {P Q : Type 0} → Shows w P → Shows v Q → Shows (w ++ v) (P × Q)
shows-both {w} {v} x y =
    record { gives = λ r e. let p = x.gives (v ++ r) (rw append_assoc at e) in let q = y.gives r p.1 in ((p.0, q.0), q.1) }

shows-behind : {w v : Bytes} {Q : Type 0} → Level w → Shows v Q → Shows (w ++ v) Q
shows-behind {w} {v} x y = record { gives = λ r e. y.gives r (sym (x.past (v ++ r)) ∙ rw append_assoc at e) }

shows-before : {w v : Bytes} {P : Type 0} → Shows w P → Level v → Shows (w ++ v) P
shows-before {w} {v} x y = record { gives = λ r e. let p = x.gives (v ++ r) (rw append_assoc at e) in (p.0, sym (y.past r) ∙ p.1) }

bar : Level (ascii "|")
unfolding deep
bar = record { past = λ r. refl }

braces : Level (ascii "{}")
unfolding deep
braces = record { past = λ r. refl }

arrow : Level (ascii "=>")
unfolding deep
arrow = record { past = λ r. refl }

caret : Level (ascii "^")
unfolding deep
caret = record { past = λ r. refl }

between : (m : Between) → Level (spell_between m)
between m = level-flat (flat-between m)

module _ (σ : Choices) where
  level-count : (k : Count) → CountHas Low k → Level (count_text σ k)
  unfolding count_text
  level-count (number n) h = level-flat (flat-number n)
  level-count (count a) h = bar then level-term σ a h then bar

  level-test : (t : Test) → TestHas Low t → Level (test_text σ t)
  unfolding test_text
  level-test (member a b) h = level-term σ a h.0 then between is_in then level-term σ b h.1
  level-test (alike g a b) h = level-term σ a h.0 then between (is_sign g) then level-term σ b h.1
  level-test (empty g a) h = level-term σ a h then between (is_sign g) then braces
  level-test (sized k a n) h = bar then level-term σ a h.0 then bar then level-flat (flat-cmp k) then level-count n h.1

  level-clause : (c : Clause) → ClauseHas Low c → Level (clause_text σ c)
  unfolding clause_text
  level-clause (plain p) h = level-test p h
  level-clause (when p q) h = level-test p h.0 then arrow then level-test q h.1

  level-rule : (ρ : Rule) → RuleHas Low ρ → Level (rule_text σ ρ)
  unfolding rule_text
  level-rule (last c) h = level-clause c h
  level-rule (also c ρ) h = level-clause c h.0 then caret then level-rule ρ h.1

shows-count : (k : Count) → Shows (count_text [] k) (CountHas Low k)
unfolding count_text
shows-count (number n) = shows-level (level-flat (flat-number n))
shows-count (count a) = shows-behind bar (shows-before (shows-term a) bar)

shows-test : (t : Test) → Shows (test_text [] t) (TestHas Low t)
unfolding test_text
shows-test (member a b) = shows-both (shows-term a) (shows-behind (between is_in) (shows-term b))
shows-test (alike g a b) = shows-both (shows-term a) (shows-behind (between (is_sign g)) (shows-term b))
shows-test (empty g a) = shows-before (shows-term a) (between (is_sign g) then braces)
shows-test (sized k a n) = shows-behind bar (shows-both (shows-term a) (shows-behind bar (shows-behind (level-flat (flat-cmp k)) (shows-count n))))

shows-clause : (c : Clause) → Shows (clause_text [] c) (ClauseHas Low c)
unfolding clause_text
shows-clause (plain p) = shows-test p
shows-clause (when p q) = shows-both (shows-test p) (shows-behind arrow (shows-test q))

shows-rule : (ρ : Rule) → Shows (rule_text [] ρ) (RuleHas Low ρ)
unfolding rule_text
shows-rule (last c) = shows-clause c
shows-rule (also c ρ) = shows-both (shows-clause c) (shows-behind caret (shows-rule ρ))

low-passes : Passes Low Low
low-passes =
    record {
      in_call = λ f a h. omega arith;
      in_oe = λ a h. (omega arith, omega arith);
      in_ao = λ a h. (omega arith, omega arith);
      in_two = λ o a b h. (omega arith, omega arith);
    }

level-quantifiers : (τ : Choices) (d : ℕ) (xs : Choices) → 41 < d → All Low xs → Level (quantifiers τ d xs)
unfolding quantifiers deep
level-quantifiers τ d [] l h = record { past = λ r. refl }
level-quantifiers τ d (x ∷ xs) l h =
    let more : Bytes = quantifiers τ (suc d) xs in
    record {
      past = λ r.
          plain_byte 0 0 d (64 ∷ ((text τ x ++ (93 ∷ more)) ++ r)) l
          ∙ rw (append_assoc (text τ x)) ((level-term τ x h.0).past (93 ∷ (more ++ r)) ∙ (level-quantifiers τ (suc d) xs (omega arith) h.1).past r);
    }

-- THE LAW: the formula of a rule that passes check 12 passes it.
pub formula-shallow : (ρ : Rule) → deep 0 0 (rule_text [] ρ) ≡ false → deep 0 0 (formula ρ) ≡ false
unfolding formula formula_with deep
formula-shallow ρ e =
    let τ : Choices = rule_vars [] ρ in
    let low = ((shows-rule ρ).gives [] (rw append-nil e)).0 in
    (level-quantifiers τ 49 τ (omega arith) (rule-all Low Low low-passes [] ρ tt low)).past (ascii ":" ++ rule_text τ ρ)
    ∙ ap (deep 0 0) (sym (append-nil (rule_text τ ρ))) ∙ (level-rule τ ρ low).past []
