-- The choices found in a rule's text, bracket by bracket, are those of its tree.
-- Assumes nothing.
use mathlib.Core.Path.{◌≡◌, refl, ap, sym, ◌∙◌}
use mathlib.Core.List.{List, [], ◌∷◌, ◌++◌, map, append_assoc, append-nil}
use mathlib.Core.Option.{Option, none, some}
use mathlib.Core.Bool.{Bool, true, false, ◌&&◌, ◌||◌, cond}
use Prim.Native.Nat.{ℕ, suc, ◌+◌, ◌-◌, ◌<◌, ◌/◌, ◌%◌}
use native.Mathlib.Omega.{arith}
use native.Mathlib.Decide.{dec_lt}
use lib.Dec.{eqb}
use lib.ListN.{length, length-append}
use lib.Seq.{take-append_seam}
use borrow.Author.Tests.{ne_eqb}
use Rattle.syntax.specs.Bytes.{Bytes, ascii, same}
use Rattle.syntax.specs.Term.{Base, b_u, b_r, b_op, b_obj, b_p, b_s, b_cr, b_cp, b_cu, Fn, user, roles, roles*, sessions, permissions, permissions*}
use Rattle.syntax.specs.Term.{object, operations, done, meet, join, calls, joins, Term, base, call, oe, ao, two, Term≟, Choices, digit_from, digit}
use Rattle.syntax.specs.Term.{is_base, is_call, is_oe, is_ao, is_call2, is_bracket, spell, spell_middle, opening, parting, text, oe_text, ao_text}
use Rattle.syntax.specs.Rule.{lt, le, gt, ge, eq, ne, is, isnt, Count, number, count, Test, member, alike, empty, sized, Cmp, Clause}
use Rattle.syntax.specs.Rule.{plain, when, Rule, last, also, spell_cmp, Between, spell_between, is_in, is_sign, digits, count_text, test_text, clause_text, rule_text}
use Rattle.syntax.specs.Rule.{add, vars, count_vars, test_vars, clause_vars, rule_vars, rule_of}
use Rattle.syntax.specs.Choosing.{Bracket, chooser, among, noted, argument, outer, closing, choices_from, choices_in}
use Rattle.syntax.proofs.BytesLaws.{same-own, not_same}
use Rattle.syntax.proofs.TermLaws.{term-one}
use Rattle.syntax.proofs.RuleLaws.{digits-one, digits-two, rule-text}

-- The argument texts of some choices.
abbrev texts : Choices → List Bytes
texts σ = map (text []) σ

-- Equal texts are equal terms, so a text is noted exactly where its term is added.

abbrev is_some : Option ℕ → Bool
is_some none = false
is_some (some d) = true

among-digits : (d : ℕ) (σ : Choices) (a : Term) → among (texts σ) (text [] a) ≡ is_some (digit_from d σ a)
unfolding among digit_from
among-digits d [] a = refl
among-digits d (x ∷ σ) a = go (among-digits (suc d) σ a) (Term≟ x a)
  where
    go : among (texts σ) (text [] a) ≡ is_some (digit_from (suc d) σ a) → (q : Dec (x ≡ a))
        → (same (text [] x) (text [] a) || among (texts σ) (text [] a)) ≡ is_some (elim q as (λ _. Option ℕ) [ yes p ↦ some d | no n ↦ digit_from (suc d) σ a ])
    go ih (yes p) = rw (p, same-own (text [] a))
    go ih (no n) = rw (not_same (text [] x) (text [] a) (λ e. n (term-one [] x a e))) ih

map_snoc : (σ : Choices) (a : Term) → texts (σ ++ (a ∷ [])) ≡ texts σ ++ (text [] a ∷ [])
map_snoc [] a = refl
map_snoc (x ∷ σ) a = ap (λ (l : List Bytes). text [] x ∷ l) (map_snoc σ a)

noted-add : (σ : Choices) (a : Term) → noted (texts σ) (text [] a) ≡ texts (add σ a)
unfolding noted add
noted-add σ a = go (digit σ a) (among-digits 49 σ a)
  where
    go : (o : Option ℕ) → among (texts σ) (text [] a) ≡ is_some o
        → cond (among (texts σ) (text [] a)) (texts σ) (texts σ ++ (text [] a ∷ [])) ≡ texts (elim o as (λ _. Choices) [ none ↦ σ ++ (a ∷ []) | some _ ↦ σ ])
    go none e = rw e (sym (map_snoc σ a))
    go (some d) e = rw e

-- The bytes between two brackets.
argument-own : (c : Bool) (w s : Bytes) → argument (record { chooses = c; behind = w ++ s }) s ≡ w
unfolding argument
argument-own c w s =
    let l : length (w ++ s) - length s ≡ length w = simp length-append (omega arith) in
    rw l (take-append_seam w s)

-- A byte that is no last letter of `OE` or `AO` ends no name of a choice.
quiet-last : (x y : ℕ) → eqb y 69 ≡ false → eqb y 79 ≡ false → chooser x y ≡ false
unfolding chooser same
quiet-last x y e f = rw (e, f) (go (eqb x 79) (eqb x 65))
  where
    go : (a b : Bool) → ((a && false) || (b && false)) ≡ false
    go true true = refl
    go true false = refl
    go false true = refl
    go false false = refl

-- Reading s comes to its rest r: the brackets are those that were open, and the texts ys are noted. What was read last does not end in the name
-- of a choice, so that a bracket may follow.
record Comes (x y : ℕ) (bs : List Bracket) (xs : List Bytes) (s : Bytes) (ys : List Bytes) (r : Bytes) : Type 0 where
  before : ℕ
  latest : ℕ
  quiet : chooser before latest ≡ false
  so : choices_from x y bs xs s ≡ choices_from before latest bs ys r

-- Reading w turns the choices σ into f σ, whatever is open and whatever follows.
record Reads (w : Bytes) (f : Choices → Choices) : Type 0 where
  comes : (x y : ℕ) (bs : List Bracket) (σ : Choices) (r : Bytes) → chooser x y ≡ false → Comes x y bs (texts σ) (w ++ r) (texts (f σ)) r

reads_then : {w v : Bytes} {f g : Choices → Choices} → Reads w f → Reads v g → Reads (w ++ v) (λ σ. g (f σ))
reads_then {w} {v} {f} {g} p q = record { comes = go }
  where
    go : (x y : ℕ) (bs : List Bracket) (σ : Choices) (r : Bytes) → chooser x y ≡ false → Comes x y bs (texts σ) ((w ++ v) ++ r) (texts (g (f σ))) r
    go x y bs σ r h =
        let m = p.comes x y bs σ (v ++ r) h in
        let n = q.comes m.before m.latest bs (f σ) r m.quiet in
        record {
          before = n.before;
          latest = n.latest;
          quiet = n.quiet;
          so = ap (λ (l : Bytes). choices_from x y bs (texts σ) l) (append_assoc w v r) ∙ m.so ∙ n.so;
        }

-- A bracket is opened by w, and is that of a choice where c is true.
abbrev bracket : Bool → Bytes → Bracket
bracket c s = record { chooses = c; behind = s }

record Opens (w : Bytes) (c : Bool) : Type 0 where
  at : (x y : ℕ) (bs : List Bracket) (xs : List Bytes) (s : Bytes) → chooser x y ≡ false
      → (p : ℕ) × (choices_from x y bs xs (w ++ s) ≡ choices_from p 40 (bracket c s ∷ bs) xs s)

-- A text in brackets: what is noted at the closing one is said by the last argument.
wrapped : {w v : Bytes} {c : Bool} {f g : Choices → Choices} → Opens w c → Reads v f
    → ((σ : Choices) (r : Bytes) → cond c (noted (texts (f σ)) (argument (bracket c (v ++ r)) r)) (texts (f σ)) ≡ texts (g σ)) → Reads (w ++ (v ++ ascii ")")) g
unfolding choices_from chooser outer closing
wrapped {w} {v} {c} {f} {g} o p e = record { comes = go }
  where
    go : (x y : ℕ) (bs : List Bracket) (σ : Choices) (r : Bytes) → chooser x y ≡ false → Comes x y bs (texts σ) ((w ++ (v ++ ascii ")")) ++ r) (texts (g σ)) r
    go x y bs σ r h =
        let s : Bytes = v ++ (41 ∷ r) in
        let u = o.at x y bs (texts σ) s h in
        let m = p.comes u.0 40 (bracket c s ∷ bs) σ (41 ∷ r) (quiet-last u.0 40 refl refl) in
        let z : (w ++ (v ++ ascii ")")) ++ r ≡ w ++ s = append_assoc w (v ++ ascii ")") r ∙ ap (λ (l : Bytes). w ++ l) (append_assoc v (ascii ")") r) in
        record {
          before = m.latest;
          latest = 41;
          quiet = quiet-last m.latest 41 refl refl;
          so =
              ap (λ (l : Bytes). choices_from x y bs (texts σ) l) z
              ∙ u.1
              ∙ m.so
              ∙ ap (λ (l : List Bytes). choices_from m.latest 41 bs l r) (e σ (41 ∷ r));
        }

plain-wrapped : {w v : Bytes} {f : Choices → Choices} → Opens w false → Reads v f → Reads (w ++ (v ++ ascii ")")) f
plain-wrapped o p = wrapped o p (λ σ r. refl)

chosen-wrapped : {w : Bytes} {f : Choices → Choices} (a : Term) → Opens w true → Reads (text [] a) f → Reads (w ++ (text [] a ++ ascii ")")) (λ σ. add (f σ) a)
chosen-wrapped {f = f} a o p = wrapped o p (λ σ r. ap (λ (l : Bytes). noted (texts (f σ)) l) (argument-own true (text [] a) r) ∙ noted-add (f σ) a)

-- The names that open a bracket.

open-call : (f : Fn) → Opens (spell (is_call f)) false
unfolding spell choices_from chooser same
open-call user = record { at = λ x y bs xs s h. (114, refl) }
open-call roles = record { at = λ x y bs xs s h. (115, refl) }
open-call roles* = record { at = λ x y bs xs s h. (42, refl) }
open-call sessions = record { at = λ x y bs xs s h. (115, refl) }
open-call permissions = record { at = λ x y bs xs s h. (115, refl) }
open-call permissions* = record { at = λ x y bs xs s h. (42, refl) }
open-call object = record { at = λ x y bs xs s h. (116, refl) }

open-operations : Opens (spell (is_call2 operations)) false
unfolding spell choices_from chooser same
open-operations = record { at = λ x y bs xs s h. (115, refl) }

open_done : Opens (spell (is_call2 done)) false
unfolding spell choices_from chooser same
open_done = record { at = λ x y bs xs s h. (101, refl) }

open-oe : Opens (spell is_oe) true
unfolding spell choices_from chooser same
open-oe = record { at = λ x y bs xs s h. (69, refl) }

open-ao : Opens (spell is_ao) true
unfolding spell choices_from chooser same
open-ao = record { at = λ x y bs xs s h. (79, refl) }

open-bracket : Opens (spell is_bracket) false
unfolding spell choices_from
open-bracket = record { at = λ x y bs xs s h. (y, ap (λ (c : Bool). choices_from y 40 (bracket c s ∷ bs) xs s) h) }

-- Texts with no bracket.

abbrev Silent : Bytes → Type 0
Silent w = Reads w (λ σ. σ)

silent-base : (b : Base) → Silent (spell (is_base b))
unfolding spell choices_from chooser same
silent-base b_u = record { comes = λ x y bs σ r h. record { before = y; latest = 85; quiet = quiet-last y 85 refl refl; so = refl } }
silent-base b_r = record { comes = λ x y bs σ r h. record { before = y; latest = 82; quiet = quiet-last y 82 refl refl; so = refl } }
silent-base b_op = record { comes = λ x y bs σ r h. record { before = 79; latest = 80; quiet = refl; so = refl } }
silent-base b_obj = record { comes = λ x y bs σ r h. record { before = 66; latest = 74; quiet = refl; so = refl } }
silent-base b_p = record { comes = λ x y bs σ r h. record { before = y; latest = 80; quiet = quiet-last y 80 refl refl; so = refl } }
silent-base b_s = record { comes = λ x y bs σ r h. record { before = y; latest = 83; quiet = quiet-last y 83 refl refl; so = refl } }
silent-base b_cr = record { comes = λ x y bs σ r h. record { before = 67; latest = 82; quiet = refl; so = refl } }
silent-base b_cp = record { comes = λ x y bs σ r h. record { before = 67; latest = 80; quiet = refl; so = refl } }
silent-base b_cu = record { comes = λ x y bs σ r h. record { before = 67; latest = 85; quiet = refl; so = refl } }

-- A byte that is no bracket, and no last letter of `OE` or `AO`.
abbrev Quiet : ℕ → Type 0
Quiet c = (eqb c 40 ≡ false) × (eqb c 41 ≡ false) × (eqb c 69 ≡ false) × (eqb c 79 ≡ false)

silent-byte : (c : ℕ) → Quiet c → Silent (c ∷ [])
unfolding choices_from chooser
silent-byte c q =
    record {
      comes = λ x y bs σ r h. record { before = y; latest = c; quiet = quiet-last y c q.2 q.3; so = rw (q.0, q.1, choices_from) };
    }

silent-two : (c d : ℕ) → eqb c 40 ≡ false → eqb c 41 ≡ false → Quiet d → Silent (c ∷ d ∷ [])
unfolding choices_from chooser
silent-two c d e f q =
    record {
      comes = λ x y bs σ r h. record { before = c; latest = d; quiet = quiet-last c d q.2 q.3; so = rw (e, f, choices_from) (rw (q.0, q.1, choices_from)) };
    }

quiet-digit : (n : ℕ) → n < 10 → Quiet (48 + n)
quiet-digit n h = (ne_eqb (48 + n) 40 (omega arith), ne_eqb (48 + n) 41 (omega arith), ne_eqb (48 + n) 69 (omega arith), ne_eqb (48 + n) 79 (omega arith))

silent-digits : (n : ℕ) → Silent (digits n)
silent-digits n = go (dec_lt n 10)
  where
    go : Dec (n < 10) → Silent (digits n)
    go (yes h) = rw (digits-one n h) (silent-byte (48 + n) (quiet-digit n h))
    go (no h) =
        rw (digits-two n (omega arith))
        (silent-two (48 + n / 10) (48 + n % 10) (ne_eqb (48 + n / 10) 40 (omega arith)) (ne_eqb (48 + n / 10) 41 (omega arith)) (quiet-digit (n % 10) (omega arith)))

-- Terms.

reads_as : {w v : Bytes} {f : Choices → Choices} → w ≡ v → Reads v f → Reads w f
reads_as e p = rw e p

-- Two terms in brackets, with a byte between.
reads-pair : {w : Bytes} {f g : Choices → Choices} (k : ℕ) (u v : Bytes) → Opens w false → Quiet k → Reads u f → Reads v g
    → Reads (w ++ (u ++ ((k ∷ []) ++ (v ++ ascii ")")))) (λ σ. g (f σ))
reads-pair {w} k u v o q p r =
    reads_as (ap (λ (l : Bytes). w ++ l) (sym (append_assoc u (k ∷ v) (ascii ")")))) (plain-wrapped o (reads_then p (reads_then (silent-byte k q) r)))

term-choices : (t : Term) → Reads (text [] t) (λ σ. vars σ t)
unfolding text vars opening parting oe_text ao_text digit_from spell_middle
term-choices (base b) = silent-base b
term-choices (call f a) = plain-wrapped (open-call f) (term-choices a)
term-choices (oe a) = chosen-wrapped a open-oe (term-choices a)
term-choices (ao a) = chosen-wrapped a open-ao (term-choices a)
term-choices (two (calls operations) a b) = reads-pair 44 (text [] a) (text [] b) open-operations (refl, refl, refl, refl) (term-choices a) (term-choices b)
term-choices (two (calls done) a b) = reads-pair 44 (text [] a) (text [] b) open_done (refl, refl, refl, refl) (term-choices a) (term-choices b)
term-choices (two (joins meet) a b) = reads-pair 38 (text [] a) (text [] b) open-bracket (refl, refl, refl, refl) (term-choices a) (term-choices b)
term-choices (two (joins join) a b) = reads-pair 43 (text [] a) (text [] b) open-bracket (refl, refl, refl, refl) (term-choices a) (term-choices b)

-- Tests, clauses and rules.

silent-between : (m : Between) → Silent (spell_between m)
unfolding spell_between
silent-between is_in = silent-byte 64 (refl, refl, refl, refl)
silent-between (is_sign is) = silent-byte 61 (refl, refl, refl, refl)
silent-between (is_sign isnt) = silent-two 33 61 refl refl (refl, refl, refl, refl)

silent-cmp : (c : Cmp) → Silent (spell_cmp c)
unfolding spell_cmp
silent-cmp lt = silent-byte 60 (refl, refl, refl, refl)
silent-cmp le = silent-two 60 61 refl refl (refl, refl, refl, refl)
silent-cmp gt = silent-byte 62 (refl, refl, refl, refl)
silent-cmp ge = silent-two 62 61 refl refl (refl, refl, refl, refl)
silent-cmp eq = silent-byte 61 (refl, refl, refl, refl)
silent-cmp ne = silent-two 33 61 refl refl (refl, refl, refl, refl)

silent-bar : Silent (ascii "|")
silent-bar = silent-byte 124 (refl, refl, refl, refl)

count-choices : (k : Count) → Reads (count_text [] k) (λ σ. count_vars σ k)
unfolding count_text count_vars
count-choices (number n) = silent-digits n
count-choices (count a) = reads_then silent-bar (reads_then (term-choices a) silent-bar)

test-choices : (t : Test) → Reads (test_text [] t) (λ σ. test_vars σ t)
unfolding test_text test_vars
test-choices (member a b) = reads_then (term-choices a) (reads_then (silent-between is_in) (term-choices b))
test-choices (alike g a b) = reads_then (term-choices a) (reads_then (silent-between (is_sign g)) (term-choices b))
test-choices (empty g a) = reads_then (term-choices a) (reads_then (silent-between (is_sign g)) (silent-two 123 125 refl refl (refl, refl, refl, refl)))
test-choices (sized c a k) = reads_then silent-bar (reads_then (term-choices a) (reads_then silent-bar (reads_then (silent-cmp c) (count-choices k))))

clause-choices : (c : Clause) → Reads (clause_text [] c) (λ σ. clause_vars σ c)
unfolding clause_text clause_vars
clause-choices (plain p) = test-choices p
clause-choices (when p q) = reads_then (test-choices p) (reads_then (silent-two 61 62 refl refl (refl, refl, refl, refl)) (test-choices q))

rule-choices : (ρ : Rule) → Reads (rule_text [] ρ) (λ σ. rule_vars σ ρ)
unfolding rule_text rule_vars
rule-choices (last c) = clause-choices c
rule-choices (also c ρ) = reads_then (clause-choices c) (reads_then (silent-byte 94 (refl, refl, refl, refl)) (rule-choices ρ))

-- The choices found in a rule's text are the argument texts of those of its tree, in order.
pub choices-in : (ρ : Rule) → choices_in (rule_text [] ρ) ≡ map (text []) (rule_vars [] ρ)
unfolding choices_in choices_from chooser same
choices-in ρ =
    let m = (rule-choices ρ).comes 0 0 [] [] [] refl in
    ap (λ (l : Bytes). choices_from 0 0 [] [] l) (sym (append-nil (rule_text [] ρ))) ∙ m.so

pub choices-read : (s : Bytes) (ρ : Rule) → rule_of s ≡ some ρ → choices_in s ≡ map (text []) (rule_vars [] ρ)
choices-read s ρ e = ap choices_in (rule-text s ρ e).0 ∙ choices-in ρ
