-- What stands below a node, which choices come of it, and how long what it holds is.
-- Assumes nothing.
use mathlib.Core.Path.{◌≡◌, refl, ◌∙◌}
use mathlib.Core.Bool.{Bool, true, false, cond}
use mathlib.Core.List.{List}
use mathlib.Core.Logic.{⊎_elim}
use mathlib.Core.Option.{Option, none, some}
use Prim.Native.Nat.{ℕ, ◌+◌, ◌<◌, ◌≤◌}
use native.Mathlib.Omega.{arith}
use lib.Dec.{eqb, ltb}
use lib.ListN.{length, get_or, length-append}
use borrow.Author.Tests.{lt-ltb, le-ltb}
use Rattle.syntax.specs.Term.{Base, b_u, b_r, b_op, b_obj, b_p, b_s, b_cr, b_cp, b_cu, Fn, user, roles, roles*, sessions, permissions, permissions*, object}
use Rattle.syntax.specs.Term.{operations, done, meet, join, Term, base, call, oe, ao, two, Choices, digit, is_base, is_call}
use Rattle.syntax.specs.Term.{spell, spell_middle, oe_text, ao_text, text, Pair, calls, joins, opening, parting}
use Rattle.syntax.specs.Rule.{Cmp, lt, le, gt, ge, eq, ne, Sign, is, isnt, number, count, Test, member, alike, empty, sized}
use Rattle.syntax.specs.Rule.{Clause, plain, when, last, also, spell_cmp, is_sign, spell_between, digits, count_text, test_text, clause_text, rule_text}
use Rattle.syntax.specs.Rule.{add, vars, count_vars, test_vars, clause_vars, rule_vars}
use Rattle.syntax.specs.Code.Arena.{base_op, fn_op, two_op, alike_op, empty_op, cmp_number, has_two, Both, Holds, HoldsTest, HoldsClause, HoldsRule}
use Rattle.syntax.specs.Code.Nodes.{first_call, oe_op, ao_op, first_pair, first_join, member_op, first_empty, first_numbered, first_counted, when_op, also_op, op_at, left_at, right_at, op_room}
use Rattle.rules.specs.Code.Thing.{Thing, term, test, clause, rule, HoldsThing, thing_vars, thing_text}
use Rattle.rules.specs.Code.Lengths.{extra_table, extra}
use Rattle.syntax.proofs.ArenaLaws.{base-small, fn-range, two-range, two-less, two_none, Parts, none-parts, one-parts, both-parts, numbered-parts}
pub use Rattle.syntax.proofs.ArenaLaws.{two-low, two-high}
use Rattle.syntax.proofs.TestLaws.{cmp-small, alike-range, empty-range}
use Rattle.rules.proofs.NodeLaws.{lt-or-le}

-- The lengths of what is spelled, by the table.

base-extra : (b : Base) → length (spell (is_base b)) ≡ extra (base_op b)
unfolding spell base_op extra extra_table
base-extra b_u = refl
base-extra b_r = refl
base-extra b_op = refl
base-extra b_obj = refl
base-extra b_p = refl
base-extra b_s = refl
base-extra b_cr = refl
base-extra b_cp = refl
base-extra b_cu = refl

fn-extra : (f : Fn) → length (spell (is_call f)) + 1 ≡ extra (fn_op f)
unfolding spell fn_op extra extra_table
fn-extra user = refl
fn-extra roles = refl
fn-extra roles* = refl
fn-extra sessions = refl
fn-extra permissions = refl
fn-extra permissions* = refl
fn-extra object = refl

sign-extra : (g : Sign) → (length (spell_between (is_sign g)) ≡ extra (alike_op g)) × (length (spell_between (is_sign g)) + 2 ≡ extra (empty_op g))
unfolding spell_between alike_op empty_op extra extra_table
sign-extra is = (refl, refl)
sign-extra isnt = (refl, refl)

cmp-extra : (c : Cmp) → (length (spell_cmp c) + 2 ≡ extra (first_numbered + cmp_number c)) × (length (spell_cmp c) + 4 ≡ extra (first_counted + cmp_number c))
unfolding spell_cmp cmp_number extra extra_table
cmp-extra lt = (refl, refl)
cmp-extra le = (refl, refl)
cmp-extra gt = (refl, refl)
cmp-extra ge = (refl, refl)
cmp-extra eq = (refl, refl)
cmp-extra ne = (refl, refl)

digits-length : (m : ℕ) → length (digits m) ≡ cond (ltb m 10) 1 2
unfolding digits
digits-length m = go (ltb m 10) refl
  where
    go : (t : Bool) → ltb m 10 ≡ t → length (digits m) ≡ cond t 1 2
    go true e = rw (e, digits)
    go false e = rw (e, digits)

record Extras : Type 0 where
  one : extra oe_op ≡ 4
  rest : extra ao_op ≡ 4
  calls : extra first_pair ≡ 13
  deeds : extra (first_pair + 1) ≡ 7
  meets : extra first_join ≡ 3
  joins : extra (first_join + 1) ≡ 3
  members : extra member_op ≡ 1
  whens : extra when_op ≡ 2
  alsos : extra also_op ≡ 1

extras : Extras
unfolding extra extra_table
extras = record { one = refl; rest = refl; calls = refl; deeds = refl; meets = refl; joins = refl; members = refl; whens = refl; alsos = refl }

-- How long what a node holds is, by what it stands on: a number behind it has one digit or two, and OE and AO are written by their choice where it is known.
abbrev pub len : Choices → Thing → ℕ
len σ x = length (thing_text σ x)

abbrev pub tail : ℕ → ℕ → ℕ
tail o m = cond (ltb o first_numbered) 0 (cond (ltb m 10) 1 2)

abbrev pub chosen_length : ℕ → Option ℕ → ℕ → ℕ
chosen_length o none n = extra o + n
chosen_length o (some d) n = cond (eqb o oe_op) 2 (7 + n)

-- The operation stands on one node, and chooses nothing.
pub record Alone (o : ℕ) : Type 0 where
  pub low : first_call ≤ o
  pub gap : oe_op ≤ o → first_empty ≤ o
  pub high : o < first_counted

pub alone-none : {o : ℕ} → Alone o → has_two o ≡ false
alone-none {o} s = ⊎_elim (λ (l : o < oe_op). two-less o (omega arith)) (λ (l : oe_op ≤ o). two_none o (s.gap l) s.high) (lt-or-le o oe_op)

pub data Shape (ns : List ℕ) (k : ℕ) (x : Thing) : Type 0 where
  bare : op_at ns k < first_call → ((σ : Choices) → thing_vars σ x ≡ σ) → ((σ : Choices) → len σ x ≡ extra (op_at ns k)) → Shape ns k x
  single : (y : Thing) → Alone (op_at ns k) → left_at ns k < k → HoldsThing ns (left_at ns k) y → ((σ : Choices) → thing_vars σ x ≡ thing_vars σ y)
      → ((σ : Choices) → len σ x ≡ extra (op_at ns k) + len σ y + tail (op_at ns k) (right_at ns k)) → Shape ns k x
  choosing : (a : Term) → oe_op ≤ op_at ns k → op_at ns k < first_pair → left_at ns k < k → Holds ns (left_at ns k) a → ((σ : Choices) → thing_vars σ x ≡ add (vars σ a) a)
      → ((σ : Choices) → len σ x ≡ chosen_length (op_at ns k) (digit σ a) (len σ (term a))) → Shape ns k x
  double : (y z : Thing) → first_pair ≤ op_at ns k → has_two (op_at ns k) ≡ true → left_at ns k < k → right_at ns k < k → HoldsThing ns (left_at ns k) y → HoldsThing ns (right_at ns k) z
      → ((σ : Choices) → thing_vars σ x ≡ thing_vars (thing_vars σ y) z) → ((σ : Choices) → len σ x ≡ extra (op_at ns k) + len σ y + len σ z) → Shape ns k x

module _ {ns : List ℕ} {k : ℕ} {x : Thing} where
  as-single : {o i j : ℕ} (y : Thing) → Alone o → Parts (get_or ns k 0) o i j → i < k → HoldsThing ns i y → ((σ : Choices) → thing_vars σ x ≡ thing_vars σ y)
      → ((σ : Choices) → len σ x ≡ extra o + len σ y + tail o j) → Shape ns k x
  as-single y s p h w v e = single y (rw p.op s) (rw p.left h) (rw p.left w) v (λ σ. rw (p.op, p.right) (e σ))

  as-choosing : {o i j : ℕ} (a : Term) → oe_op ≤ o → o < first_pair → Parts (get_or ns k 0) o i j → i < k → Holds ns i a → ((σ : Choices) → thing_vars σ x ≡ add (vars σ a) a)
      → ((σ : Choices) → len σ x ≡ chosen_length o (digit σ a) (len σ (term a))) → Shape ns k x
  as-choosing a lo hi p h w v e = choosing a (rw p.op lo) (rw p.op hi) (rw p.left h) (rw p.left w) v (λ σ. rw p.op (e σ))

  as-double : {o i j : ℕ} (y z : Thing) → first_pair ≤ o → o < op_room → has_two o ≡ true → Both ns k o i j → HoldsThing ns i y → HoldsThing ns j z
      → ((σ : Choices) → thing_vars σ x ≡ thing_vars (thing_vars σ y) z) → ((σ : Choices) → len σ x ≡ extra o + len σ y + len σ z) → Shape ns k x
  as-double y z lo small h b u w v e =
      let p = both-parts b small in
      double y z (rw p.op lo) (rw p.op h) (rw p.left b.below) (rw p.right b.below₂) (rw p.left u) (rw p.right w) v (λ σ. rw p.op (e σ))

test_shape : (ns : List ℕ) (k : ℕ) (p : Test) → HoldsTest ns k p → Shape ns k (test p)
unfolding HoldsTest test_vars count_vars test_text count_text spell_between
test_shape ns k (member a b) x =
    as-double (term a) (term b) (omega arith) (omega arith) (two-low member_op (omega arith) (omega arith)) x.2 x.3 x.4 (λ σ. refl) (λ σ. simp length-append (omega (arith, extras)))
test_shape ns k (alike g a b) x =
    let r = alike-range g in
    as-double (term a) (term b) (omega (arith, r.0)) (omega (arith, r.1)) (two-low (alike_op g) (omega (arith, r.0)) r.1) x.2 x.3 x.4 (λ σ. refl)
    (λ σ. simp length-append (omega (arith, (sign-extra g).0)))
test_shape ns k (empty g a) x =
    let lo = (empty-range g).0 in
    let hi = (empty-range g).1 in
    let small : empty_op g < op_room = omega arith in
    as-single (term a) (record { low = omega arith; gap = λ _. lo; high = omega arith }) (one-parts x.1 small) x.1.below x.2 (λ σ. refl)
    (λ σ. rw (lt-ltb (empty_op g) first_numbered hi) (simp length-append (omega (arith, (sign-extra g).1))))
test_shape ns k (sized c a (number m)) x =
    let l = cmp-small c in
    let lo : first_numbered ≤ first_numbered + cmp_number c = omega arith in
    let small : first_numbered + cmp_number c < op_room = omega arith in
    as-single (term a) (record { low = omega arith; gap = λ _. omega arith; high = omega arith }) (numbered-parts x.1 small) x.1.below x.2 (λ σ. refl)
    (λ σ. rw (le-ltb (first_numbered + cmp_number c) first_numbered lo) (simp length-append (omega (arith, (cmp-extra c).0, digits-length m))))
test_shape ns k (sized c a (count b)) x =
    let l = cmp-small c in
    as-double (term a) (term b) (omega arith) (omega arith) (two-high (first_counted + cmp_number c) (omega arith)) x.2 x.3 x.4 (λ σ. refl)
    (λ σ. simp length-append (omega (arith, (cmp-extra c).1)))

-- A test alone is a clause, and a clause alone a rule.
again : {ns : List ℕ} {k : ℕ} {x y : Thing} → ((σ : Choices) → thing_vars σ y ≡ thing_vars σ x) → ((σ : Choices) → len σ y ≡ len σ x) → Shape ns k x → Shape ns k y
again f g (bare l v e) = bare l (λ σ. f σ ∙ v σ) (λ σ. g σ ∙ e σ)
again f g (single z s h w v e) = single z s h w (λ σ. f σ ∙ v σ) (λ σ. g σ ∙ e σ)
again f g (choosing a lo hi h w v e) = choosing a lo hi h w (λ σ. f σ ∙ v σ) (λ σ. g σ ∙ e σ)
again f g (double z z' lo m h h' u w v e) = double z z' lo m h h' u w (λ σ. f σ ∙ v σ) (λ σ. g σ ∙ e σ)

clause-shape : (ns : List ℕ) (k : ℕ) (c : Clause) → HoldsClause ns k c → Shape ns k (clause c)
unfolding HoldsClause clause_vars clause_text
clause-shape ns k (plain p) x = again {x = test p} (λ σ. refl) (λ σ. refl) (test_shape ns k p x)
clause-shape ns k (when p q) x =
    as-double (test p) (test q) (omega arith) (omega arith) (two-high when_op (omega arith)) x.2 x.3 x.4 (λ σ. refl) (λ σ. simp length-append (omega (arith, extras)))

two-length : (σ : Choices) (o : Pair) (a b : Term) → length (text σ (two o a b)) ≡ extra (two_op o) + length (text σ a) + length (text σ b)
unfolding text opening parting two_op spell spell_middle
two-length σ (calls operations) a b = simp length-append (omega (arith, extras))
two-length σ (calls done) a b = simp length-append (omega (arith, extras))
two-length σ (joins meet) a b = simp length-append (omega (arith, extras))
two-length σ (joins join) a b = simp length-append (omega (arith, extras))

oe-length : (σ : Choices) (a : Term) → length (text σ (oe a)) ≡ chosen_length oe_op (digit σ a) (length (text σ a))
unfolding text oe_text spell
oe-length σ a = go (digit σ a)
  where
    go : (q : Option ℕ) → length (oe_text q (text σ a)) ≡ chosen_length oe_op q (length (text σ a))
    go none = simp length-append (omega (arith, extras))
    go (some d) = refl

ao-length : (σ : Choices) (a : Term) → length (text σ (ao a)) ≡ chosen_length ao_op (digit σ a) (length (text σ a))
unfolding text ao_text spell spell_middle
ao-length σ a = go (digit σ a)
  where
    go : (q : Option ℕ) → length (ao_text q (text σ a)) ≡ chosen_length ao_op q (length (text σ a))
    go none = simp length-append (omega (arith, extras))
    go (some d) = simp length-append (omega arith)

pub shape : (ns : List ℕ) (k : ℕ) (x : Thing) → HoldsThing ns k x → Shape ns k x
unfolding Holds HoldsClause HoldsRule vars clause_vars rule_vars text rule_text
shape ns k (term (base b)) x =
    let s = base-small b in
    let p = (none-parts x (omega arith)).op in
    bare (rw p s) (λ σ. refl) (λ σ. rw p (base-extra b))
shape ns k (term (call f a)) x =
    let lo = (fn-range f).low in
    let hi = (fn-range f).high in
    let l : fn_op f < first_numbered = omega arith in
    as-single (term a) (record { low = lo; gap = λ h. absurd (omega arith); high = omega arith }) (one-parts x.1 (omega arith)) x.1.below x.2 (λ σ. refl)
    (λ σ. rw (lt-ltb (fn_op f) first_numbered l) (simp length-append (omega (arith, fn-extra f))))
shape ns k (term (oe a)) x = as-choosing a (omega arith) (omega arith) (one-parts x.1 (omega arith)) x.1.below x.2 (λ σ. refl) (λ σ. oe-length σ a)
shape ns k (term (ao a)) x = as-choosing a (omega arith) (omega arith) (one-parts x.1 (omega arith)) x.1.below x.2 (λ σ. refl) (λ σ. ao-length σ a)
shape ns k (term (two o a b)) x =
    let lo = (two-range o).low in
    let hi = (two-range o).high in
    as-double (term a) (term b) lo (omega arith) (two-low (two_op o) lo (omega arith)) x.2 x.3 x.4 (λ σ. refl) (λ σ. two-length σ o a b)
shape ns k (test p) x = test_shape ns k p x
shape ns k (clause c) x = clause-shape ns k c x
shape ns k (rule (last c)) x = again {x = clause c} (λ σ. refl) (λ σ. refl) (clause-shape ns k c x)
shape ns k (rule (also c ρ)) x =
    as-double (clause c) (rule ρ) (omega arith) (omega arith) (two-high also_op (omega arith)) x.2 x.3 x.4 (λ σ. refl) (λ σ. simp length-append (omega (arith, extras)))
