-- The numbers of kinds are computed as the kinds are: the table's rule at all entries, and each node by those below it.
-- Assumes nothing.
use mathlib.Core.Path.{◌≡◌, refl, ap, ap₂, sym, subst, ◌∙◌}
use mathlib.Core.List.{List}
use mathlib.Core.Option.{Option, none, some}
use mathlib.Core.Bool.{Bool, true, false, ◌&&◌, cond, and-true}
use mathlib.Core.Logic.{⊎_elim}
use Prim.Native.Nat.{ℕ, ◌+◌, ◌*◌, ◌-◌, ◌/◌, ◌%◌, ◌<◌, ◌≤◌}
use native.Mathlib.Omega.{arith}
use native.Mathlib.Nat.{eq-or-lt_of_le}
use lib.Dec.{T, eqb, ltb, lit<, lit≤}
use lib.ListN.{length, get_or, set}
use borrow.Author.Tests.{lt-ltb, le-ltb}
use Rattle.syntax.specs.Term.{Base, b_u, b_r, b_op, b_obj, b_p, b_s, b_cr, b_cp, b_cu, Fn, user, roles, roles*, sessions, permissions, permissions*, object}
use Rattle.syntax.specs.Term.{operations, done, meet, join, Term, base, call, oe, ao, two, Pair, calls, joins}
use Rattle.syntax.specs.Rule.{Sign, is, isnt, number, count, Test, member, alike, empty, sized}
use Rattle.syntax.specs.Rule.{Clause, plain, when, Rule, last, also}
use Rattle.syntax.specs.Code.Arena.{base_op, fn_op, two_op, alike_op, empty_op, cmp_number, One}
use Rattle.syntax.specs.Code.Arena.{Holds, HoldsTest, HoldsClause, HoldsRule}
use Rattle.syntax.specs.Code.Nodes.{first_call, oe_op, ao_op, first_pair, member_op, first_alike, first_empty, first_numbered, first_counted, when_op, also_op, left_at, right_at, op_room, operation_of, left_of, right_of}
use Rattle.syntax.proofs.ArenaLaws.{base-small, two-range, Parts, none-parts, one-parts, both-parts, numbered-parts}
use Rattle.syntax.proofs.TestLaws.{cmp-small, alike-range, empty-range}
use Rattle.rules.specs.Kind.{Kind, Kind≟, holds, one_of, base_kind, takes, makes, of_element}
use Rattle.rules.specs.Kind.{call_kind, inside, one_kind, others_kind, as_set, joined, row, call2_kind, two_kind, with, kind, check, countable, is_member, count_kinds}
use Rattle.rules.specs.Kind.{test_kinds, clause_kinds, rule_kinds}
use Rattle.rules.specs.Code.Numbers.{kind_count, no_kind, kinds_fit, kind_list, kind_of, one_argument, one_table, one_number, set_number, pair_table, call2_number, two_number, countable_number, fits_number, node_number, step_number, KindAt, Kinded}
use Rattle.rules.proofs.TableLaws.{left-of-and, right-of-and, entry, upto, pair, same-below, same-pair}
use Rattle.rules.proofs.NodeLaws.{more-at}

-- Tests of equality that are computed.

same_kind : Option Kind → Option Kind → Bool
same_kind none none = true
same_kind none (some l) = false
same_kind (some k) none = false
same_kind (some k) (some l) = holds (Kind≟ k l)

same_kind_lem : (a b : Option Kind) → T (same_kind a b) → a ≡ b
unfolding same_kind
same_kind_lem none none t = refl
same_kind_lem none (some l) t = absurd t
same_kind_lem (some k) none t = absurd t
same_kind_lem (some k) (some l) t = go (Kind≟ k l) t
  where
    go : (d : Dec (k ≡ l)) → T (holds d) → some k ≡ some l
    go (yes p) t = ap some p
    go (no n) t = absurd t

-- z is a kind's number, and the kind is the one given.
pub record Numbers (z : ℕ) (k : Option Kind) : Type 0 where
  pub small : z < kinds_fit
  pub is : kind_of z ≡ k

numbers_b : ℕ → Option Kind → Bool
numbers_b z k = ltb z kinds_fit && same_kind (kind_of z) k

numbers : (z : ℕ) (k : Option Kind) → T (numbers_b z k) → Numbers z k
unfolding numbers_b
numbers z k t =
    record {
      small = ltb→ (left-of-and (ltb z kinds_fit) (same_kind (kind_of z) k) t);
      is = same_kind_lem (kind_of z) k (right-of-and (ltb z kinds_fit) (same_kind (kind_of z) k) t);
    }
  where
    ltb→ : T (ltb z kinds_fit) → z < kinds_fit
    ltb→ t = lit< t

-- The table of one argument, at all of its entries.
table_right : ℕ → ℕ → Bool
table_right k x = numbers_b x (with (kind_of (k % kind_count)) (get_or one_argument (k / kind_count) (λ _. none)))

table-law : (k : ℕ) → k < 135 → Numbers (get_or one_table k 0) (with (kind_of (k % kind_count)) (get_or one_argument (k / kind_count) (λ _. none)))
unfolding table_right numbers_b same_kind kind_of kind_list one_argument call_kind one_of takes makes of_element one_kind inside others_kind one_table
table-law k h = numbers (get_or one_table k 0) (with (kind_of (k % kind_count)) (get_or one_argument (k / kind_count) (λ _. none))) (entry table_right one_table tt k h)

one-law : (o x : ℕ) → first_call ≤ o → o < first_pair → x < kinds_fit → Numbers (one_number o x) (with (kind_of x) (get_or one_argument (o - first_call) (λ _. none)))
unfolding one_number kind_of kind_list
one-law o x lo hi h = ⊎_elim at_none at_some (eq-or-lt_of_le le)
  where
    le : x ≤ no_kind
    le = omega arith

    at_none : x ≡ no_kind → Numbers (one_number o x) (with (kind_of x) (get_or one_argument (o - first_call) (λ _. none)))
    at_none e = rw e (record { small = lit< tt; is = refl })

    at_some : x < no_kind → Numbers (one_number o x) (with (kind_of x) (get_or one_argument (o - first_call) (λ _. none)))
    at_some l =
        let k : ℕ = kind_count * (o - first_call) + x in
        let p : k % kind_count ≡ x = omega arith in
        let q : k / kind_count ≡ o - first_call = omega arith in
        rw (lt-ltb x no_kind l) (rw p at (rw q at (table-law k (omega arith))))

-- Two arguments, at all pairs of numbers.

two_right : Pair → ℕ → ℕ → Bool
two_right o a b = numbers_b (two_number (two_op o) a b) (with (kind_of a) (λ k. with (kind_of b) (λ l. two_kind o k l)))

two-right : (o : Pair) → T (upto (λ a. upto (two_right o a) kinds_fit) kinds_fit)
unfolding two_right numbers_b same_kind kind_of kind_list two_op two_number call2_number pair_table set_number two_kind call2_kind row joined as_set
two-right (calls operations) = tt
two-right (calls done) = tt
two-right (joins meet) = tt
two-right (joins join) = tt

two-law : (o : Pair) (a b : ℕ) → a < kinds_fit → b < kinds_fit → Numbers (two_number (two_op o) a b) (with (kind_of a) (λ k. with (kind_of b) (λ l. two_kind o k l)))
unfolding two_right
two-law o a b h l = numbers (two_number (two_op o) a b) (with (kind_of a) (λ k. with (kind_of b) (λ l. two_kind o k l))) (pair (two_right o) kinds_fit (two-right o) a b h l)

-- Tests, at all numbers and pairs of numbers.

countable-law : (a : ℕ) → a < kinds_fit → countable_number a ≡ check (kind_of a) countable
unfolding countable_number kind_of kind_list countable
countable-law a h = same-below countable_number (λ a. check (kind_of a) countable) kinds_fit tt a h

member-law : (a b : ℕ) → a < kinds_fit → b < kinds_fit → fits_number member_op a b ≡ check (kind_of a) (λ k. check (kind_of b) (λ l. is_member k l))
unfolding fits_number kind_of kind_list is_member
member-law a b h l = same-pair (fits_number member_op) (λ a b. check (kind_of a) (λ k. check (kind_of b) (λ l. is_member k l))) kinds_fit tt a b h l

alike-law : (g : Sign) (a b : ℕ) → a < kinds_fit → b < kinds_fit → fits_number (alike_op g) a b ≡ check (kind_of a) (λ k. check (kind_of b) (λ l. holds (Kind≟ k l)))
unfolding fits_number alike_op kind_of kind_list
alike-law g a b h l = same_sign g ∙ same-pair (fits_number first_alike) (λ a b. check (kind_of a) (λ k. check (kind_of b) (λ l. holds (Kind≟ k l)))) kinds_fit tt a b h l
  where
    same_sign : (g : Sign) → fits_number (alike_op g) a b ≡ fits_number first_alike a b
    same_sign is = refl
    same_sign isnt = refl

counted-law : (o a b : ℕ) → first_empty ≤ o → o < first_counted → fits_number o a b ≡ countable_number a
unfolding fits_number
counted-law o a b lo hi =
    let p : first_alike ≤ o = omega arith in
    rw (le-ltb o first_alike p, le-ltb o first_empty lo, lt-ltb o first_counted hi)

cond-and : (x y : Bool) → cond x y false ≡ (x && y)
cond-and true y = refl
cond-and false y = refl

counts-law : (o a b : ℕ) → first_counted ≤ o → o < when_op → fits_number o a b ≡ (countable_number a && countable_number b)
unfolding fits_number
counts-law o a b lo hi =
    let p : first_alike ≤ o = omega arith in
    let q : first_empty ≤ o = omega arith in
    rw (le-ltb o first_alike p, le-ltb o first_empty q, le-ltb o first_counted lo, lt-ltb o when_op hi) (cond-and (countable_number a) (countable_number b))

joined-law : (o a b : ℕ) → when_op ≤ o → fits_number o a b ≡ (eqb a kinds_fit && eqb b kinds_fit)
unfolding fits_number
joined-law o a b lo =
    let p : first_alike ≤ o = omega arith in
    let q : first_empty ≤ o = omega arith in
    let r : first_counted ≤ o = omega arith in
    rw (le-ltb o first_alike p, le-ltb o first_empty q, le-ltb o first_counted r, le-ltb o when_op lo) (cond-and (eqb a kinds_fit) (eqb b kinds_fit))

-- A node's number, by its operation.
module _ (o a b : ℕ) where
  pub node-one : first_call ≤ o → o < first_pair → node_number o a b ≡ one_number o a
  unfolding node_number
  node-one lo hi = rw (le-ltb o first_call lo, lt-ltb o first_pair hi)

  pub node-two : first_pair ≤ o → o < member_op → node_number o a b ≡ two_number o a b
  unfolding node_number
  node-two lo hi = let p : first_call ≤ o = omega arith in rw (le-ltb o first_call p, le-ltb o first_pair lo, lt-ltb o member_op hi)

  pub node-fits : member_op ≤ o → {t : Bool} → fits_number o a b ≡ t → node_number o a b ≡ cond t kinds_fit no_kind
  unfolding node_number
  node-fits h e =
      let p : first_call ≤ o = omega arith in
      let q : first_pair ≤ o = omega arith in
      rw (le-ltb o first_call p, le-ltb o first_pair q, le-ltb o member_op h, e)

fits-law : (o a b : ℕ) → member_op ≤ o → eqb (node_number o a b) kinds_fit ≡ fits_number o a b
fits-law o a b h = rw (node-fits o a b h refl) (go (fits_number o a b))
  where
    go : (x : Bool) → eqb (cond x kinds_fit no_kind) kinds_fit ≡ x
    go true = refl
    go false = refl

-- A node's number, by the numbers of the nodes below it.

pub number_is : (ks : List ℕ) (v : ℕ) {o i j a b : ℕ} → o ≡ operation_of v → i ≡ left_of v → j ≡ right_of v → a ≡ get_or ks i no_kind → b ≡ get_or ks j no_kind
    → node_number o a b ≡ step_number ks v
number_is ks v op left right a b = rw (a, b, op, left, right)

-- The operation o makes a term of one argument, whose kind f gives.
record MakesKind (o : ℕ) (f : Kind → Option Kind) : Type 0 where
  low : first_call ≤ o
  high : o < first_pair
  is : get_or one_argument (o - first_call) (λ _. none) ≡ f

fn_makes : (f : Fn) → MakesKind (fn_op f) (call_kind f)
unfolding fn_op one_argument
fn_makes user = record { low = lit≤ tt; high = lit< tt; is = refl }
fn_makes roles = record { low = lit≤ tt; high = lit< tt; is = refl }
fn_makes roles* = record { low = lit≤ tt; high = lit< tt; is = refl }
fn_makes sessions = record { low = lit≤ tt; high = lit< tt; is = refl }
fn_makes permissions = record { low = lit≤ tt; high = lit< tt; is = refl }
fn_makes permissions* = record { low = lit≤ tt; high = lit< tt; is = refl }
fn_makes object = record { low = lit≤ tt; high = lit< tt; is = refl }

oe-makes : MakesKind oe_op one_kind
unfolding one_argument
oe-makes = record { low = lit≤ tt; high = lit< tt; is = refl }

ao-makes : MakesKind ao_op others_kind
unfolding one_argument
ao-makes = record { low = lit≤ tt; high = lit< tt; is = refl }

base-numbers : (b : Base) (x y : ℕ) → Numbers (node_number (base_op b) x y) (some (base_kind b))
unfolding base_op node_number base_kind kind_of kind_list
base-numbers b_u x y = record { small = lit< tt; is = refl }
base-numbers b_r x y = record { small = lit< tt; is = refl }
base-numbers b_op x y = record { small = lit< tt; is = refl }
base-numbers b_obj x y = record { small = lit< tt; is = refl }
base-numbers b_p x y = record { small = lit< tt; is = refl }
base-numbers b_s x y = record { small = lit< tt; is = refl }
base-numbers b_cr x y = record { small = lit< tt; is = refl }
base-numbers b_cp x y = record { small = lit< tt; is = refl }
base-numbers b_cu x y = record { small = lit< tt; is = refl }

one-numbers : {o : ℕ} {f : Kind → Option Kind} → MakesKind o f → (x y : ℕ) → x < kinds_fit → Numbers (node_number o x y) (with (kind_of x) f)
one-numbers {o} {f} m x y h =
    rw (node-one o x y m.low m.high) (subst (λ (g : Kind → Option Kind). Numbers (one_number o x) (with (kind_of x) g)) m.is (one-law o x m.low m.high h))

two-numbers : (o : Pair) (x y : ℕ) → x < kinds_fit → y < kinds_fit → Numbers (node_number (two_op o) x y) (with (kind_of x) (λ k. with (kind_of y) (λ l. two_kind o k l)))
two-numbers o x y h l = rw (node-two (two_op o) x y (two-range o).low (two-range o).high) (two-law o x y h l)

module _ (ns ks : List ℕ) (k : ℕ) (below : Kinded ns k ks) where
  -- What is known of the terms at the node's left and right.
  at_left : {o i j : ℕ} (a : Term) → Parts (get_or ns k 0) o i j → i < k → Holds ns i a → Numbers (get_or ks (left_at ns k) no_kind) (kind a)
  at_left {o} {i} a p h x =
      let w = (below.at i h).term a x in
      rw p.left (record { small = w.0; is = w.1 })

  at_right : {j : ℕ} (b : Term) → right_at ns k ≡ j → j < k → Holds ns j b → Numbers (get_or ks (right_at ns k) no_kind) (kind b)
  at_right {j} b p h x =
      let w = (below.at j h).term b x in
      rw p (record { small = w.0; is = w.1 })

  one-step : {o i : ℕ} {f : Kind → Option Kind} (a : Term) → MakesKind o f → One ns k o i → Holds ns i a → Numbers (step_number ks (get_or ns k 0)) (with (kind a) f)
  one-step {o} {i} {f} a m x y =
      let p = one-parts x (omega arith) in
      let w = at_left a p x.below y in
      rw (p.op, ← w.is) (one-numbers m (get_or ks (left_at ns k) no_kind) (get_or ks (right_at ns k) no_kind) w.small)

  term-step : (t : Term) → Holds ns k t → Numbers (step_number ks (get_or ns k 0)) (kind t)
  unfolding Holds kind
  term-step (base b) x = let h : base_op b < op_room = omega (arith, base-small b) in rw (none-parts x h).op (base-numbers b (get_or ks (left_at ns k) no_kind) (get_or ks (right_at ns k) no_kind))
  term-step (call f a) x = one-step a (fn_makes f) x.1 x.2
  term-step (oe a) x = one-step a oe-makes x.1 x.2
  term-step (ao a) x = one-step a ao-makes x.1 x.2
  term-step (two o a b) x =
      let h : two_op o < op_room = omega (arith, (two-range o).high) in
      let p = both-parts x.2 h in
      let v = at_left a p x.2.below x.3 in
      let w = at_right b p.right x.2.below₂ x.4 in
      rw (p.op, ← v.is, ← w.is) (two-numbers o (get_or ks (left_at ns k) no_kind) (get_or ks (right_at ns k) no_kind) v.small w.small)

  -- The number of a test, a clause or a rule is kinds_fit where it fits.
  fits-step : {o i j : ℕ} → member_op ≤ o → Parts (get_or ns k 0) o i j → eqb (step_number ks (get_or ns k 0)) kinds_fit ≡ fits_number o (get_or ks (left_at ns k) no_kind) (get_or ks (right_at ns k) no_kind)
  fits-step {o} h p = rw p.op (fits-law o (get_or ks (left_at ns k) no_kind) (get_or ks (right_at ns k) no_kind) h)

  counted_step : {o i j : ℕ} (a : Term) → first_empty ≤ o → o < first_counted → Parts (get_or ns k 0) o i j → i < k → Holds ns i a → eqb (step_number ks (get_or ns k 0)) kinds_fit ≡ check (kind a) countable
  counted_step {o} a lo hi p h x =
      let w = at_left a p h x in
      let q : member_op ≤ o = omega arith in
      fits-step q p ∙ counted-law o (get_or ks (left_at ns k) no_kind) (get_or ks (right_at ns k) no_kind) lo hi ∙ countable-law (get_or ks (left_at ns k) no_kind) w.small ∙ rw w.is

  test-step : (p : Test) → HoldsTest ns k p → eqb (step_number ks (get_or ns k 0)) kinds_fit ≡ test_kinds p
  unfolding HoldsTest test_kinds count_kinds
  test-step (member a b) x =
      let p = both-parts x.2 (lit< tt) in
      let v = at_left a p x.2.below x.3 in
      let w = at_right b p.right x.2.below₂ x.4 in
      fits-step (lit≤ tt) p ∙ rw (← v.is, ← w.is) (member-law (get_or ks (left_at ns k) no_kind) (get_or ks (right_at ns k) no_kind) v.small w.small)
  test-step (alike g a b) x =
      let h : alike_op g < op_room = omega (arith, (alike-range g).1) in
      let p = both-parts x.2 h in
      let v = at_left a p x.2.below x.3 in
      let w = at_right b p.right x.2.below₂ x.4 in
      fits-step (omega (arith, (alike-range g).0)) p ∙ rw (← v.is, ← w.is) (alike-law g (get_or ks (left_at ns k) no_kind) (get_or ks (right_at ns k) no_kind) v.small w.small)
  test-step (empty g a) x =
      let h : empty_op g < op_room = omega (arith, (empty-range g).1) in
      counted_step a (empty-range g).0 (omega (arith, (empty-range g).1)) (one-parts x.1 h) x.1.below x.2
  test-step (sized c a (number m)) x =
      let l = cmp-small c in
      let h : first_numbered + cmp_number c < op_room = omega arith in
      counted_step a (omega arith) (omega arith) (numbered-parts x.1 h) x.1.below x.2 ∙ sym (and-true (check (kind a) countable))
  test-step (sized c a (count b)) x =
      let l = cmp-small c in
      let h : first_counted + cmp_number c < op_room = omega arith in
      let p = both-parts x.2 h in
      let v = at_left a p x.2.below x.3 in
      let w = at_right b p.right x.2.below₂ x.4 in
      fits-step (omega arith) p
      ∙ counts-law (first_counted + cmp_number c) (get_or ks (left_at ns k) no_kind) (get_or ks (right_at ns k) no_kind) (omega arith) (omega arith)
      ∙ rw (← v.is, ← w.is) (ap₂ ◌&&◌ (countable-law (get_or ks (left_at ns k) no_kind) v.small) (countable-law (get_or ks (right_at ns k) no_kind) w.small))

  clause-step : (c : Clause) → HoldsClause ns k c → eqb (step_number ks (get_or ns k 0)) kinds_fit ≡ clause_kinds c
  unfolding HoldsClause clause_kinds
  clause-step (plain p) x = test-step p x
  clause-step (when p q) x =
      let w = both-parts x.2 (lit< tt) in
      fits-step (lit≤ tt) w
      ∙ joined-law when_op (get_or ks (left_at ns k) no_kind) (get_or ks (right_at ns k) no_kind) (lit≤ tt)
      ∙ rw (w.left, w.right) (ap₂ ◌&&◌ ((below.at x.0 x.2.below).test p x.3) ((below.at x.1 x.2.below₂).test q x.4))

  rule-step : (ρ : Rule) → HoldsRule ns k ρ → eqb (step_number ks (get_or ns k 0)) kinds_fit ≡ rule_kinds ρ
  unfolding HoldsRule rule_kinds
  rule-step (last c) x = clause-step c x
  rule-step (also c ρ) x =
      let w = both-parts x.2 (lit< tt) in
      fits-step (lit≤ tt) w
      ∙ joined-law also_op (get_or ks (left_at ns k) no_kind) (get_or ks (right_at ns k) no_kind) (lit≤ tt)
      ∙ rw (w.left, w.right) (ap₂ ◌&&◌ ((below.at x.0 x.2.below).clause c x.3) ((below.at x.1 x.2.below₂).rule ρ x.4))

  -- One node more.
  pub kind-step : {x : ℕ} → x ≡ step_number ks (get_or ns k 0) → k < length ks → Kinded ns (k + 1) (set ks k x)
  kind-step {x} e h = record { at = more-at (KindAt ns) ks k x no_kind h below.at (rw e here) }
    where
      here : KindAt ns k (step_number ks (get_or ns k 0))
      here = record { term = λ t y. let w = term-step t y in (w.small, w.is); test = test-step; clause = clause-step; rule = rule-step }
