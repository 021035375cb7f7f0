-- Laws of the nodes: what a node holds, it holds alone and for ever; a node is found again in one place; its parts stand below it.
-- Assumes nothing.
use mathlib.Core.Path.{◌≡◌, refl, sym, ap, ap₂, ◌∙◌}
use mathlib.Core.Bool.{true, false}
use mathlib.Core.List.{List, [], ◌∷◌}
use mathlib.Core.Logic.{⊎_elim}
use Prim.Native.Nat.{ℕ, suc, ◌+◌, ◌-◌, ◌<◌, ◌≤◌}
use native.Mathlib.Nat.{eq-or-lt_of_le}
use native.Mathlib.Omega.{arith}
use borrow.Author.Tests.{lt-ltb, le-ltb, le-leb, lt-leb}
use lib.ListN.{length, get_or, set, take, drop, length-set}
use lib.Seq.{get_or-set_same, get_or-set_other, get_or-take, get_or-drop}
use Rattle.syntax.specs.Term.{Base, b_u, b_r, b_op, b_obj, b_p, b_s, b_cr, b_cp, b_cu, Fn, user, roles, roles*, sessions, permissions}
use Rattle.syntax.specs.Term.{permissions*, object, operations, done, meet, join, Term, base, call, oe, ao, two, Choices, Pair, calls, joins}
use Rattle.syntax.specs.Rule.{number, count, Test, member, alike, empty, sized, Clause, plain, when, Rule, last, also}
use Rattle.syntax.specs.Code.Arena.{base_op, fn_op, two_op, None, One, Numbered, Both, Holds, HoldsTest, HoldsClause, HoldsRule, HoldsAll, Apart, has_two, Low, Down, Tidy}
use Rattle.syntax.specs.Code.Reading.{Arena, Stays, Sought, Knows}
use Rattle.syntax.specs.Code.Nodes.{first_call, oe_op, ao_op, first_pair, member_op, first_empty, first_counted, operation_of, left_of, right_of, node_of, op_at, op_room, index_room}

-- Which operations have two nodes below.

pub two-less : (o : ℕ) → o < first_pair → has_two o ≡ false
unfolding has_two
two-less o h = let l : o < first_counted = omega arith in rw (lt-leb first_pair o h, lt-leb first_counted o l)

pub two_none : (o : ℕ) → first_empty ≤ o → o < first_counted → has_two o ≡ false
unfolding has_two
two_none o lo hi = let l : first_pair ≤ o = omega arith in rw (le-leb first_pair o l, le-ltb o first_empty lo, lt-leb first_counted o hi)

pub two-low : (o : ℕ) → first_pair ≤ o → o < first_empty → has_two o ≡ true
unfolding has_two
two-low o lo hi = rw (le-leb first_pair o lo, lt-ltb o first_empty hi)

pub two-high : (o : ℕ) → first_counted ≤ o → has_two o ≡ true
unfolding has_two
two-high o h =
    let l : first_pair ≤ o = omega arith in
    let m : first_empty ≤ o = omega arith in
    rw (le-leb first_pair o l, le-ltb o first_empty m, le-leb first_counted o h)

-- The numbers of operations.

pub base-small : (b : Base) → base_op b < first_call
unfolding base_op
base-small b_u = omega arith
base-small b_r = omega arith
base-small b_op = omega arith
base-small b_obj = omega arith
base-small b_p = omega arith
base-small b_s = omega arith
base-small b_cr = omega arith
base-small b_cp = omega arith
base-small b_cu = omega arith

-- The number of a function is one of seven.
pub record FnRange (o : ℕ) : Type 0 where
  pub low : first_call ≤ o
  pub high : o < oe_op

pub fn-range : (f : Fn) → FnRange (fn_op f)
unfolding fn_op
fn-range user = record { low = omega arith; high = omega arith }
fn-range roles = record { low = omega arith; high = omega arith }
fn-range roles* = record { low = omega arith; high = omega arith }
fn-range sessions = record { low = omega arith; high = omega arith }
fn-range permissions = record { low = omega arith; high = omega arith }
fn-range permissions* = record { low = omega arith; high = omega arith }
fn-range object = record { low = omega arith; high = omega arith }

pub record TwoRange (o : ℕ) : Type 0 where
  pub low : first_pair ≤ o
  pub high : o < member_op

pub two-range : (o : Pair) → TwoRange (two_op o)
unfolding two_op
two-range (calls operations) = record { low = omega arith; high = omega arith }
two-range (calls done) = record { low = omega arith; high = omega arith }
two-range (joins meet) = record { low = omega arith; high = omega arith }
two-range (joins join) = record { low = omega arith; high = omega arith }

-- Each number is that of one operation.

base_back : (b : Base) → get_or (b_u ∷ b_r ∷ b_op ∷ b_obj ∷ b_p ∷ b_s ∷ b_cr ∷ b_cp ∷ b_cu ∷ []) (base_op b) b_u ≡ b
unfolding base_op
base_back b_u = refl
base_back b_r = refl
base_back b_op = refl
base_back b_obj = refl
base_back b_p = refl
base_back b_s = refl
base_back b_cr = refl
base_back b_cp = refl
base_back b_cu = refl

pub base-one : (a b : Base) → base_op a ≡ base_op b → a ≡ b
base-one a b e = cc (base_back a, base_back b)

fn-back : (f : Fn) → get_or (user ∷ roles ∷ roles* ∷ sessions ∷ permissions ∷ permissions* ∷ object ∷ []) (fn_op f - first_call) user ≡ f
unfolding fn_op
fn-back user = refl
fn-back roles = refl
fn-back roles* = refl
fn-back sessions = refl
fn-back permissions = refl
fn-back permissions* = refl
fn-back object = refl

pub fn-one : (f g : Fn) → fn_op f ≡ fn_op g → f ≡ g
fn-one f g e = cc (fn-back f, fn-back g)

two_back : (o : Pair) → get_or (calls operations ∷ calls done ∷ joins meet ∷ joins join ∷ []) (two_op o - first_pair) (calls operations) ≡ o
unfolding two_op
two_back (calls operations) = refl
two_back (calls done) = refl
two_back (joins meet) = refl
two_back (joins join) = refl

pub two-one : (o p : Pair) → two_op o ≡ two_op p → o ≡ p
two-one o p e = cc (two_back o, two_back p)

-- The parts of a node: its operation, its left index and its right one.

pub record Parts (v o i j : ℕ) : Type 0 where
  pub op : operation_of v ≡ o
  pub left : left_of v ≡ i
  pub right : right_of v ≡ j

pub parts : (v o i j : ℕ) → v ≡ node_of o i j → o < op_room → i < index_room → Parts v o i j
parts v o i j e lo li =
    record { op = rw e (omega arith); left = rw e (omega arith); right = rw e (omega arith) }

pub none-parts : {ns : List ℕ} {k o : ℕ} → None ns k o → o < op_room → Parts (get_or ns k 0) o 0 0
none-parts {ns} {k} {o} x h = parts (get_or ns k 0) o 0 0 (omega (arith, x.node)) h (omega arith)

pub numbered-parts : {ns : List ℕ} {k o i m : ℕ} → Numbered ns k o i m → o < op_room → Parts (get_or ns k 0) o i m
numbered-parts {ns} {k} {o} {i} {m} x h = parts (get_or ns k 0) o i m x.node h x.small

pub one-parts : {ns : List ℕ} {k o i : ℕ} → One ns k o i → o < op_room → Parts (get_or ns k 0) o i 0
one-parts {ns} {k} {o} {i} x h = parts (get_or ns k 0) o i 0 (omega (arith, x.node)) h x.small

pub both-parts : {ns : List ℕ} {k o i j : ℕ} → Both ns k o i j → o < op_room → Parts (get_or ns k 0) o i j
both-parts {ns} {k} {o} {i} {j} x h = parts (get_or ns k 0) o i j x.node h x.small

-- Nodes that stay.

pub stays-refl : (a : Arena) → Stays a a
stays-refl a = record { more = omega arith; size = refl; same = λ i h. refl }

pub stays-trans : {a b c : Arena} → Stays a b → Stays b c → Stays a c
stays-trans p q = record { more = omega arith; size = q.size ∙ p.size; same = λ i h. q.same i (omega arith) ∙ p.same i h }

-- What a node holds it holds in every list that has the same nodes below n.
pub record Kept (ns ms : List ℕ) (n : ℕ) : Type 0 where
  pub same : (i : ℕ) → i < n → get_or ms i 0 ≡ get_or ns i 0

module _ {ns ms : List ℕ} {n : ℕ} (p : Kept ns ms n) where
  one_kept : {k o i : ℕ} → k < n → One ns k o i → One ms k o i
  one_kept {k} h x = record { below = x.below; small = x.small; node = p.same k h ∙ x.node }

  numbered-kept : {k o i m : ℕ} → k < n → Numbered ns k o i m → Numbered ms k o i m
  numbered-kept {k} h x = record { below = x.below; small = x.small; few = x.few; node = p.same k h ∙ x.node }

  both-kept : {k o i j : ℕ} → k < n → Both ns k o i j → Both ms k o i j
  both-kept {k} h x = record { below = x.below; small = x.small; below₂ = x.below₂; small₂ = x.small₂; node = p.same k h ∙ x.node }

pub holds_kept : (ns ms : List ℕ) (n k : ℕ) (t : Term) → Kept ns ms n → k < n → Holds ns k t → Holds ms k t
unfolding Holds
holds_kept ns ms n k (base c) p h x = record { node = p.same k h ∙ x.node }
holds_kept ns ms n k (call f t) p h x = (x.0, one_kept p h x.1, holds_kept ns ms n x.0 t p (omega (arith, x.1.below)) x.2)
holds_kept ns ms n k (oe t) p h x = (x.0, one_kept p h x.1, holds_kept ns ms n x.0 t p (omega (arith, x.1.below)) x.2)
holds_kept ns ms n k (ao t) p h x = (x.0, one_kept p h x.1, holds_kept ns ms n x.0 t p (omega (arith, x.1.below)) x.2)
holds_kept ns ms n k (two o t u) p h x =
    (x.0, x.1, both-kept p h x.2, holds_kept ns ms n x.0 t p (omega (arith, x.2.below)) x.3, holds_kept ns ms n x.1 u p (omega (arith, x.2.below₂)) x.4)

pub test-kept : (ns ms : List ℕ) (n k : ℕ) (t : Test) → Kept ns ms n → k < n → HoldsTest ns k t → HoldsTest ms k t
unfolding HoldsTest
test-kept ns ms n k (member t u) p h x =
    (x.0, x.1, both-kept p h x.2, holds_kept ns ms n x.0 t p (omega (arith, x.2.below)) x.3, holds_kept ns ms n x.1 u p (omega (arith, x.2.below₂)) x.4)
test-kept ns ms n k (alike g t u) p h x =
    (x.0, x.1, both-kept p h x.2, holds_kept ns ms n x.0 t p (omega (arith, x.2.below)) x.3, holds_kept ns ms n x.1 u p (omega (arith, x.2.below₂)) x.4)
test-kept ns ms n k (empty g t) p h x = (x.0, one_kept p h x.1, holds_kept ns ms n x.0 t p (omega (arith, x.1.below)) x.2)
test-kept ns ms n k (sized c t (number m)) p h x =
    (x.0, numbered-kept p h x.1, holds_kept ns ms n x.0 t p (omega (arith, x.1.below)) x.2)
test-kept ns ms n k (sized c t (count u)) p h x =
    (x.0, x.1, both-kept p h x.2, holds_kept ns ms n x.0 t p (omega (arith, x.2.below)) x.3, holds_kept ns ms n x.1 u p (omega (arith, x.2.below₂)) x.4)

pub clause-kept : (ns ms : List ℕ) (n k : ℕ) (c : Clause) → Kept ns ms n → k < n → HoldsClause ns k c → HoldsClause ms k c
unfolding HoldsClause
clause-kept ns ms n k (plain q) p h x = test-kept ns ms n k q p h x
clause-kept ns ms n k (when q r) p h x =
    (x.0, x.1, both-kept p h x.2, test-kept ns ms n x.0 q p (omega (arith, x.2.below)) x.3, test-kept ns ms n x.1 r p (omega (arith, x.2.below₂)) x.4)

pub rule-kept : (ns ms : List ℕ) (n k : ℕ) (ρ : Rule) → Kept ns ms n → k < n → HoldsRule ns k ρ → HoldsRule ms k ρ
unfolding HoldsRule
rule-kept ns ms n k (last c) p h x = clause-kept ns ms n k c p h x
rule-kept ns ms n k (also c ρ) p h x =
    (x.0, x.1, both-kept p h x.2, clause-kept ns ms n x.0 c p (omega (arith, x.2.below)) x.3, rule-kept ns ms n x.1 ρ p (omega (arith, x.2.below₂)) x.4)

pub all-kept : (ns ms : List ℕ) (n : ℕ) (vs : List ℕ) (σ : Choices) → Kept ns ms n → ((i : ℕ) → i < length vs → get_or vs i 0 < n) → HoldsAll ns vs σ → HoldsAll ms vs σ
all-kept ns ms n [] [] p h x = tt
all-kept ns ms n [] (t ∷ σ) p h x = x
all-kept ns ms n (v ∷ vs) [] p h x = x
all-kept ns ms n (v ∷ vs) (t ∷ σ) p h x =
    (holds_kept ns ms n v t p (h 0 (omega arith)) x.0, all-kept ns ms n vs σ p (λ i l. h (suc i) (omega arith)) x.1)

pub tidy-kept : {ns ms : List ℕ} {n : ℕ} → Kept ns ms n → n ≤ length ms → length ms ≤ 4096 → Tidy ns n → Tidy ms n
unfolding Apart Down
tidy-kept p h l t =
    record {
      size = l;
      fits = h;
      apart = λ i j a b e. t.apart i j a b (sym (p.same i a) ∙ e ∙ p.same j b);
      down = λ k a. rw (p.same k a) (t.down k a);
    }

-- And so later.

pub kept-later : {a b : Arena} → Stays a b → Kept a.nodes b.nodes a.n
kept-later p = record { same = p.same }

pub holds_later : (a b : Arena) (k : ℕ) (t : Term) → Stays a b → k < a.n → Holds a.nodes k t → Holds b.nodes k t
holds_later a b k t p h x = holds_kept a.nodes b.nodes a.n k t (kept-later p) h x

pub test-later : (a b : Arena) (k : ℕ) (t : Test) → Stays a b → k < a.n → HoldsTest a.nodes k t → HoldsTest b.nodes k t
test-later a b k t p h x = test-kept a.nodes b.nodes a.n k t (kept-later p) h x

pub clause-later : (a b : Arena) (k : ℕ) (c : Clause) → Stays a b → k < a.n → HoldsClause a.nodes k c → HoldsClause b.nodes k c
clause-later a b k c p h x = clause-kept a.nodes b.nodes a.n k c (kept-later p) h x

pub rule-later : (a b : Arena) (k : ℕ) (ρ : Rule) → Stays a b → k < a.n → HoldsRule a.nodes k ρ → HoldsRule b.nodes k ρ
rule-later a b k ρ p h x = rule-kept a.nodes b.nodes a.n k ρ (kept-later p) h x

pub all-later : (a b : Arena) (vs : List ℕ) (σ : Choices) → Stays a b → ((i : ℕ) → i < length vs → get_or vs i 0 < a.n) → HoldsAll a.nodes vs σ → HoldsAll b.nodes vs σ
all-later a b vs σ p h x = all-kept a.nodes b.nodes a.n vs σ (kept-later p) h x

pub knows-later : {a b : Arena} {vs : List ℕ} {σ : Choices} → Stays a b → Knows a vs σ → Knows b vs σ
knows-later {a} {b} {vs} {σ} p w =
    record { holds = all-later a b vs σ p w.below w.holds; below = λ i h. let l = w.below i h in omega arith }

-- Two nodes that hold one term are one node.
pub holds-once : (ns : List ℕ) (n : ℕ) → Apart ns n → (k l : ℕ) (t : Term) → k < n → l < n → Holds ns k t → Holds ns l t → k ≡ l
unfolding Holds Apart
holds-once ns n d k l (base b) hk hl x y = d k l hk hl (x.node ∙ sym y.node)
holds-once ns n d k l (call f t) hk hl x y =
    let e = holds-once ns n d x.0 y.0 t (omega (arith, x.1.below)) (omega (arith, y.1.below)) x.2 y.2 in
    d k l hk hl (cc (x.1.node, y.1.node))
holds-once ns n d k l (oe t) hk hl x y =
    let e = holds-once ns n d x.0 y.0 t (omega (arith, x.1.below)) (omega (arith, y.1.below)) x.2 y.2 in
    d k l hk hl (cc (x.1.node, y.1.node))
holds-once ns n d k l (ao t) hk hl x y =
    let e = holds-once ns n d x.0 y.0 t (omega (arith, x.1.below)) (omega (arith, y.1.below)) x.2 y.2 in
    d k l hk hl (cc (x.1.node, y.1.node))
holds-once ns n d k l (two o t u) hk hl x y =
    let e = holds-once ns n d x.0 y.0 t (omega (arith, x.2.below)) (omega (arith, y.2.below)) x.3 y.3 in
    let f = holds-once ns n d x.1 y.1 u (omega (arith, x.2.below₂)) (omega (arith, y.2.below₂)) x.4 y.4 in
    d k l hk hl (cc (x.2.node, y.2.node))

-- One node holds one term.

-- The operation of the node that holds a term.
unfoldable pub op_of : Term → ℕ
op_of (base b) = base_op b
op_of (call f t) = fn_op f
op_of (oe t) = oe_op
op_of (ao t) = ao_op
op_of (two o t u) = two_op o

one-op : {ns : List ℕ} {k o i : ℕ} → One ns k o i → o < op_room → op_at ns k ≡ o
one-op x h = (one-parts x h).op

pub holds-op : (ns : List ℕ) (k : ℕ) (t : Term) → Holds ns k t → op_at ns k ≡ op_of t
unfolding Holds op_of
holds-op ns k (base b) x = (none-parts x (omega (arith, base-small b))).op
holds-op ns k (call f t) x = one-op x.1 (omega (arith, (fn-range f).high))
holds-op ns k (oe t) x = one-op x.1 (omega arith)
holds-op ns k (ao t) x = one-op x.1 (omega arith)
holds-op ns k (two o t u) x = (both-parts x.2 (omega (arith, (two-range o).high))).op

-- Two operations on one node are on one index.
one_same : {ns : List ℕ} {k o p i j : ℕ} → One ns k o i → One ns k p j → o < op_room → p < op_room → i ≡ j
one_same x y ho hp = sym (one-parts x ho).left ∙ (one-parts y hp).left

pub holds-one : (ns : List ℕ) (k : ℕ) (t u : Term) → Holds ns k t → Holds ns k u → t ≡ u
unfolding Holds op_of
holds-one ns k (base b) (base c) x y = ap base (base-one b c (sym (holds-op ns k (base b) x) ∙ holds-op ns k (base c) y))
holds-one ns k (base b) (call g u) x y = absurd (omega (arith, holds-op ns k (base b) x, holds-op ns k (call g u) y, base-small b, (fn-range g).low))
holds-one ns k (base b) (oe u) x y = absurd (omega (arith, holds-op ns k (base b) x, holds-op ns k (oe u) y, base-small b))
holds-one ns k (base b) (ao u) x y = absurd (omega (arith, holds-op ns k (base b) x, holds-op ns k (ao u) y, base-small b))
holds-one ns k (base b) (two p u w) x y = absurd (omega (arith, holds-op ns k (base b) x, holds-op ns k (two p u w) y, base-small b, (two-range p).low))
holds-one ns k (call f t) (base c) x y = absurd (omega (arith, holds-op ns k (call f t) x, holds-op ns k (base c) y, base-small c, (fn-range f).low))
holds-one ns k (call f t) (call g u) x y =
    let q = one_same x.1 y.1 (omega (arith, (fn-range f).high)) (omega (arith, (fn-range g).high)) in
    let h : Holds ns y.0 t = rw q at x.2 in
    ap₂ call (fn-one f g (sym (holds-op ns k (call f t) x) ∙ holds-op ns k (call g u) y)) (holds-one ns y.0 t u h y.2)
holds-one ns k (call f t) (oe u) x y = absurd (omega (arith, holds-op ns k (call f t) x, holds-op ns k (oe u) y, (fn-range f).high))
holds-one ns k (call f t) (ao u) x y = absurd (omega (arith, holds-op ns k (call f t) x, holds-op ns k (ao u) y, (fn-range f).high))
holds-one ns k (call f t) (two p u w) x y = absurd (omega (arith, holds-op ns k (call f t) x, holds-op ns k (two p u w) y, (fn-range f).high, (two-range p).low))
holds-one ns k (oe t) (base c) x y = absurd (omega (arith, holds-op ns k (oe t) x, holds-op ns k (base c) y, base-small c))
holds-one ns k (oe t) (call g u) x y = absurd (omega (arith, holds-op ns k (oe t) x, holds-op ns k (call g u) y, (fn-range g).high))
holds-one ns k (oe t) (oe u) x y =
    let q = one_same x.1 y.1 (omega arith) (omega arith) in
    let h : Holds ns y.0 t = rw q at x.2 in
    ap oe (holds-one ns y.0 t u h y.2)
holds-one ns k (oe t) (ao u) x y = absurd (omega (arith, holds-op ns k (oe t) x, holds-op ns k (ao u) y))
holds-one ns k (oe t) (two p u w) x y = absurd (omega (arith, holds-op ns k (oe t) x, holds-op ns k (two p u w) y, (two-range p).low))
holds-one ns k (ao t) (base c) x y = absurd (omega (arith, holds-op ns k (ao t) x, holds-op ns k (base c) y, base-small c))
holds-one ns k (ao t) (call g u) x y = absurd (omega (arith, holds-op ns k (ao t) x, holds-op ns k (call g u) y, (fn-range g).high))
holds-one ns k (ao t) (oe u) x y = absurd (omega (arith, holds-op ns k (ao t) x, holds-op ns k (oe u) y))
holds-one ns k (ao t) (ao u) x y =
    let q = one_same x.1 y.1 (omega arith) (omega arith) in
    let h : Holds ns y.0 t = rw q at x.2 in
    ap ao (holds-one ns y.0 t u h y.2)
holds-one ns k (ao t) (two p u w) x y = absurd (omega (arith, holds-op ns k (ao t) x, holds-op ns k (two p u w) y, (two-range p).low))
holds-one ns k (two o t v) (base c) x y = absurd (omega (arith, holds-op ns k (two o t v) x, holds-op ns k (base c) y, base-small c, (two-range o).low))
holds-one ns k (two o t v) (call g u) x y = absurd (omega (arith, holds-op ns k (two o t v) x, holds-op ns k (call g u) y, (fn-range g).high, (two-range o).low))
holds-one ns k (two o t v) (oe u) x y = absurd (omega (arith, holds-op ns k (two o t v) x, holds-op ns k (oe u) y, (two-range o).low))
holds-one ns k (two o t v) (ao u) x y = absurd (omega (arith, holds-op ns k (two o t v) x, holds-op ns k (ao u) y, (two-range o).low))
holds-one ns k (two o t v) (two p u w) x y =
    let f = both-parts x.2 (omega (arith, (two-range o).high)) in
    let g = both-parts y.2 (omega (arith, (two-range p).high)) in
    let q = sym f.left ∙ g.left in
    let q' = sym f.right ∙ g.right in
    let h : Holds ns y.0 t = rw q at x.3 in
    let h' : Holds ns y.1 v = rw q' at x.4 in
    let e : o ≡ p = two-one o p (sym f.op ∙ g.op) in
    cc (holds-one ns y.0 t u h y.3, holds-one ns y.1 v w h' y.4)

-- The nodes of a list hold one list of terms.
pub all_one : (ns vs : List ℕ) (σ τ : Choices) → HoldsAll ns vs σ → HoldsAll ns vs τ → σ ≡ τ
all_one ns [] [] [] x y = refl
all_one ns [] [] (b ∷ τ) x y = absurd y
all_one ns [] (a ∷ σ) τ x y = absurd x
all_one ns (v ∷ vs) [] τ x y = absurd x
all_one ns (v ∷ vs) (a ∷ σ) [] x y = absurd y
all_one ns (v ∷ vs) (a ∷ σ) (b ∷ τ) x y =
    ap₂ (λ (t : Term) (r : Choices). t ∷ r) (holds-one ns v a b x.0 y.0) (all_one ns vs σ τ x.1 y.1)

-- A node that no node below n is, and whose own indexes stand below n, may be put behind them.

apart_more : (ns : List ℕ) (n v : ℕ) → n < length ns → Apart ns n → ((k : ℕ) → k < n → get_or ns k 0 ≡ v → ⊥) → Apart (set ns n v) (n + 1)
unfolding Apart
apart_more ns n v h d new i j hi hj e =
    ⊎_elim
    (λ (ei : i ≡ n). ⊎_elim (λ (ej : j ≡ n). ei ∙ sym ej) (λ (lj : j < n). absurd (new j lj (sym (sym (atn i ei) ∙ e ∙ below j lj)))) (eq-or-lt_of_le (at_most j hj)))
    (λ (li : i < n). ⊎_elim (λ (ej : j ≡ n). absurd (new i li (sym (below i li) ∙ e ∙ atn j ej))) (λ (lj : j < n). d i j li lj (sym (below i li) ∙ e ∙ below j lj)) (eq-or-lt_of_le (at_most j hj)))
    (eq-or-lt_of_le (at_most i hi))
  where
    at_most : (k : ℕ) → k < n + 1 → k ≤ n
    at_most k l = omega arith

    atn : (k : ℕ) → k ≡ n → get_or (set ns n v) k 0 ≡ v
    atn k q = rw q (get_or-set_same ns n v 0 h)

    below : (k : ℕ) → k < n → get_or (set ns n v) k 0 ≡ get_or ns k 0
    below k l = get_or-set_other ns n k v 0 (omega arith)

down-more : (ns : List ℕ) (n v : ℕ) → n < length ns → Down ns n → Low v n → Down (set ns n v) (n + 1)
unfolding Down
down-more ns n v h d low k hk =
    ⊎_elim (λ (e : k ≡ n). rw (e, get_or-set_same ns n v 0 h) low) (λ (l : k < n). rw (get_or-set_other ns n k v 0 (omega arith)) (d k l)) (eq-or-lt_of_le (at_most hk))
  where
    at_most : k < n + 1 → k ≤ n
    at_most l = omega arith

pub tidy-more : (ns : List ℕ) (n v : ℕ) → n < length ns → Tidy ns n → Low v n → ((k : ℕ) → k < n → get_or ns k 0 ≡ v → ⊥) → Tidy (set ns n v) (n + 1)
tidy-more ns n v h d low new =
    record {
      size = rw (length-set ns n v) d.size;
      fits = rw (length-set ns n v) (omega arith);
      apart = apart_more ns n v h d.apart new;
      down = down-more ns n v h d.down low;
    }

pub tidy-none : (ns : List ℕ) → length ns ≤ 4096 → Tidy ns 0
unfolding Apart Down
tidy-none ns l = record { size = l; fits = omega arith; apart = λ i j h. absurd (omega arith); down = λ k h. absurd (omega arith) }

-- What is sought among the nodes from a place on.

module _ (ns : List ℕ) (from m n : ℕ) {v r : ℕ} (h : n ≤ from + m) (s : Sought (take m (drop from ns)) (n - from) v r) where
  behind : (k : ℕ) → from ≤ k → k < n → get_or (take m (drop from ns)) (k - from) 0 ≡ get_or ns k 0
  behind k l g =
      let e : from + (k - from) ≡ k = omega arith in
      let i : k - from < m = omega arith in
      get_or-take m (drop from ns) (k - from) 0 i ∙ get_or-drop from ns (k - from) 0 ∙ ap (λ (x : ℕ). get_or ns x 0) e

  pub sought-found : from + r < n → get_or ns (from + r) 0 ≡ v
  sought-found g =
      let e : from + r - from ≡ r = omega arith in
      sym (behind (from + r) (omega arith) g) ∙ rw e (s.found (omega arith))

  -- A node that stands nowhere from there on, and would stand nowhere below, is none of the nodes.
  pub sought-none : Down ns n → ((k : ℕ) → Low v k → from ≤ k) → n ≤ from + r → (k : ℕ) → k < n → get_or ns k 0 ≡ v → ⊥
  unfolding Down
  sought-none d low g k l e =
      let b : from ≤ k = low k (rw e at (d k l)) in
      s.before (k - from) (omega arith) (behind k b l ∙ e)
