-- What a node holds, by the number of its operation.
-- Assumes nothing.
use mathlib.Core.Path.{◌≡◌, refl, sym, ap, ◌∙◌}
use mathlib.Core.Bool.{cond}
use mathlib.Core.List.{List, [], ◌∷◌}
use Prim.Native.Nat.{ℕ, suc, ◌<◌, ◌≤◌}
use native.Mathlib.Decide.{ℕ_discrete}
use native.Mathlib.Omega.{arith}
use lib.Dec.{eqb}
use lib.ListN.{length, get_or}
use borrow.Author.Tests.{eq-eqb, ne_eqb}
use Rattle.syntax.specs.Term.{Base, b_u, b_r, b_op, b_obj, b_p, b_s, b_cr, b_cp, b_cu, Fn, user, roles, roles*, sessions, permissions}
use Rattle.syntax.specs.Term.{permissions*, object, operations, done, meet, join, Term, base, call, oe, ao, two, Term≟, Choices, Pair, calls, joins}
use Rattle.syntax.specs.Code.Arena.{base_op, fn_op, two_op, Holds, HoldsAll, Tidy}
use Rattle.syntax.specs.Code.Nodes.{first_call, oe_op, ao_op, first_pair, member_op, first_empty, first_counted, op_at, left_at, right_at}
use Rattle.values.specs.Values.{variable_of}
use Rattle.rules.specs.Code.Variables.{place_in}
use Rattle.rules.proofs.NodeLaws.{left_below, right-below as two-below}
use Rattle.rules.proofs.ShapeLaws.{two-low, two-high}
use Rattle.values.specs.Code.Nodes.{base_at, fn_at, pair_at, Variables}
use Rattle.syntax.proofs.ArenaLaws.{base-small, fn-range, two-range, one-parts, both-parts, holds-once, holds-one, holds-op, op_of}

base-at : (b : Base) → base_at (base_op b) ≡ b
unfolding base_at base_op
base-at b_u = refl
base-at b_r = refl
base-at b_op = refl
base-at b_obj = refl
base-at b_p = refl
base-at b_s = refl
base-at b_cr = refl
base-at b_cp = refl
base-at b_cu = refl

fn-at : (f : Fn) → fn_at (fn_op f) ≡ f
unfolding fn_at fn_op
fn-at user = refl
fn-at roles = refl
fn-at roles* = refl
fn-at sessions = refl
fn-at permissions = refl
fn-at permissions* = refl
fn-at object = refl

pair-at : (o : Pair) → pair_at (two_op o) ≡ o
unfolding pair_at two_op
pair-at (calls operations) = refl
pair-at (calls done) = refl
pair-at (joins meet) = refl
pair-at (joins join) = refl

-- The term is made of what the node at its left holds, and of that at its right.
pub record MadeOf (ns : List ℕ) (i : ℕ) (make : Term → Term) (t : Term) : Type 0 where
  pub inner : Term
  pub is : t ≡ make inner
  pub holds : Holds ns i inner

pub record MadeOfTwo (ns : List ℕ) (i j : ℕ) (o : Pair) (t : Term) : Type 0 where
  pub first : Term
  pub second : Term
  pub is : t ≡ two o first second
  pub holds : Holds ns i first
  pub holds₂ : Holds ns j second

module _ (ns : List ℕ) (k : ℕ) where
  pub is_base : (t : Term) → Holds ns k t → op_at ns k < first_call → t ≡ base (base_at (op_at ns k))
  unfolding op_of
  is_base (base b) x h = ap base (sym (base-at b) ∙ ap base_at (sym (holds-op ns k (base b) x)))
  is_base (call f a) x h = absurd (omega (arith, holds-op ns k (call f a) x, (fn-range f).low))
  is_base (oe a) x h = absurd (omega (arith, holds-op ns k (oe a) x))
  is_base (ao a) x h = absurd (omega (arith, holds-op ns k (ao a) x))
  is_base (two o a b) x h = absurd (omega (arith, holds-op ns k (two o a b) x, (two-range o).low))

  pub is_call : (t : Term) → Holds ns k t → first_call ≤ op_at ns k → op_at ns k < oe_op
      → MadeOf ns (left_at ns k) (call (fn_at (op_at ns k))) t
  unfolding op_of Holds
  is_call (base b) x h l = absurd (omega (arith, holds-op ns k (base b) x, base-small b))
  is_call (call f a) x h l = record {
    inner = a;
    is = ap (λ (g : Fn). call g a) (sym (fn-at f) ∙ ap fn_at (sym (holds-op ns k (call f a) x)));
    holds = rw (one-parts x.1 (omega (arith, (fn-range f).high))).left x.2;
  }
  is_call (oe a) x h l = absurd (omega (arith, holds-op ns k (oe a) x))
  is_call (ao a) x h l = absurd (omega (arith, holds-op ns k (ao a) x))
  is_call (two o a b) x h l = absurd (omega (arith, holds-op ns k (two o a b) x, (two-range o).low))

  pub is_one : (t : Term) → Holds ns k t → op_at ns k ≡ oe_op → MadeOf ns (left_at ns k) oe t
  unfolding op_of Holds
  is_one (base b) x h = absurd (omega (arith, holds-op ns k (base b) x, base-small b))
  is_one (call f a) x h = absurd (omega (arith, holds-op ns k (call f a) x, (fn-range f).high))
  is_one (oe a) x h = record { inner = a; is = refl; holds = rw (one-parts x.1 (omega arith)).left x.2 }
  is_one (ao a) x h = absurd (omega (arith, holds-op ns k (ao a) x))
  is_one (two o a b) x h = absurd (omega (arith, holds-op ns k (two o a b) x, (two-range o).low))

  pub is-others : (t : Term) → Holds ns k t → op_at ns k ≡ ao_op → MadeOf ns (left_at ns k) ao t
  unfolding op_of Holds
  is-others (base b) x h = absurd (omega (arith, holds-op ns k (base b) x, base-small b))
  is-others (call f a) x h = absurd (omega (arith, holds-op ns k (call f a) x, (fn-range f).high))
  is-others (oe a) x h = absurd (omega (arith, holds-op ns k (oe a) x))
  is-others (ao a) x h = record { inner = a; is = refl; holds = rw (one-parts x.1 (omega arith)).left x.2 }
  is-others (two o a b) x h = absurd (omega (arith, holds-op ns k (two o a b) x, (two-range o).low))

  pub is-two : (t : Term) → Holds ns k t → first_pair ≤ op_at ns k
      → MadeOfTwo ns (left_at ns k) (right_at ns k) (pair_at (op_at ns k)) t
  unfolding op_of Holds
  is-two (base b) x h = absurd (omega (arith, holds-op ns k (base b) x, base-small b))
  is-two (call f a) x h = absurd (omega (arith, holds-op ns k (call f a) x, (fn-range f).high))
  is-two (oe a) x h = absurd (omega (arith, holds-op ns k (oe a) x))
  is-two (ao a) x h = absurd (omega (arith, holds-op ns k (ao a) x))
  is-two (two o a b) x h =
      let p = both-parts x.2 (omega (arith, (two-range o).high)) in
      record {
        first = a;
        second = b;
        is = ap (λ (q : Pair). two q a b) (sym (pair-at o) ∙ ap pair_at (sym (holds-op ns k (two o a b) x)));
        holds = rw p.left x.3;
        holds₂ = rw p.right x.4;
      }

  -- No term has a number above 20.
  pub term-small : (t : Term) → Holds ns k t → op_at ns k < member_op
  unfolding op_of
  term-small (base b) x = omega (arith, holds-op ns k (base b) x, base-small b)
  term-small (call f a) x = omega (arith, holds-op ns k (call f a) x, (fn-range f).high)
  term-small (oe a) x = omega (arith, holds-op ns k (oe a) x)
  term-small (ao a) x = omega (arith, holds-op ns k (ao a) x)
  term-small (two o a b) x = omega (arith, holds-op ns k (two o a b) x, (two-range o).high)

-- The variable of the argument that node k holds is the place of k among the variables' nodes.
place-variable : (ns : List ℕ) (n : ℕ) → Tidy ns n → (vs : List ℕ) (σ : Choices) → HoldsAll ns vs σ → ((i : ℕ) → i < length vs → get_or vs i 0 < n)
    → (k : ℕ) (a : Term) → k < n → Holds ns k a → place_in k vs ≡ variable_of σ a
unfolding place_in variable_of
place-variable ns n d [] [] x l k a h y = refl
place-variable ns n d [] (t ∷ σ) x l k a h y = absurd x
place-variable ns n d (v ∷ vs) [] x l k a h y = absurd x
place-variable ns n d (v ∷ vs) (t ∷ σ) x l k a h y =
    go (ℕ_discrete v k) (Term≟ t a) (place-variable ns n d vs σ x.1 (λ i m. l (suc i) (omega arith)) k a h y)
  where
    go : Dec (v ≡ k) → (q : Dec (t ≡ a)) → place_in k vs ≡ variable_of σ a
        → ◌≡◌ {A = ℕ} (cond (eqb v k) 0 (suc (place_in k vs))) (elim q [ yes p ↦ 0 | no m ↦ suc (variable_of σ a) ])
    go (yes e) (yes p) ih = rw (eq-eqb v k e)
    go (yes e) (no m) ih = absurd (m (holds-one ns k t a (rw e at x.0) y))
    go (no e) (yes p) ih = absurd (e (holds-once ns n d.apart v k a (l 0 (omega arith)) h (rw p at x.0) y))
    go (no e) (no m) ih = rw (ne_eqb v k e) (ap suc ih)

pub variable-place : {ns : List ℕ} {n : ℕ} {vs : List ℕ} {σ : Choices} → Tidy ns n → Variables ns n vs σ → (k : ℕ) (a : Term) → k < n → Holds ns k a
    → place_in k vs ≡ variable_of σ a
variable-place {ns} {n} {vs} {σ} d w k a h y = place-variable ns n d vs σ w.holds w.below k a h y

-- What stands at a node's left and right stands below it.
module _ {ns : List ℕ} {n : ℕ} (d : Tidy ns n) {k : ℕ} (h : k < n) where
  pub right-below : first_pair ≤ op_at ns k → op_at ns k < first_empty → right_at ns k < k
  right-below l m = two-below d h refl refl (two-low (op_at ns k) l m)

  pub right-below₂ : first_counted ≤ op_at ns k → right_at ns k < k
  right-below₂ l = two-below d h refl refl (two-high (op_at ns k) l)

-- So they are among the first n.
module _ {ns : List ℕ} {n : ℕ} (d : Tidy ns n) {k : ℕ} (h : k < n) where
  pub left_in : first_call ≤ op_at ns k → left_at ns k < n
  left_in l = omega (arith, left_below d h refl refl l)

  pub right-in₂ : first_counted ≤ op_at ns k → right_at ns k < n
  right-in₂ l = omega (arith, right-below₂ d h l)
