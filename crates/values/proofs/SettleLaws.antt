-- What a cache has while the nodes of a level are evaluated, from the lowest up.
-- Assumes nothing.
use mathlib.Core.Path.{◌≡◌, refl, sym, ◌∙◌}
use mathlib.Core.Bool.{true}
use mathlib.Core.List.{List}
use mathlib.Core.Logic.{⊎_elim}
use Prim.Native.Nat.{ℕ, ◌+◌, ◌<◌, ◌≤◌}
use native.Mathlib.Decide.{ℕ_discrete}
use native.Mathlib.Nat.{eq-or-lt_of_le}
use native.Mathlib.Omega.{arith}
use lib.ListN.{length, get_or, set}
use lib.Dec.{eqb}
use lib.Seq.{get_or-set_same, get_or-set_other}
use Rattle.tables.specs.Tables.{Tables}
use Rattle.syntax.specs.Term.{Term, base, call, oe, ao, two, Choices}
use Rattle.syntax.specs.Code.Arena.{Holds, Tidy}
use Rattle.syntax.specs.Code.Nodes.{first_call, oe_op, first_pair, op_at, left_at, right_at}
use Rattle.syntax.proofs.ArenaLaws.{base-small, fn-range, two-range, one-parts, both-parts, holds-op, holds-one, op_of}
use Rattle.rules.proofs.NodeLaws.{lt-or-le, left_below}
use Rattle.values.specs.Values.{value, variable_of}
use Rattle.values.specs.Sets.{names_in}
use Rattle.values.specs.Code.Nodes.{World, ValueAt}
use Rattle.values.specs.Code.Levels.{Levels, Following, Linked}
use Rattle.values.specs.Code.Cache.{Fed, StepAt, Stored}
use Rattle.values.proofs.ReadsLaws.{or_left}
use Rattle.values.proofs.NodeLaws.{right-below, term-small}
use Rattle.values.proofs.LevelLaws.{level-below}
use Rattle.words.proofs.LoopLaws.{or_right}

-- A term names what the terms right below it name.
module _ (ns : List ℕ) (σ : Choices) (k : ℕ) where
  names-left : (a : Term) → Holds ns k a → first_call ≤ op_at ns k → (op_at ns k ≡ oe_op → ⊥) → (b : Term) → Holds ns (left_at ns k) b
      → (u : ℕ) → names_in σ b u ≡ true → names_in σ a u ≡ true
  unfolding Holds names_in op_of
  names-left (base o) x l m b y u e = absurd (omega (arith, holds-op ns k (base o) x, base-small o))
  names-left (call f s) x l m b y u e =
      let z : Holds ns (left_at ns k) s = rw (one-parts x.1 (omega (arith, (fn-range f).high))).left x.2 in
      rw (← holds-one ns (left_at ns k) b s y z) e
  names-left (oe s) x l m b y u e = absurd (m (holds-op ns k (oe s) x))
  names-left (ao s) x l m b y u e =
      let z : Holds ns (left_at ns k) s = rw (one-parts x.1 (omega arith)).left x.2 in
      or_right (eqb (variable_of σ s) u) (names_in σ s u) (rw (← holds-one ns (left_at ns k) b s y z) e)
  names-left (two o s t) x l m b y u e =
      let z : Holds ns (left_at ns k) s = rw (both-parts x.2 (omega (arith, (two-range o).high))).left x.3 in
      or_left (names_in σ s u) (names_in σ t u) (rw (← holds-one ns (left_at ns k) b s y z) e)

  names-right : (a : Term) → Holds ns k a → first_pair ≤ op_at ns k → (b : Term) → Holds ns (right_at ns k) b
      → (u : ℕ) → names_in σ b u ≡ true → names_in σ a u ≡ true
  unfolding Holds names_in op_of
  names-right (base o) x l b y u e = absurd (omega (arith, holds-op ns k (base o) x, base-small o))
  names-right (call f s) x l b y u e = absurd (omega (arith, holds-op ns k (call f s) x, (fn-range f).high))
  names-right (oe s) x l b y u e = absurd (omega (arith, holds-op ns k (oe s) x))
  names-right (ao s) x l b y u e = absurd (omega (arith, holds-op ns k (ao s) x))
  names-right (two o s t) x l b y u e =
      let z : Holds ns (right_at ns k) t = rw (both-parts x.2 (omega (arith, (two-range o).high))).right x.4 in
      or_right (names_in σ s u) (names_in σ t u) (rw (← holds-one ns (right_at ns k) b t y z) e)

-- So a cache that has the values below node k up to its level feeds it.
fed : {ts ns : List ℕ} {n : ℕ} {ks vs : List ℕ} {T : Tables} {σ : Choices} {order levels : List ℕ} (c cache : List ℕ) → Tidy ns n → World ts ns n ks vs T σ
    → Levels ns n vs order levels → (k : ℕ) → k < n → (a : Term) → Holds ns k a
    → ((i : ℕ) → i < n → i < k → get_or levels i 0 ≤ get_or levels k 0 → (b : Term) → Holds ns i b → get_or cache i 0 ≡ value T σ c b) → Fed T σ c ns cache k
fed {ts} {ns} {n} {ks} {vs} {T} {σ} {order} {levels} c cache d w lev k h a x right = record {
  left = λ l m b y. below (left_at ns k) (left_below d h refl refl l) b y (names-left ns σ k a x l m b y);
  right = λ l b y. below (right_at ns k) (right-below d h l (omega (arith, term-small ns k a x))) b y (names-right ns σ k a x l b y);
}
  where
    below : (i : ℕ) → i < k → (b : Term) → Holds ns i b → ((u : ℕ) → names_in σ b u ≡ true → names_in σ a u ≡ true) → get_or cache i 0 ≡ value T σ c b
    below i l b y inc =
        right i (omega arith) l
        (level-below order (names_in σ b) (names_in σ a) (get_or levels i 0) (get_or levels k 0) (lev.each i (omega arith) σ w.variables b y) (lev.each k h σ w.variables a x) inc) b y

-- Of level d the cache has the nodes below k, of the levels below d all; k is the next of level d.
pub record Partly (ts ns : List ℕ) (n : ℕ) (ks vs c cache levels : List ℕ) (d k : ℕ) : Type 0 where
  pub here : k < n → get_or levels k 0 ≡ d
  pub done : (i : ℕ) → i < n → i < k → get_or levels i 0 ≤ d → ValueAt ts ns n ks vs c i (get_or cache i 0)
  pub kept : (i : ℕ) → i < n → get_or levels i 0 < d → ValueAt ts ns n ks vs c i (get_or cache i 0)

module _ {ts ns : List ℕ} {n : ℕ} {ks vs c levels : List ℕ} {d : ℕ} where
  pub partly_none : {cache : List ℕ} (from : ℕ) → Following n levels d 0 from → Stored ts ns n ks vs c cache levels d
      → Partly ts ns n ks vs c cache levels d from
  partly_none from F S = record {
    here = F.found;
    done = λ i l m b. S.holds i l (⊎_elim (λ (e : get_or levels i 0 ≡ d). absurd (F.least i (omega arith) m e)) (λ (e : get_or levels i 0 < d). e) (eq-or-lt_of_le b));
    kept = S.holds;
  }

  pub partly-all : {cache : List ℕ} (k : ℕ) → n ≤ k → n ≤ length cache → Partly ts ns n ks vs c cache levels d k → Stored ts ns n ks vs c cache levels (d + 1)
  partly-all k l m P = record { long = m; holds = λ i b low. P.done i b (omega arith) (omega arith) }

  pub partly-next : {cache order next : List ℕ} → Tidy ns n → Levels ns n vs order levels → Linked n levels next → (k r : ℕ) → k < n → n ≤ length cache
      → StepAt ts ns n ks vs c k cache r → Partly ts ns n ks vs c cache levels d k → Partly ts ns n ks vs c (set cache k r) levels d (get_or next k 0)
  partly-next {cache} {order} {next} tidy lev link k r h room s P = record {
    here = λ m. F.found m ∙ P.here h;
    done = λ i l m b. go i l m b (ℕ_discrete i k);
    kept = λ i l m. other i (λ e. let z : get_or levels i 0 ≡ d = rw e (P.here h) in absurd (omega (arith, z))) (P.kept i l m);
  }
    where
      F : Following n levels (get_or levels k 0) (k + 1) (get_or next k 0)
      F = link.each k h

      now-at : ValueAt ts ns n ks vs c k r
      now-at T σ w a x =
          s T σ w a x
          (fed c cache tidy w lev k h a x (λ i l m b e y. P.done i l m (omega (arith, P.here h)) T σ w e y))

      other : (i : ℕ) → (i ≡ k → ⊥) → ValueAt ts ns n ks vs c i (get_or cache i 0) → ValueAt ts ns n ks vs c i (get_or (set cache k r) i 0)
      other i ne v = rw (get_or-set_other cache k i r 0 ne) v

      go : (i : ℕ) → i < n → i < get_or next k 0 → get_or levels i 0 ≤ d → Dec (i ≡ k) → ValueAt ts ns n ks vs c i (get_or (set cache k r) i 0)
      go i l m b (yes e) = rw (e, get_or-set_same cache k r 0 (omega arith)) now-at
      go i l m b (no e) =
          other i e
          (⊎_elim
          (λ (q : i < k). P.done i l q b)
          (λ (q : k ≤ i).
          P.kept i l
          (⊎_elim
          (λ (z : get_or levels i 0 ≡ d). absurd (F.least i (omega arith) m (z ∙ sym (P.here h))))
          (λ (z : get_or levels i 0 < d). z)
          (eq-or-lt_of_le b)))
          (lt-or-le i k))
