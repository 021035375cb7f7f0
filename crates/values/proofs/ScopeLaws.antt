-- The variables that a test, and a clause, names, by the numbers of their nodes.
-- Assumes nothing.
use mathlib.Core.Path.{◌≡◌, ap, ap₂, ◌∙◌, sym}
use mathlib.Core.Bool.{Bool, ◌||◌}
use mathlib.Core.List.{List}
use Prim.Native.Nat.{ℕ, ◌<◌, ◌≤◌}
use native.Mathlib.Omega.{arith}
use Rattle.words.specs.Words.{has, join_of}
use Rattle.words.proofs.WordsLaws.{has_join}
use Rattle.syntax.specs.Term.{Term, Choices}
use Rattle.syntax.specs.Rule.{number, count, Test, member, alike, empty, sized, Clause, plain, when}
use Rattle.syntax.specs.Code.Arena.{Holds, HoldsTest}
use Rattle.syntax.specs.Code.Nodes.{first_empty, first_counted, op_at, left_at, right_at, operation_of, left_of, right_of}
use Rattle.syntax.proofs.ArenaLaws.{one-parts, both-parts, numbered-parts}
use Rattle.values.specs.Sets.{names_in}
use Rattle.values.specs.Code.Clauses.{test_names, clause_names, TestNode, ClauseNodes}
use Rattle.values.proofs.TruthLaws.{alike-range, empty-range, op_of_test, test-op, no_test}
use Rattle.syntax.proofs.TestLaws.{cmp-small}

module _ (ns : List ℕ) (σ : Choices) (k u : ℕ) where
  -- a and b have the variables of the terms at its left and right.
  abbrev Left : ℕ → Type 0
  Left a = (s : Term) → Holds ns (left_at ns k) s → has a u ≡ names_in σ s u

  abbrev Right : ℕ → Type 0
  Right b = (s : Term) → Holds ns (right_at ns k) s → has b u ≡ names_in σ s u

  test-one : (p : Test) → HoldsTest ns k p → first_empty ≤ op_at ns k → op_at ns k < first_counted → (a : ℕ) → Left a → has a u ≡ test_names σ p u
  unfolding HoldsTest test_names op_of_test
  test-one (member s t) x l m a ih = absurd (omega (arith, test-op ns k (member s t) x))
  test-one (alike g s t) x l m a ih = absurd (omega (arith, test-op ns k (alike g s t) x, (alike-range g).most))
  test-one (empty g s) x l m a ih = ih s (rw (one-parts x.1 (omega (arith, (empty-range g).most))).left x.2)
  test-one (sized d s (number j)) x l m a ih = ih s (rw (numbered-parts x.1 (omega (arith, cmp-small d))).left x.2)
  test-one (sized d s (count t)) x l m a ih = absurd (omega (arith, test-op ns k (sized d s (count t)) x))

  either : (s t : Term) (a b : ℕ) → u < 64 → has a u ≡ names_in σ s u → has b u ≡ names_in σ t u → has (join_of a b) u ≡ (names_in σ s u || names_in σ t u)
  either s t a b l e f = has_join a b u l ∙ ap₂ (λ (y z : Bool). y || z) e f

  test-two : (p : Test) → HoldsTest ns k p → (first_empty ≤ op_at ns k → first_counted ≤ op_at ns k) → u < 64 → (a b : ℕ) → Left a → Right b
      → has (join_of a b) u ≡ test_names σ p u
  unfolding HoldsTest test_names op_of_test
  test-two (member s t) x h l a b ih jh =
      let q = both-parts x.2 (omega arith) in
      either s t a b l (ih s (rw q.left x.3)) (jh t (rw q.right x.4))
  test-two (alike g s t) x h l a b ih jh =
      let q = both-parts x.2 (omega (arith, (alike-range g).most)) in
      either s t a b l (ih s (rw q.left x.3)) (jh t (rw q.right x.4))
  test-two (empty g s) x h l a b ih jh =
      let q = test-op ns k (empty g s) x in
      let r = empty-range g in
      absurd (omega (arith, h (omega arith)))
  test-two (sized d s (number m)) x h l a b ih jh =
      let q = test-op ns k (sized d s (number m)) x in
      let r = cmp-small d in
      absurd (omega (arith, h (omega arith)))
  test-two (sized d s (count t)) x h l a b ih jh =
      let q = both-parts x.2 (omega (arith, cmp-small d)) in
      either s t a b l (ih s (rw q.left x.3)) (jh t (rw q.right x.4))

module _ {ns : List ℕ} {n v : ℕ} {p : Test} (x : TestNode ns n v p) (σ : Choices) (u : ℕ) (op left right : ℕ)
    (eo : op ≡ operation_of v) (el : left ≡ left_of v) (er : right ≡ right_of v) where
  op-at : op_at ns x.at ≡ op
  op-at = ap operation_of x.node ∙ sym eo

  left-at : left_at ns x.at ≡ left
  left-at = ap left_of x.node ∙ sym el

  right-at : right_at ns x.at ≡ right
  right-at = ap right_of x.node ∙ sym er

  pub scope-one : first_empty ≤ op → op < first_counted → (a : ℕ) → ((s : Term) → Holds ns left s → has a u ≡ names_in σ s u) → has a u ≡ test_names σ p u
  scope-one l m a ih = test-one ns σ x.at u p x.holds (omega (arith, op-at)) (omega (arith, op-at)) a (λ s y. ih s (rw left-at at y))

  pub scope-two : (first_empty ≤ op → first_counted ≤ op) → u < 64 → (a b r : ℕ) → ((s : Term) → Holds ns left s → has a u ≡ names_in σ s u)
      → ((s : Term) → Holds ns right s → has b u ≡ names_in σ s u) → r ≡ join_of a b → has r u ≡ test_names σ p u
  scope-two h l a b r ih jh e =
      ap (λ (w : ℕ). has w u) e
      ∙ test-two ns σ x.at u p x.holds (λ m. omega (arith, op-at, h (omega (arith, op-at)))) l a b (λ s y. ih s (rw left-at at y)) (λ s y. jh s (rw right-at at y))

module _ {ns : List ℕ} {n first second : ℕ} (σ : Choices) (u : ℕ) where
  pub clause-one : (q : Clause) → ClauseNodes ns n first second q → second ≡ 0 → (a : ℕ)
      → ((p : Test) → TestNode ns n first p → has a u ≡ test_names σ p u) → has a u ≡ clause_names σ q u
  unfolding ClauseNodes clause_names
  clause-one (plain p) x z a ih = ih p x.0
  clause-one (when p q) x z a ih = absurd (no_test (rw z at x.1))

  pub clause-two : (q : Clause) → ClauseNodes ns n first second q → (second ≡ 0 → ⊥) → u < 64 → (a b r : ℕ)
      → ((p : Test) → TestNode ns n first p → has a u ≡ test_names σ p u) → ((p : Test) → TestNode ns n second p → has b u ≡ test_names σ p u)
      → r ≡ join_of a b → has r u ≡ clause_names σ q u
  unfolding ClauseNodes clause_names
  clause-two (plain p) x z l a b r ih jh e = absurd (z x.1)
  clause-two (when p q) x z l a b r ih jh e = ap (λ (w : ℕ). has w u) e ∙ has_join a b u l ∙ ap₂ (λ (y z : Bool). y || z) (ih p x.0) (jh q x.1)
