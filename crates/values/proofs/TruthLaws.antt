-- Whether a node's test or clause is true, by the number of its operation and what is below it.
-- Assumes nothing.
use mathlib.Core.Path.{◌≡◌, refl, sym, ap, ◌∙◌}
use mathlib.Core.Bool.{Bool, true, false, not, ◌&&◌, true≢false}
use mathlib.Core.List.{List}
use Prim.Native.Nat.{ℕ, ◌+◌, ◌-◌, ◌<◌, ◌≤◌}
use native.Mathlib.Omega.{arith}
use lib.Dec.{eqb, leb, ltb}
use borrow.Author.Tests.{lt-ltb, le-leb}
use lib.ListN.{get_or}
use Rattle.words.specs.Words.{meet_of, size_of}
use Rattle.tables.specs.Tables.{Tables}
use Rattle.syntax.specs.Term.{Term, Choices}
use Rattle.syntax.specs.Rule.{Cmp, lt, le, gt, ge, eq, ne, Sign, is, isnt, number, count, Test, member, alike, empty, sized}
use Rattle.syntax.specs.Rule.{Clause, plain, when}
use Rattle.syntax.specs.Code.Arena.{alike_op, empty_op, cmp_number, Holds, HoldsTest, HoldsClause, has_two, Low, Down, Tidy}
use Rattle.syntax.specs.Code.Nodes.{first_pair, member_op, first_alike, first_empty, first_numbered, first_counted, when_op, op_at, left_at, right_at, operation_of, left_of, right_of}
use Rattle.syntax.proofs.ArenaLaws.{one-parts, both-parts, holds-one, numbered-parts}
use Rattle.values.specs.Values.{value}
use Rattle.values.specs.Truth.{compared, signed, count_value, test_true, clause_true}
use Rattle.values.specs.Sets.{names_in}
use Rattle.values.specs.Code.Nodes.{cmp_at, related_at, empty_at}
use Rattle.values.specs.Code.Cache.{ValuedIn}
use Rattle.values.proofs.ReadsLaws.{or_left}
use Rattle.values.specs.Code.Clauses.{test_names, clause_names, TestNode, ClauseNodes, TestsAt}
use Rattle.syntax.proofs.TestLaws.{cmp-small}
use Rattle.words.proofs.LoopLaws.{or_right}

-- The numbers of the tests.
pub record Within (low o high : ℕ) : Type 0 where
  pub least : low ≤ o
  pub most : o < high

pub alike-range : (g : Sign) → Within first_alike (alike_op g) first_empty
unfolding alike_op
alike-range is = record { least = omega arith; most = omega arith }
alike-range isnt = record { least = omega arith; most = omega arith }

pub empty-range : (g : Sign) → Within first_empty (empty_op g) first_numbered
unfolding empty_op
empty-range is = record { least = omega arith; most = omega arith }
empty-range isnt = record { least = omega arith; most = omega arith }

cmp-at : (d : Cmp) → cmp_at (cmp_number d) ≡ d
unfolding cmp_at cmp_number
cmp-at lt = refl
cmp-at le = refl
cmp-at gt = refl
cmp-at ge = refl
cmp-at eq = refl
cmp-at ne = refl

member-at : (a b : ℕ) → related_at member_op a b ≡ not (eqb (meet_of a b) 0)
unfolding related_at
member-at a b = refl

alike_at : (g : Sign) (a b : ℕ) → related_at (alike_op g) a b ≡ signed g (eqb a b)
unfolding related_at alike_op signed
alike_at is a b = refl
alike_at isnt a b = refl

empty-at : (g : Sign) (a : ℕ) → empty_at (empty_op g) a ≡ signed g (eqb a 0)
unfolding empty_at empty_op signed
empty-at is a = refl
empty-at isnt a = refl

not-not : (b : Bool) → not (not b) ≡ b
not-not true = refl
not-not false = refl

unfoldable pub op_of_test : Test → ℕ
op_of_test (member a b) = member_op
op_of_test (alike g a b) = alike_op g
op_of_test (empty g a) = empty_op g
op_of_test (sized d a (number m)) = first_numbered + cmp_number d
op_of_test (sized d a (count b)) = first_counted + cmp_number d

pub test-op : (ns : List ℕ) (k : ℕ) (p : Test) → HoldsTest ns k p → op_at ns k ≡ op_of_test p
unfolding HoldsTest op_of_test
test-op ns k (member a b) x = (both-parts x.2 (omega arith)).op
test-op ns k (alike g a b) x = (both-parts x.2 (omega (arith, (alike-range g).most))).op
test-op ns k (empty g a) x = (one-parts x.1 (omega (arith, (empty-range g).most))).op
test-op ns k (sized d a (number m)) x = (numbered-parts x.1 (omega (arith, cmp-small d))).op
test-op ns k (sized d a (count b)) x = (both-parts x.2 (omega (arith, cmp-small d))).op

module _ (ns : List ℕ) (k : ℕ) where
  -- What a node's test is, by its number.
  pub test-range : (p : Test) → HoldsTest ns k p → Within member_op (op_at ns k) when_op
  unfolding op_of_test
  test-range (member a b) x = let e = test-op ns k (member a b) x in record { least = omega arith; most = omega arith }
  test-range (alike g a b) x =
      let e = test-op ns k (alike g a b) x in
      let r = alike-range g in
      record { least = omega arith; most = omega arith }
  test-range (empty g a) x =
      let e = test-op ns k (empty g a) x in
      let r = empty-range g in
      record { least = omega arith; most = omega arith }
  test-range (sized d a (number m)) x =
      let e = test-op ns k (sized d a (number m)) x in
      let r = cmp-small d in
      record { least = omega arith; most = omega arith }
  test-range (sized d a (count b)) x =
      let e = test-op ns k (sized d a (count b)) x in
      let r = cmp-small d in
      record { least = omega arith; most = omega arith }

  module _ (T : Tables) (σ : Choices) (c : List ℕ) where
    -- a and b are the values of the terms at its left and right.
    abbrev Left : ℕ → Type 0
    Left a = (s : Term) → Holds ns (left_at ns k) s → a ≡ value T σ c s

    abbrev Right : ℕ → Type 0
    Right b = (s : Term) → Holds ns (right_at ns k) s → b ≡ value T σ c s

    pub test-related : (p : Test) → HoldsTest ns k p → (a b : ℕ) (r : Bool) → op_at ns k < first_empty → Left a → Right b
        → r ≡ related_at (op_at ns k) a b → r ≡ test_true T σ c p
    unfolding HoldsTest op_of_test test_true
    test-related (member s u) x a b r h ih jh e =
        let q = both-parts x.2 (omega arith) in
        let f : a ≡ value T σ c s = ih s (rw q.left x.3) in
        let g : b ≡ value T σ c u = jh u (rw q.right x.4) in
        e ∙ rw (q.op, f, g) (member-at (value T σ c s) (value T σ c u))
    test-related (alike y s u) x a b r h ih jh e =
        let q = both-parts x.2 (omega (arith, (alike-range y).most)) in
        let f : a ≡ value T σ c s = ih s (rw q.left x.3) in
        let g : b ≡ value T σ c u = jh u (rw q.right x.4) in
        e ∙ rw (q.op, f, g) (alike_at y (value T σ c s) (value T σ c u))
    test-related (empty y s) x a b r h ih jh e = absurd (omega (arith, test-op ns k (empty y s) x, (empty-range y).least))
    test-related (sized d s (number m)) x a b r h ih jh e = absurd (omega (arith, test-op ns k (sized d s (number m)) x))
    test-related (sized d s (count u)) x a b r h ih jh e = absurd (omega (arith, test-op ns k (sized d s (count u)) x))

    pub test-empty : (p : Test) → HoldsTest ns k p → (a : ℕ) (r : Bool) → first_empty ≤ op_at ns k → op_at ns k < first_numbered → Left a
        → r ≡ empty_at (op_at ns k) a → r ≡ test_true T σ c p
    unfolding HoldsTest op_of_test test_true
    test-empty (member s u) x a r l h ih e = absurd (omega (arith, test-op ns k (member s u) x))
    test-empty (alike y s u) x a r l h ih e = absurd (omega (arith, test-op ns k (alike y s u) x, (alike-range y).most))
    test-empty (empty y s) x a r l h ih e =
        let q = one-parts x.1 (omega (arith, (empty-range y).most)) in
        let f : a ≡ value T σ c s = ih s (rw q.left x.2) in
        e ∙ rw (q.op, f) (empty-at y (value T σ c s))
    test-empty (sized d s (number m)) x a r l h ih e = absurd (omega (arith, test-op ns k (sized d s (number m)) x))
    test-empty (sized d s (count u)) x a r l h ih e = absurd (omega (arith, test-op ns k (sized d s (count u)) x))

    pub test-number : (p : Test) → HoldsTest ns k p → (a y : ℕ) (r : Bool) → first_numbered ≤ op_at ns k → op_at ns k < first_counted → Left a → y ≡ size_of a
        → r ≡ compared (cmp_at (op_at ns k - first_numbered)) y (right_at ns k) → r ≡ test_true T σ c p
    unfolding HoldsTest op_of_test test_true count_value
    test-number (member s u) x a y r l h ih f e = absurd (omega (arith, test-op ns k (member s u) x))
    test-number (alike z s u) x a y r l h ih f e = absurd (omega (arith, test-op ns k (alike z s u) x, (alike-range z).most))
    test-number (empty z s) x a y r l h ih f e = absurd (omega (arith, test-op ns k (empty z s) x, (empty-range z).most))
    test-number (sized d s (number m)) x a y r l h ih f e =
        let q = numbered-parts x.1 (omega (arith, cmp-small d)) in
        let v : y ≡ size_of (value T σ c s) = f ∙ ap size_of (ih s (rw q.left x.2)) in
        let o : op_at ns k - first_numbered ≡ cmp_number d = omega (arith, q.op) in
        e ∙ rw (o, cmp-at d, v, q.right)
    test-number (sized d s (count u)) x a y r l h ih f e = absurd (omega (arith, test-op ns k (sized d s (count u)) x))

    pub test-count : (p : Test) → HoldsTest ns k p → (a b y z : ℕ) (r : Bool) → first_counted ≤ op_at ns k → Left a → Right b → y ≡ size_of a → z ≡ size_of b
        → r ≡ compared (cmp_at (op_at ns k - first_counted)) y z → r ≡ test_true T σ c p
    unfolding HoldsTest op_of_test test_true count_value
    test-count (member s u) x a b y z r l ih jh f g e = absurd (omega (arith, test-op ns k (member s u) x))
    test-count (alike w s u) x a b y z r l ih jh f g e = absurd (omega (arith, test-op ns k (alike w s u) x, (alike-range w).most))
    test-count (empty w s) x a b y z r l ih jh f g e = absurd (omega (arith, test-op ns k (empty w s) x, (empty-range w).most))
    test-count (sized d s (number m)) x a b y z r l ih jh f g e = absurd (omega (arith, test-op ns k (sized d s (number m)) x, cmp-small d))
    test-count (sized d s (count u)) x a b y z r l ih jh f g e =
        let q = both-parts x.2 (omega (arith, cmp-small d)) in
        let v : y ≡ size_of (value T σ c s) = f ∙ ap size_of (ih s (rw q.left x.3)) in
        let w : z ≡ size_of (value T σ c u) = g ∙ ap size_of (jh u (rw q.right x.4)) in
        let o : op_at ns k - first_counted ≡ cmp_number d = omega (arith, q.op) in
        e ∙ rw (o, cmp-at d, v, w)

-- ---- a test by the number of its node, where the cache has the values of its terms

-- What stands below a node with two below it.
pub low-two : {v n : ℕ} → Low v n → first_pair ≤ operation_of v → operation_of v < first_empty → right_of v < n
unfolding has_two
low-two {v} {n} l h m = l.right (rw (le-leb first_pair (operation_of v) h, lt-ltb (operation_of v) first_empty m))

pub low-two₂ : {v n : ℕ} → Low v n → first_counted ≤ operation_of v → right_of v < n
unfolding has_two
low-two₂ {v} {n} l h =
    l.right (or_right (leb first_pair (operation_of v) && ltb (operation_of v) first_empty) (leb first_counted (operation_of v)) (le-leb first_counted (operation_of v) h))

-- A test names what its terms name: that at its left, and where it has two that at its right.
module _ (ns : List ℕ) (σ : Choices) (k : ℕ) where
  names-left : (p : Test) → HoldsTest ns k p → (b : Term) → Holds ns (left_at ns k) b → (u : ℕ) → names_in σ b u ≡ true → test_names σ p u ≡ true
  unfolding HoldsTest test_names
  names-left (member s t) x b y u e =
      let z : Holds ns (left_at ns k) s = rw (both-parts x.2 (omega arith)).left x.3 in
      or_left (names_in σ s u) (names_in σ t u) (rw (← holds-one ns (left_at ns k) b s y z) e)
  names-left (alike g s t) x b y u e =
      let z : Holds ns (left_at ns k) s = rw (both-parts x.2 (omega (arith, (alike-range g).most))).left x.3 in
      or_left (names_in σ s u) (names_in σ t u) (rw (← holds-one ns (left_at ns k) b s y z) e)
  names-left (empty g s) x b y u e =
      let z : Holds ns (left_at ns k) s = rw (one-parts x.1 (omega (arith, (empty-range g).most))).left x.2 in
      rw (← holds-one ns (left_at ns k) b s y z) e
  names-left (sized d s (number m)) x b y u e =
      let z : Holds ns (left_at ns k) s = rw (numbered-parts x.1 (omega (arith, cmp-small d))).left x.2 in
      rw (← holds-one ns (left_at ns k) b s y z) e
  names-left (sized d s (count t)) x b y u e =
      let z : Holds ns (left_at ns k) s = rw (both-parts x.2 (omega (arith, cmp-small d))).left x.3 in
      or_left (names_in σ s u) (names_in σ t u) (rw (← holds-one ns (left_at ns k) b s y z) e)

  names-right : (p : Test) → HoldsTest ns k p → (first_empty ≤ op_at ns k → first_counted ≤ op_at ns k) → (b : Term) → Holds ns (right_at ns k) b
      → (u : ℕ) → names_in σ b u ≡ true → test_names σ p u ≡ true
  unfolding HoldsTest test_names op_of_test
  names-right (member s t) x h b y u e =
      let z : Holds ns (right_at ns k) t = rw (both-parts x.2 (omega arith)).right x.4 in
      or_right (names_in σ s u) (names_in σ t u) (rw (← holds-one ns (right_at ns k) b t y z) e)
  names-right (alike g s t) x h b y u e =
      let z : Holds ns (right_at ns k) t = rw (both-parts x.2 (omega (arith, (alike-range g).most))).right x.4 in
      or_right (names_in σ s u) (names_in σ t u) (rw (← holds-one ns (right_at ns k) b t y z) e)
  names-right (empty g s) x h b y u e =
      let q = test-op ns k (empty g s) x in
      let r = empty-range g in
      absurd (omega (arith, h (omega arith)))
  names-right (sized d s (number m)) x h b y u e =
      let q = test-op ns k (sized d s (number m)) x in
      let r = cmp-small d in
      absurd (omega (arith, h (omega arith)))
  names-right (sized d s (count t)) x h b y u e =
      let z : Holds ns (right_at ns k) t = rw (both-parts x.2 (omega (arith, cmp-small d))).right x.4 in
      or_right (names_in σ s u) (names_in σ t u) (rw (← holds-one ns (right_at ns k) b t y z) e)

module _ {ns : List ℕ} {n v : ℕ} {p : Test} (x : TestNode ns n v p) (op left right : ℕ) (eo : op ≡ operation_of v) (el : left ≡ left_of v) (er : right ≡ right_of v) where
  pub op-is : op_at ns x.at ≡ op
  op-is = ap operation_of x.node ∙ sym eo

  pub of_range : Within member_op op when_op
  of_range = let r = test-range ns x.at p x.holds in record { least = omega (arith, op-is, r.least); most = omega (arith, op-is, r.most) }

  module _ (T : Tables) (σ : Choices) (c cache : List ℕ) (K : ValuedIn ns n cache T σ c (test_names σ p)) where
    left_is : left_at ns x.at ≡ left
    left_is = ap left_of x.node ∙ sym el

    right_is : right_at ns x.at ≡ right
    right_is = ap right_of x.node ∙ sym er

    left-value : (s : Term) → Holds ns (left_at ns x.at) s → get_or cache left 0 ≡ value T σ c s
    left-value s y =
        let r = of_range in
        K left (rw el (x.low.left (omega (arith, eo)))) s (rw left_is at y) (names-left ns σ x.at p x.holds s y)

    right-value : right < n → (first_empty ≤ op → first_counted ≤ op) → (s : Term) → Holds ns (right_at ns x.at) s → get_or cache right 0 ≡ value T σ c s
    right-value l h s y =
        K right l s (rw right_is at y) (names-right ns σ x.at p x.holds (λ m. omega (arith, op-is, h (omega (arith, op-is)))) s y)

    pub of-related : (r : Bool) → op < first_empty → r ≡ related_at op (get_or cache left 0) (get_or cache right 0) → r ≡ test_true T σ c p
    of-related r m e =
        let o = of_range in
        test-related ns x.at T σ c p x.holds (get_or cache left 0) (get_or cache right 0) r (omega (arith, op-is)) left-value
        (right-value (rw er (low-two x.low (omega (arith, eo)) (omega (arith, eo)))) (λ h. omega arith))
        (rw op-is e)

    pub of-empty : (r : Bool) → first_empty ≤ op → op < first_numbered → r ≡ empty_at op (get_or cache left 0) → r ≡ test_true T σ c p
    of-empty r l m e = test-empty ns x.at T σ c p x.holds (get_or cache left 0) r (omega (arith, op-is)) (omega (arith, op-is)) left-value (rw op-is e)

    pub of_number : (y : ℕ) (r : Bool) → first_numbered ≤ op → op < first_counted → y ≡ size_of (get_or cache left 0)
        → r ≡ compared (cmp_at (op - first_numbered)) y right → r ≡ test_true T σ c p
    of_number y r l m f e =
        test-number ns x.at T σ c p x.holds (get_or cache left 0) y r (omega (arith, op-is)) (omega (arith, op-is)) left-value f (rw (op-is, right_is) e)

    pub of-count : (y z : ℕ) (r : Bool) → first_counted ≤ op → y ≡ size_of (get_or cache left 0) → z ≡ size_of (get_or cache right 0)
        → r ≡ compared (cmp_at (op - first_counted)) y z → r ≡ test_true T σ c p
    of-count y z r l f g e =
        test-count ns x.at T σ c p x.holds (get_or cache left 0) (get_or cache right 0) y z r (omega (arith, op-is)) left-value
        (right-value (rw er (low-two₂ x.low (omega (arith, eo)))) (λ h. l)) f g (rw op-is e)

-- ---- a clause by the nodes of its tests

-- No test has the number 0.
pub no_test : {ns : List ℕ} {n : ℕ} {p : Test} → TestNode ns n 0 p → ⊥
no_test x = let r = of_range x 0 0 0 refl refl refl in omega (arith, r.least)

module _ {ns : List ℕ} {n first second : ℕ} (T : Tables) (σ : Choices) (c cache : List ℕ) where
  -- One test is the clause;
  pub of_one : (q : Clause) → ClauseNodes ns n first second q → second ≡ 0 → (r : Bool)
      → ((p : Test) → TestNode ns n first p → ValuedIn ns n cache T σ c (test_names σ p) → r ≡ test_true T σ c p)
      → ValuedIn ns n cache T σ c (clause_names σ q) → r ≡ clause_true T σ c q
  unfolding ClauseNodes clause_true clause_names
  of_one (plain p) x z r ih K = ih p x.0 K
  of_one (when p q) x z r ih K = absurd (no_test (rw z at x.1))

  -- of two, a is the first, and r the second where a is true.
  pub of_two : (q : Clause) → ClauseNodes ns n first second q → (second ≡ 0 → ⊥) → (a : Bool)
      → ((p : Test) → TestNode ns n first p → ValuedIn ns n cache T σ c (test_names σ p) → a ≡ test_true T σ c p)
      → ValuedIn ns n cache T σ c (clause_names σ q)
      → ((r : Bool) → a ≡ true → ((p : Test) → TestNode ns n second p → ValuedIn ns n cache T σ c (test_names σ p) → r ≡ test_true T σ c p) → r ≡ clause_true T σ c q)
      × (a ≡ false → true ≡ clause_true T σ c q)
  unfolding ClauseNodes clause_true clause_names
  of_two (plain p) x z a ih K = absurd (z x.1)
  of_two (when p q) x z a ih K =
      let f : a ≡ test_true T σ c p = ih p x.0 (λ i l s y h. K i l s y (λ u e. or_left (test_names σ p u) (test_names σ q u) (h u e))) in (
        λ r e jh.
            jh q x.1 (λ i l s y h. K i l s y (λ u e. or_right (test_names σ p u) (test_names σ q u) (h u e)))
            ∙ rw (← f, e) (sym (not-not (test_true T σ c q))),
        λ e. rw (← f, e),
      )

-- ---- the tests of the clause of a node

pub low-more : {v k n : ℕ} → Low v k → k ≤ n → Low v n
low-more l h = record { op = l.op; left = λ m. omega (arith, l.left m); right = λ m. omega (arith, l.right m) }

pub low-none : (n : ℕ) → Low 0 n
unfolding has_two
low-none n = record { op = omega arith; left = λ m. absurd (omega arith); right = λ m. absurd (true≢false (sym m)) }

module _ {ns : List ℕ} {n : ℕ} (d : Tidy ns n) where
  low-at : (k : ℕ) → k < n → Low (get_or ns k 0) n
  unfolding Down
  low-at k h = low-more (d.down k h) (omega arith)

  pub tests-one : (k : ℕ) → k < n → (op_at ns k ≡ when_op → ⊥) → TestsAt ns n k (get_or ns k 0) 0
  unfolding ClauseNodes HoldsClause
  tests-one k h o = record { low = low-at k h; low₂ = low-none n; tests = go }
    where
      go : (q : Clause) → HoldsClause ns k q → ClauseNodes ns n (get_or ns k 0) 0 q
      go (plain p) x = (record { at = k; node = refl; low = low-at k h; holds = x }, refl)
      go (when p q) x = absurd (o (both-parts x.2 (omega arith)).op)

  pub tests-two : (k i j : ℕ) → k < n → op_at ns k ≡ when_op → i ≡ left_at ns k → j ≡ right_at ns k → i < n → j < n → TestsAt ns n k (get_or ns i 0) (get_or ns j 0)
  unfolding ClauseNodes HoldsClause
  tests-two k i j h o el er li lj = record { low = low-at i li; low₂ = low-at j lj; tests = go }
    where
      go : (q : Clause) → HoldsClause ns k q → ClauseNodes ns n (get_or ns i 0) (get_or ns j 0) q
      go (plain p) x = absurd (omega (arith, (test-range ns k p x).most))
      go (when p q) x =
          let y = both-parts x.2 (omega arith) in (
            record { at = i; node = refl; low = low-at i li; holds = rw (el, y.left) x.3 },
            record { at = j; node = refl; low = low-at j lj; holds = rw (er, y.right) x.4 },
          )
