-- One node holds one test, one clause, one rule.
-- Assumes nothing.
use mathlib.Core.Path.{◌≡◌, refl, sym, ap, ap₂, ◌∙◌}
use mathlib.Core.List.{List, [], ◌∷◌}
use Prim.Native.Nat.{ℕ, ◌<◌}
use native.Mathlib.Omega.{arith}
use lib.ListN.{get_or}
use Rattle.syntax.specs.Term.{Term}
use Rattle.syntax.specs.Rule.{Cmp, lt, le, gt, ge, eq, ne, Sign, is, isnt, number, count, Test, member, alike, empty, sized, Clause, plain, when, Rule, last, also}
use Rattle.syntax.specs.Code.Arena.{alike_op, empty_op, cmp_number, Both, Holds, HoldsTest, HoldsClause, HoldsRule}
use Rattle.syntax.specs.Code.Nodes.{also_op, op_at, op_room}
use Rattle.syntax.proofs.ArenaLaws.{one-parts, numbered-parts, both-parts, holds-one}
use Rattle.syntax.proofs.TestLaws.{cmp-small}
use Rattle.values.proofs.TruthLaws.{alike-range, empty-range, op_of_test, test-op, test-range}

-- Each number is that of one sign, one comparison.
alike-one : (g h : Sign) → alike_op g ≡ alike_op h → g ≡ h
unfolding alike_op
alike-one is is e = refl
alike-one is isnt e = absurd (omega arith)
alike-one isnt is e = absurd (omega arith)
alike-one isnt isnt e = refl

empty-one : (g h : Sign) → empty_op g ≡ empty_op h → g ≡ h
unfolding empty_op
empty-one is is e = refl
empty-one is isnt e = absurd (omega arith)
empty-one isnt is e = absurd (omega arith)
empty-one isnt isnt e = refl

cmp-back : (c : Cmp) → get_or (lt ∷ le ∷ gt ∷ ge ∷ eq ∷ ne ∷ []) (cmp_number c) lt ≡ c
unfolding cmp_number
cmp-back lt = refl
cmp-back le = refl
cmp-back gt = refl
cmp-back ge = refl
cmp-back eq = refl
cmp-back ne = refl

cmp-one : (c d : Cmp) → cmp_number c ≡ cmp_number d → c ≡ d
cmp-one c d e = cc (cmp-back c, cmp-back d)

held_one : (ns : List ℕ) (i j : ℕ) (t u : Term) → i ≡ j → Holds ns i t → Holds ns j u → t ≡ u
held_one ns i j t u e x y = let h : Holds ns j t = rw e at x in holds-one ns j t u h y

both_one : {ns : List ℕ} {k o p i j i' j' : ℕ} (a b c d : Term) → Both ns k o i j → Both ns k p i' j' → o < op_room → p < op_room
    → Holds ns i a → Holds ns j b → Holds ns i' c → Holds ns j' d → (a ≡ c) × (b ≡ d)
both_one {ns} {i = i} {j = j} {i' = i'} {j' = j'} a b c d x y ho hp ha hb hc hd =
    let f = both-parts x ho in
    let g = both-parts y hp in
    (held_one ns i i' a c (sym f.left ∙ g.left) ha hc, held_one ns j j' b d (sym f.right ∙ g.right) hb hd)

ops : (ns : List ℕ) (k : ℕ) (p q : Test) → HoldsTest ns k p → HoldsTest ns k q → op_of_test p ≡ op_of_test q
ops ns k p q x y = sym (test-op ns k p x) ∙ test-op ns k q y

-- A node holds one test,
test-one : (ns : List ℕ) (k : ℕ) (p q : Test) → HoldsTest ns k p → HoldsTest ns k q → p ≡ q
unfolding HoldsTest op_of_test
test-one ns k (member a b) (member c d) x y =
    let e = both_one a b c d x.2 y.2 (omega arith) (omega arith) x.3 x.4 y.3 y.4 in
    ap₂ member e.0 e.1
test-one ns k (member a b) (alike h c d) x y = absurd (omega (arith, ops ns k (member a b) (alike h c d) x y, (alike-range h).least, (alike-range h).most))
test-one ns k (member a b) (empty h c) x y = absurd (omega (arith, ops ns k (member a b) (empty h c) x y, (empty-range h).least, (empty-range h).most))
test-one ns k (member a b) (sized h c (number n)) x y = absurd (omega (arith, ops ns k (member a b) (sized h c (number n)) x y, cmp-small h))
test-one ns k (member a b) (sized h c (count d)) x y = absurd (omega (arith, ops ns k (member a b) (sized h c (count d)) x y, cmp-small h))
test-one ns k (alike g a b) (member c d) x y = absurd (omega (arith, ops ns k (alike g a b) (member c d) x y, (alike-range g).least, (alike-range g).most))
test-one ns k (alike g a b) (alike h c d) x y =
    let e = both_one a b c d x.2 y.2 (omega (arith, (alike-range g).most)) (omega (arith, (alike-range h).most)) x.3 x.4 y.3 y.4 in
    cc (alike-one g h (ops ns k (alike g a b) (alike h c d) x y), e.0, e.1)
test-one ns k (alike g a b) (empty h c) x y = absurd (omega (arith, ops ns k (alike g a b) (empty h c) x y, (alike-range g).least, (alike-range g).most, (empty-range h).least, (empty-range h).most))
test-one ns k (alike g a b) (sized h c (number n)) x y = absurd (omega (arith, ops ns k (alike g a b) (sized h c (number n)) x y, (alike-range g).least, (alike-range g).most, cmp-small h))
test-one ns k (alike g a b) (sized h c (count d)) x y = absurd (omega (arith, ops ns k (alike g a b) (sized h c (count d)) x y, (alike-range g).least, (alike-range g).most, cmp-small h))
test-one ns k (empty g a) (member c d) x y = absurd (omega (arith, ops ns k (empty g a) (member c d) x y, (empty-range g).least, (empty-range g).most))
test-one ns k (empty g a) (alike h c d) x y = absurd (omega (arith, ops ns k (empty g a) (alike h c d) x y, (empty-range g).least, (empty-range g).most, (alike-range h).least, (alike-range h).most))
test-one ns k (empty g a) (empty h c) x y =
    let f = one-parts x.1 (omega (arith, (empty-range g).most)) in
    let f' = one-parts y.1 (omega (arith, (empty-range h).most)) in
    ap₂ empty (empty-one g h (ops ns k (empty g a) (empty h c) x y)) (held_one ns x.0 y.0 a c (sym f.left ∙ f'.left) x.2 y.2)
test-one ns k (empty g a) (sized h c (number n)) x y = absurd (omega (arith, ops ns k (empty g a) (sized h c (number n)) x y, (empty-range g).least, (empty-range g).most, cmp-small h))
test-one ns k (empty g a) (sized h c (count d)) x y = absurd (omega (arith, ops ns k (empty g a) (sized h c (count d)) x y, (empty-range g).least, (empty-range g).most, cmp-small h))
test-one ns k (sized g a (number m)) (member c d) x y = absurd (omega (arith, ops ns k (sized g a (number m)) (member c d) x y, cmp-small g))
test-one ns k (sized g a (number m)) (alike h c d) x y = absurd (omega (arith, ops ns k (sized g a (number m)) (alike h c d) x y, cmp-small g, (alike-range h).least, (alike-range h).most))
test-one ns k (sized g a (number m)) (empty h c) x y = absurd (omega (arith, ops ns k (sized g a (number m)) (empty h c) x y, cmp-small g, (empty-range h).least, (empty-range h).most))
test-one ns k (sized g a (number m)) (sized h c (number n)) x y =
    let f = numbered-parts x.1 (omega (arith, cmp-small g)) in
    let f' = numbered-parts y.1 (omega (arith, cmp-small h)) in
    let same : m ≡ n = sym f.right ∙ f'.right in
    cc (cmp-one g h (omega (arith, ops ns k (sized g a (number m)) (sized h c (number n)) x y)), held_one ns x.0 y.0 a c (sym f.left ∙ f'.left) x.2 y.2)
test-one ns k (sized g a (number m)) (sized h c (count d)) x y = absurd (omega (arith, ops ns k (sized g a (number m)) (sized h c (count d)) x y, cmp-small g, cmp-small h))
test-one ns k (sized g a (count b)) (member c d) x y = absurd (omega (arith, ops ns k (sized g a (count b)) (member c d) x y, cmp-small g))
test-one ns k (sized g a (count b)) (alike h c d) x y = absurd (omega (arith, ops ns k (sized g a (count b)) (alike h c d) x y, cmp-small g, (alike-range h).least, (alike-range h).most))
test-one ns k (sized g a (count b)) (empty h c) x y = absurd (omega (arith, ops ns k (sized g a (count b)) (empty h c) x y, cmp-small g, (empty-range h).least, (empty-range h).most))
test-one ns k (sized g a (count b)) (sized h c (number n)) x y = absurd (omega (arith, ops ns k (sized g a (count b)) (sized h c (number n)) x y, cmp-small g, cmp-small h))
test-one ns k (sized g a (count b)) (sized h c (count d)) x y =
    let e = both_one a b c d x.2 y.2 (omega (arith, cmp-small g)) (omega (arith, cmp-small h)) x.3 x.4 y.3 y.4 in
    cc (cmp-one g h (omega (arith, ops ns k (sized g a (count b)) (sized h c (count d)) x y)), e.0, e.1)

-- one clause,
clause-one : (ns : List ℕ) (k : ℕ) (c d : Clause) → HoldsClause ns k c → HoldsClause ns k d → c ≡ d
unfolding HoldsClause
clause-one ns k (plain p) (plain q) x y = ap plain (test-one ns k p q x y)
clause-one ns k (plain p) (when q r) x y = absurd (omega (arith, (test-range ns k p x).most, (both-parts y.2 (omega arith)).op))
clause-one ns k (when p r) (plain q) x y = absurd (omega (arith, (test-range ns k q y).most, (both-parts x.2 (omega arith)).op))
clause-one ns k (when p r) (when q s) x y =
    let f = both-parts x.2 (omega arith) in
    let g = both-parts y.2 (omega arith) in
    let h : HoldsTest ns y.0 p = rw (sym f.left ∙ g.left) at x.3 in
    let h' : HoldsTest ns y.1 r = rw (sym f.right ∙ g.right) at x.4 in
    ap₂ when (test-one ns y.0 p q h y.3) (test-one ns y.1 r s h' y.4)

clause-op : (ns : List ℕ) (k : ℕ) (c : Clause) → HoldsClause ns k c → op_at ns k < also_op
unfolding HoldsClause
clause-op ns k (plain p) x = omega (arith, (test-range ns k p x).most)
clause-op ns k (when p r) x = omega (arith, (both-parts x.2 (omega arith)).op)

-- one rule.
pub held-rule : (ns : List ℕ) (k : ℕ) (ρ κ : Rule) → HoldsRule ns k ρ → HoldsRule ns k κ → ρ ≡ κ
unfolding HoldsRule
held-rule ns k (last c) (last d) x y = ap last (clause-one ns k c d x y)
held-rule ns k (last c) (also d κ) x y = absurd (omega (arith, clause-op ns k c x, (both-parts y.2 (omega arith)).op))
held-rule ns k (also c ρ) (last d) x y = absurd (omega (arith, clause-op ns k d y, (both-parts x.2 (omega arith)).op))
held-rule ns k (also c ρ) (also d κ) x y =
    let f = both-parts x.2 (omega arith) in
    let g = both-parts y.2 (omega arith) in
    let h : HoldsClause ns y.0 c = rw (sym f.left ∙ g.left) at x.3 in
    let h' : HoldsRule ns y.1 ρ = rw (sym f.right ∙ g.right) at x.4 in
    ap₂ also (clause-one ns y.0 c d h y.3) (held-rule ns y.1 ρ κ h' y.4)
