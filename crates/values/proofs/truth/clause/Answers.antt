-- `values::truth::clause` meets its contract.
-- Assumes nothing.
use mathlib.Core.Path.{◌≡◌, ap, ◌∙◌}
use mathlib.Core.Bool.{not}
use Prim.Native.Nat.{◌<◌}
use native.Mathlib.Omega.{arith}
use Rattle.values.specs.Code.Cache.{TestOf}
use Rattle.values.specs.Code.Plan.{first_in, second_in}
use Rattle.values.proofs.TruthLaws.{of_one, of_two}
use Rattle.values.proofs.truth.clause.Goals as goal

pub returns-in-None : goal.returns-in-None
returns-in-None c = λ ns n q x T σ d K.
    let none : second_in c.args.word ≡ 0 = rw c.in-None.is at c.of-first.ensures.1 in
    let a : TestOf (first_in c.args.word) c.args.cache.now c.test.result = rw c.of-first.ensures.0 at c.test.ensures in
    of_one T σ d c.args.cache.now q x none c.test.result (λ p y m. a ns n p y T σ d m) K

pub returns-then-not-test : goal.returns-then-not-test
returns-then-not-test c = λ ns n q x T σ d K.
    let second : (c.in-Some.second ≡ second_in c.args.word) × (0 < c.in-Some.second) = rw c.in-Some.is at c.of-first.ensures.1 in
    let a : TestOf (first_in c.args.word) c.args.cache.now c.test-in-Some.result = rw c.of-first.ensures.0 at c.test-in-Some.ensures in
    ap not c.if-not-test.true
    ∙ (of_two T σ d c.args.cache.now q x (λ z. omega (arith, second.0, second.1)) c.test-in-Some.result (λ p y m. a ns n p y T σ d m) K).1 c.if-not-test.true

pub returns-else-not-test : goal.returns-else-not-test
returns-else-not-test c = λ ns n q x T σ d K.
    let second : (c.in-Some.second ≡ second_in c.args.word) × (0 < c.in-Some.second) = rw c.in-Some.is at c.of-first.ensures.1 in
    let a : TestOf (first_in c.args.word) c.args.cache.now c.test-in-Some.result = rw c.of-first.ensures.0 at c.test-in-Some.ensures in
    let b : TestOf (second_in c.args.word) c.args.cache.now c.test-else-not-test.result = rw second.0 at c.test-else-not-test.ensures in
    (of_two T σ d c.args.cache.now q x (λ z. omega (arith, second.0, second.1)) c.test-in-Some.result (λ p y m. a ns n p y T σ d m) K).0 c.test-else-not-test.result c.if-not-test.false (λ p y m. b ns n p y T σ d m)
