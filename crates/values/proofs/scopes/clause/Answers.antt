-- `values::scopes::clause` meets its contract.
-- Assumes nothing.
use mathlib.Core.Path.{◌≡◌}
use Prim.Native.Nat.{◌<◌}
use native.Mathlib.Omega.{arith}
use Rattle.values.specs.Code.Plan.{second_in}
use Rattle.values.proofs.ScopeLaws.{clause-one, clause-two}
use Rattle.values.proofs.scopes.clause.Goals as goal

pub returns-in-None : goal.returns-in-None
returns-in-None c = λ ns n vs N low low₂ σ w q x u l.
    let none : second_in c.args.word ≡ 0 = rw c.in-None.is at c.of-first.ensures.1 in
    let a = rw c.of-first.ensures.0 at c.test-a.ensures in
    clause-one σ u q x none c.test-a.result (λ p y. a ns n vs N low σ w p y u l)

pub returns-in-Some : goal.returns-in-Some
returns-in-Some c = λ ns n vs N low low₂ σ w q x u l.
    let second : (c.in-Some.second ≡ second_in c.args.word) × (0 < c.in-Some.second) = rw c.in-Some.is at c.of-first.ensures.1 in
    let a = rw c.of-first.ensures.0 at c.test-a.ensures in
    let b = rw second.0 at c.test.ensures in
    clause-two σ u q x (λ z. omega (arith, second.0, second.1)) l c.test-a.result c.test.result c.join.result (λ p y. a ns n vs N low σ w p y u l) (λ p y. b ns n vs N low₂ σ w p y u l) c.join.ensures
