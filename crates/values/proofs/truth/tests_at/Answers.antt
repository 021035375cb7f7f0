-- `values::truth::tests_at` meets its contract.
-- Assumes nothing.
use mathlib.Core.Path.{sym, ◌∙◌}
use native.Mathlib.Omega.{arith}
use Rattle.values.proofs.NodeLaws.{left_in, right-in₂}
use Rattle.values.proofs.TruthLaws.{tests-one, tests-two}
use Rattle.values.proofs.truth.tests_at.Goals as goal

pub returns-then-operation-ne-WHEN : goal.returns-then-operation-ne-WHEN
returns-then-operation-ne-WHEN c = tests-one c.requires.0 c.args.k c.requires.1 (λ e. c.if-operation-ne-WHEN.true (c.operation.ensures ∙ e))

pub bounds-nodes-left : goal.bounds-nodes-left
bounds-nodes-left c =
    omega (arith, left_in c.requires.0 c.requires.1 (omega (arith, c.operation.ensures, c.if-operation-ne-WHEN.false)), c.left-left.ensures, c.requires.0.fits)

pub bounds-nodes-right : goal.bounds-nodes-right
bounds-nodes-right c =
    omega (arith, right-in₂ c.requires.0 c.requires.1 (omega (arith, c.operation.ensures, c.if-operation-ne-WHEN.false)), c.right-right.ensures, c.requires.0.fits)

pub returns : goal.returns
returns c =
    tests-two c.requires.0 c.args.k c.left-left.result c.right-right.result c.requires.1 (sym c.operation.ensures ∙ c.if-operation-ne-WHEN.false) c.left-left.ensures c.right-right.ensures
    (omega (arith, left_in c.requires.0 c.requires.1 (omega (arith, c.operation.ensures, c.if-operation-ne-WHEN.false)), c.left-left.ensures))
    (omega (arith, right-in₂ c.requires.0 c.requires.1 (omega (arith, c.operation.ensures, c.if-operation-ne-WHEN.false)), c.right-right.ensures))
