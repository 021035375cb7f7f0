-- `test`: its left, its sign and its right. The operation of its node is that of no test below 21 and from 38 on.
-- Assumes nothing.
use native.Mathlib.Omega.{arith}
use Rattle.printer.proofs.PrintsLaws.{appends-never, appends-add, appends-then}
use Rattle.printer.proofs.RuleTextLaws.{test-range}
use Rattle.printer.proofs.RulePrintsLaws.{appends-test}
use Rattle.printer.proofs.nodes.Tree.test.Goals as goal

pub returns-then-op-lt-WHEN : goal.returns-then-op-lt-WHEN
returns-then-op-lt-WHEN c =
    appends-test c.requires c.op-op.ensures (appends-then (appends-add c.test_left.ensures c.sign.ensures) c.test_right.ensures)

pub returns-else-op-ge-MEMBER : goal.returns-else-op-ge-MEMBER
returns-else-op-ge-MEMBER c =
    appends-never _ (λ p x. let z = test-range _ _ p x in omega (arith, z.0, z.1, c.op-op.ensures, c.else-op-ge-MEMBER.either))
