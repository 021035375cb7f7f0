-- `clause`: a test, or two with the arrow between them.
-- Assumes nothing.
use native.Mathlib.Omega.{arith}
use Rattle.syntax.proofs.ArenaLaws.{two-high}
use Rattle.printer.proofs.PrintsLaws.{appends-then, appends-add, ready-left, ready-right}
use Rattle.printer.proofs.RulePrintsLaws.{appends-plain, appends-when}
use Rattle.printer.proofs.nodes.Tree.clause.Goals as goal

pub returns-then-op-ne-WHEN : goal.returns-then-op-ne-WHEN
returns-then-op-ne-WHEN c = appends-plain c.requires c.op.ensures c.if-op-ne-WHEN.true c.test.ensures

pub test-requires-2 : goal.test-requires-2
test-requires-2 c = (ready-left c.requires c.left.ensures (omega (arith, c.op.ensures, c.if-op-ne-WHEN.false))).0

pub test-requires-3 : goal.test-requires-3
test-requires-3 c = (ready-right c.requires c.right.ensures (two-high _ (omega (arith, c.op.ensures, c.if-op-ne-WHEN.false)))).0

pub returns : goal.returns
returns c =
    appends-when c.requires c.op.ensures c.left.ensures c.right.ensures c.if-op-ne-WHEN.false
    (appends-then (appends-add c.test-2.ensures c.put.ensures) c.test-3.ensures)
