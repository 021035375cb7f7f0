-- `test_left`: a term, or its count.
-- Assumes nothing.
use native.Mathlib.Omega.{arith}
use Rattle.printer.proofs.PrintsLaws.{ready-left}
use Rattle.printer.proofs.RulePrintsLaws.{appends-left, appends-left-count}
use Rattle.printer.proofs.nodes.Tree.test_left.Goals as goal

pub term-requires : goal.term-requires
term-requires c = (ready-left c.requires.ready c.left-i.ensures (omega (arith, c.requires))).0

pub count-requires : goal.count-requires
count-requires c = (ready-left c.requires.ready c.left-i.ensures (omega (arith, c.requires))).0

pub returns-then-op-lt-FIRST_NUMBERED : goal.returns-then-op-lt-FIRST_NUMBERED
returns-then-op-lt-FIRST_NUMBERED c =
    appends-left c.requires.ready c.op.ensures c.left-i.ensures c.if-op-lt-FIRST_NUMBERED.true c.term.ensures

pub returns-else-op-lt-FIRST_NUMBERED : goal.returns-else-op-lt-FIRST_NUMBERED
returns-else-op-lt-FIRST_NUMBERED c =
    appends-left-count c.requires.ready c.op.ensures c.left-i.ensures c.if-op-lt-FIRST_NUMBERED.false c.count.ensures
