-- `test_right`: by the operation of its node.
-- Assumes nothing.
use native.Mathlib.Omega.{arith}
use Rattle.syntax.proofs.ArenaLaws.{two-low, two-high}
use Rattle.printer.proofs.PrintsLaws.{ready-right}
use Rattle.printer.proofs.RulePrintsLaws.{appends-right, appends-right-empty, appends-right-number, appends-right-count}
use Rattle.printer.proofs.nodes.Tree.test_right.Goals as goal

pub term-requires : goal.term-requires
term-requires c = (ready-right c.requires.ready c.right-m.ensures (two-low _ (omega (arith, c.requires)) (omega (arith, c.op-op.ensures, c.if-op-lt-IS_EMPTY.true)))).0

pub count-requires : goal.count-requires
count-requires c = (ready-right c.requires.ready c.right-m.ensures (two-high _ (omega (arith, c.op-op.ensures, c.if-op-lt-FIRST_COUNTED.false)))).0

pub returns-then-op-lt-IS_EMPTY : goal.returns-then-op-lt-IS_EMPTY
returns-then-op-lt-IS_EMPTY c = appends-right c.requires.ready c.op-op.ensures c.right-m.ensures c.if-op-lt-IS_EMPTY.true c.term.ensures

pub returns-then-op-lt-FIRST_NUMBERED : goal.returns-then-op-lt-FIRST_NUMBERED
returns-then-op-lt-FIRST_NUMBERED c =
    appends-right-empty c.requires.ready c.op-op.ensures c.if-op-lt-IS_EMPTY.false c.if-op-lt-FIRST_NUMBERED.true c.put.ensures

pub returns-then-op-lt-FIRST_COUNTED : goal.returns-then-op-lt-FIRST_COUNTED
returns-then-op-lt-FIRST_COUNTED c =
    appends-right-number c.requires.ready c.op-op.ensures c.right-m.ensures c.if-op-lt-FIRST_NUMBERED.false c.if-op-lt-FIRST_COUNTED.true c.number.ensures

pub returns-else-op-lt-FIRST_COUNTED : goal.returns-else-op-lt-FIRST_COUNTED
returns-else-op-lt-FIRST_COUNTED c =
    appends-right-count c.requires.ready c.op-op.ensures c.right-m.ensures c.if-op-lt-FIRST_COUNTED.false c.count.ensures
