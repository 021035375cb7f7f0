-- `clauses` calls itself on the right index of its node, which stands below it.
-- Assumes nothing.
use native.Mathlib.Omega.{arith}
use Rattle.syntax.proofs.ArenaLaws.{two-high}
use Rattle.printer.proofs.PrintsLaws.{appends-then, appends-add, ready-left, ready-right}
use Rattle.printer.proofs.RulePrintsLaws.{appends-last, appends-also}
use Rattle.printer.proofs.nodes.Tree.+clauses.Goals as goal

pub returns-then-op-ne-ALSO : goal.returns-then-op-ne-ALSO
returns-then-op-ne-ALSO t c = appends-last c.requires c.op.ensures c.if-op-ne-ALSO.true c.clause.ensures

pub clause-requires-2 : goal.clause-requires-2
clause-requires-2 t c = (ready-left c.requires c.left.ensures (omega (arith, c.op.ensures, c.if-op-ne-ALSO.false))).0

pub clauses-requires : goal.clauses-requires
clauses-requires t c =
    let z = ready-right c.requires c.right.ensures (two-high _ (omega (arith, c.op.ensures, c.if-op-ne-ALSO.false))) in
    (omega (arith, z.1), z.0)

pub returns : goal.returns
returns t c =
    appends-also c.requires c.op.ensures c.left.ensures c.right.ensures c.if-op-ne-ALSO.false
    (appends-then (appends-add c.clause-2.ensures c.put.ensures) c.clauses.ensures)
