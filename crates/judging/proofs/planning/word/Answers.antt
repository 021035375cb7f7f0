-- `judging::planning::word` meets its contract.
-- Assumes nothing.
use mathlib.Core.Path.{refl}
use native.Mathlib.Omega.{arith}
use lib.ListN.{get_or}
use Rattle.rules.proofs.VariableLaws.{placed}
use Rattle.values.proofs.NodeLaws.{left_in}
use Rattle.judging.proofs.PlanningLaws.{step-made}
use Rattle.judging.proofs.planning.word.Goals as goal

pub bounds-kinds-left : goal.bounds-kinds-left
bounds-kinds-left c =
    omega (arith, left_in c.requires.0.tidy c.requires.1 (omega (arith, c.operation.ensures, c.if-operation-lt-FIRST_CALL.false)), c.left-left.ensures, c.requires.0.kinded)

pub returns : goal.returns
returns c =
    step-made (get_or c.args.nodes.now c.args.k 0) (get_or c.args.kinds.now c.left-left.result 0) c.seek.result (get_or c.args.next.now c.args.k 0)
    (omega (arith, c.type_inv.nodes c.args.k)) (omega (arith, c.type_inv.kinds c.left-left.result)) (omega (arith, c.seek.ensures.within, c.requires.0.few))
    c.pack-2.result c.pack-2.ensures refl refl (λ l. rw c.left-left.ensures) (λ l. rw (← c.left-left.ensures) (placed c.seek.ensures))
