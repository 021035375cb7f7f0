-- `judging::planning::clauses` meets its contract. The invariant: the first i are filled in, and the others stand from node `at` on.
-- Assumes nothing.
use mathlib.Core.Path.{sym, ◌∙◌}
use native.Mathlib.Omega.{arith}
use Rattle.values.proofs.NodeLaws.{left_in, right-below₂}
use Rattle.judging.proofs.PlanningLaws.{filled_more, rest-also, rest-last, clause-made}
use Rattle.judging.proofs.planning.clauses.Goals as goal

pub clause-requires : goal.clause-requires
clause-requires c =
    (c.requires.0, omega (arith, left_in c.requires.0 c.loop-plan.invariant.0 (omega (arith, c.operation.ensures, c.loop-plan-test.true)), c.left.ensures))

pub loop-plan-smaller : goal.loop-plan-smaller
loop-plan-smaller c =
    omega (arith, right-below₂ c.requires.0 c.loop-plan.invariant.0 (omega (arith, c.operation.ensures, c.loop-plan-test.true)), c.right-at.ensures)

pub loop-plan-preserved : goal.loop-plan-preserved
loop-plan-preserved c =
    let o = sym c.operation.ensures ∙ c.loop-plan-test.true in
    let less = right-below₂ c.requires.0 c.loop-plan.invariant.0 (omega (arith, c.operation.ensures, c.loop-plan-test.true)) in (
      omega (arith, less, c.right-at.ensures, c.loop-plan.invariant.0),
      omega (arith, less, c.right-at.ensures, c.loop-plan.invariant.1),
      filled_more c.loop-plan.invariant.2 (omega (arith, c.loop-plan.invariant.1, c.requires.1, c.requires.2, c.requires.3)) _
          (clause-made c.clause.ensures (λ ρ x. rw c.left.ensures (rest-also c.args.nodes.now ρ c.loop-plan.i c.loop-plan.at (c.loop-plan.invariant.3 ρ x) o).0)),
      λ ρ x. rw c.right-at.ensures (rest-also c.args.nodes.now ρ c.loop-plan.i c.loop-plan.at (c.loop-plan.invariant.3 ρ x) o).1,
    )

pub returns : goal.returns
returns c =
    record {
      filled = filled_more c.loop-plan.invariant.2 (omega (arith, c.loop-plan.invariant.1, c.requires.1, c.requires.2, c.requires.3)) _
          (clause-made c.clause-2.ensures (λ ρ x. (rest-last c.args.nodes.now ρ c.loop-plan.i c.loop-plan.at (c.loop-plan.invariant.3 ρ x) (λ e. c.loop-plan-test.false (c.operation.ensures ∙ e))).0));
      small = omega (arith, c.loop-plan.invariant.1, c.requires.1, c.requires.2);
      many = λ ρ x. sym (rest-last c.args.nodes.now ρ c.loop-plan.i c.loop-plan.at (c.loop-plan.invariant.3 ρ x) (λ e. c.loop-plan-test.false (c.operation.ensures ∙ e))).1;
    }
