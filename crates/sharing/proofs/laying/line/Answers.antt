-- `sharing::laying::line` meets its contract. The invariant: the masks of the depths below d are laid.
-- Assumes nothing.
use Prim.Native.Nat.{ℕ, ◌<◌, ◌^◌}
use native.Mathlib.Omega.{arith}
use lib.ListN.{get_or}
use Rattle.judging.proofs.PlanningLaws.{filled_more}
use Rattle.sharing.proofs.LayingLaws.{mask-made, line_made}
use Rattle.sharing.proofs.laying.line.Goals as goal

pub loop-d-preserved : goal.loop-d-preserved
loop-d-preserved c =
    let d : ℕ = c.loop-d.d in
    let set : ℕ = get_or c.args.sets.now d 0 in
    let fit : set < 2 ^ 64 = omega (arith, c.type_inv.sets d) in
    filled_more c.loop-d.invariant (omega (arith, c.requires.2, c.requires.3, c.requires.5, c.loop-d-test.true)) c.spread.result
    (mask-made c.args.plan.now c.args.scopes.now set c.by_clauses-named.result c.join.result c.spread.result c.args.range.from c.args.range.to d fit c.by_clauses-named.ensures.0 c.join.ensures c.by_clauses-named.ensures.1 c.spread.ensures)

pub returns : goal.returns
returns c =
    line_made c.args.plan.now c.args.scopes.now c.args.sets.now c.args.range c.requires.3 c.requires.5 c.loop-d.invariant (omega (arith, c.requires.2, c.loop-d.auto)) (omega (arith, c.requires.2, c.loop-d-test.false))
