-- `rules::depth::too_deep`: the surplus is that of the bytes read, and passed 32 nowhere before.
-- Assumes nothing.
use native.Mathlib.Omega.{arith}
use lib.ListN.{get_or}
use mir.Syntax.{w32}
use mir.Val.{to_z}
use Rattle.rules.proofs.SurplusLaws.{read-mag, read-end, read-over, read_next, stepped-back}
use Rattle.rules.proofs.depth.too_deep.Goals as goal

pub returns-then-surplus-gt-DEPTH_LIMIT : goal.returns-then-surplus-gt-DEPTH_LIMIT
returns-then-surplus-gt-DEPTH_LIMIT c =
    read-over c.loop-b.invariant (omega arith) (stepped-back (get_or c.args.s.now c.loop-b.b-index 0) (to_z w32 c.loop-b.surplus-bits) (omega (arith, read-mag c.loop-b.invariant, c.requires)) c.surplus_after-surplus.ensures) c.if-surplus-gt-DEPTH_LIMIT.true

pub loop-b-preserved : goal.loop-b-preserved
loop-b-preserved c =
    read_next c.loop-b.invariant (omega arith) (stepped-back (get_or c.args.s.now c.loop-b.b-index 0) (to_z w32 c.loop-b.surplus-bits) (omega (arith, read-mag c.loop-b.invariant, c.requires)) c.surplus_after-surplus.ensures) c.if-surplus-gt-DEPTH_LIMIT.false

pub returns : goal.returns
returns c = read-end c.loop-b.invariant (omega arith)
