-- `rules::depth::too_deep`: the surplus is that of the bytes read, and passed 32 nowhere before.
-- Assumes nothing.
use Rattle.rules.specs.Code.Surplus.{Read}
use Rattle.rules.proofs.depth.too_deep.Given as goal

abbrev pub invariant-loop-b : goal.invariant-loop-b
invariant-loop-b l = Read l.s l.b-index l.surplus
