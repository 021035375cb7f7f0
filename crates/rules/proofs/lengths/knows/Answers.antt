-- `rules::lengths::knows` seeks the argument of an OE or AO alone; others are measured alike.
-- Assumes nothing.
use native.Mathlib.Omega.{arith}
use Rattle.rules.proofs.LengthLaws.{knowing-choice, knowing-none}
use Rattle.rules.proofs.VariableLaws.{placed}
use Rattle.rules.proofs.lengths.knows.Goals as goal

pub returns-then-op-lt-OE : goal.returns-then-op-lt-OE
returns-then-op-lt-OE c = knowing-none c.requires (λ h. grind (arith, c.then-op-lt-OE.either))

pub returns : goal.returns
returns c = knowing-choice c.requires (placed c.seek.ensures)
