-- `walks::kept::spread` meets its contract. The invariant: the mask has the bytes of the variables below u.
-- Assumes nothing.
use Rattle.walks.specs.Code.Kept.{MasksTo}
use Rattle.walks.proofs.kept.spread.Given as goal

abbrev pub invariant-loop-u : goal.invariant-loop-u
invariant-loop-u l = MasksTo l.u l.word l.mask
