-- `rules::lengths::extra_of` reads the table; no entry is above 14.
-- Assumes nothing.
use mathlib.Core.Path.{refl, sym}
use native.Mathlib.Omega.{arith}
use lib.ListN.{get_or-eq_default}
use Rattle.rules.specs.Code.Lengths.{extra, extra_table}
use Rattle.rules.proofs.LengthLaws.{extra-small}
use Rattle.rules.proofs.lengths.extra_of.Goals as goal

pub returns-then-op-lt-OPS_END : goal.returns-then-op-lt-OPS_END
unfolding extra extra_table
returns-then-op-lt-OPS_END c = (refl, extra-small c.args.op c.if-op-lt-OPS_END.true)

pub returns-else-op-lt-OPS_END : goal.returns-else-op-lt-OPS_END
unfolding extra extra_table
returns-else-op-lt-OPS_END c = (sym (get_or-eq_default extra_table 0 c.if-op-lt-OPS_END.false), omega arith)
