-- `tables::checks::in_reach` meets its contract: all sessions are in reach.
-- Assumes nothing.
use Rattle.std.proofs.Common.{rules}
use Rattle.tables.specs.Code.Reads.{reaching}
use Rattle.tables.proofs.AllLaws.{all-is}
use Rattle.tables.proofs.checks.in_reach.Goals as goal

pub returns : goal.returns
unfolding reaching
returns c = all-is _ _ (search rules)
