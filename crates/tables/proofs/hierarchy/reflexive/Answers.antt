-- `tables::hierarchy::reflexive` meets its contract: all roles dominate themselves.
-- Assumes nothing.
use Rattle.std.proofs.Common.{rules}
use Rattle.tables.specs.Checks.{reflexive}
use Rattle.tables.proofs.AllLaws.{all-is}
use Rattle.tables.proofs.hierarchy.reflexive.Goals as goal

pub returns : goal.returns
unfolding reflexive
returns c = all-is _ _ (search rules)
