-- `tables::hierarchy::transitive` meets its contract: all roles are closed.
-- Assumes nothing.
use Rattle.std.proofs.Common.{rules, ◌∙◌, length}
use Rattle.std.proofs.iter.runs.Sources.{ranges}
use Rattle.tables.specs.Code.Reads.{closed_at}
use Rattle.tables.proofs.AllLaws.{all-is}
use Rattle.tables.proofs.RankLaws.{transitive-rows}
use Rattle.tables.proofs.hierarchy.transitive.Goals as goal

pub returns : goal.returns
unfolding closed_at
returns c = λ below. all-is (length c.args.rows.now) (closed_at c.args.rows.now) (search (rules, ranges)) ∙ transitive-rows c.args.rows.now c.requires below
