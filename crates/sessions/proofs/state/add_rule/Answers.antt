-- `sessions::state::add_rule`: two bytes, and the rule.
-- Assumes nothing.
use mathlib.Core.Path.{◌∙◌}
use lib.ListN.{length}
use Rattle.verdicts.proofs.SheetLaws.{low-bytes}
use Rattle.sessions.proofs.LayLaws.{add-then}
use Rattle.sessions.proofs.state.add_rule.Goals as goal

pub returns : goal.returns
returns c = add-then (rw (c.to_le_bytes.ensures ∙ low-bytes 2 (length c.args.rule.now)) at c.add-a.ensures) c.add.ensures
