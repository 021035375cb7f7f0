-- `walks::kept::bytes` meets its contract.
-- Assumes nothing.
use mathlib.Core.Path.{◌∙◌}
use Rattle.walks.proofs.BytesLaws.{le-bytes}
use Rattle.walks.proofs.kept.bytes.Goals as goal

pub returns : goal.returns
returns c = c.to_le_bytes.ensures ∙ le-bytes c.args.choice
