-- `walks::kept::byte` meets its contract.
-- Assumes nothing.
use mathlib.Core.Path.{sym}
use Rattle.walks.proofs.BytesLaws.{byte_at}
use Rattle.walks.proofs.kept.byte.Goals as goal

pub returns : goal.returns
returns c = sym (byte_at 8 c.args.choice c.args.v c.requires)
