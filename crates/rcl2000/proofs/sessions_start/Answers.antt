-- `sessions_start`: what the crate below said, as the tracker's number; a state has at most 4,262 bytes.
-- Assumes nothing.
use Rattle.rcl2000.proofs.CallLaws.{call_fits, call-seen}
use Rattle.rcl2000.proofs.SessionLaws.{start-short}
use Rattle.rcl2000.proofs.sessions_start.Goals as goal

pub number-requires : goal.number-requires
number-requires c = call_fits c.start.ensures (start-short _ _)

pub returns : goal.returns
returns c = call-seen c.start.ensures c.number.ensures
