-- `session_close`: what the crate below said, as the tracker's number; a state has at most 4,262 bytes.
-- Assumes nothing.
use Rattle.rcl2000.proofs.CallLaws.{call_fits, call-seen}
use Rattle.rcl2000.proofs.SessionLaws.{step-short}
use Rattle.rcl2000.proofs.session_close.Goals as goal

pub number-requires : goal.number-requires
number-requires c = call_fits c.step.ensures (step-short _ _)

pub returns : goal.returns
returns c = call-seen c.step.ensures c.number.ensures
