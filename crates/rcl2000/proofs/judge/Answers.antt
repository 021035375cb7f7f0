-- `judge`: what the crate below said, as the tracker's number; a verdict has 26 bytes.
-- Assumes nothing.
use Rattle.rcl2000.proofs.CallLaws.{call_fits, call-seen}
use Rattle.rcl2000.proofs.JudgeLaws.{judged-short}
use Rattle.rcl2000.proofs.judge.Goals as goal

pub number-requires : goal.number-requires
number-requires c = call_fits c.judge.ensures (judged-short _ _ _)

pub returns : goal.returns
returns c = call-seen c.judge.ensures c.number.ensures
