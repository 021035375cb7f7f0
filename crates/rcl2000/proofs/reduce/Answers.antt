-- `reduce`: what the crate below said, as the tracker's number; no formula passes 4,096 bytes.
-- Assumes nothing.
use Rattle.rcl2000.proofs.CallLaws.{call_fits, call-seen}
use Rattle.rcl2000.proofs.FormulaLaws.{reduced-short}
use Rattle.rcl2000.proofs.reduce.Goals as goal

pub number-requires : goal.number-requires
number-requires c = call_fits c.reduce.ensures (reduced-short _)

pub returns : goal.returns
returns c = call-seen c.reduce.ensures c.number.ensures
