-- `sheet_line`: what the crate below said, as the tracker's number; no line has more than 96 bytes.
-- Assumes nothing.
use Rattle.rcl2000.proofs.CallLaws.{call_fits, call-seen}
use Rattle.rcl2000.proofs.ReaderLaws.{line-short}
use Rattle.rcl2000.proofs.sheet_line.Goals as goal

pub number-requires : goal.number-requires
number-requires c = call_fits c.line.ensures (line-short _ _ _ _)

pub returns : goal.returns
returns c = call-seen c.line.ensures c.number.ensures
