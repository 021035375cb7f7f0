-- `rebuild`: what the crate below said, as the tracker's number; no rule passes 256 bytes.
-- Assumes nothing.
use Rattle.rcl2000.proofs.CallLaws.{call_fits, call-seen}
use Rattle.rcl2000.proofs.FormulaLaws.{rebuilt-short}
use Rattle.rcl2000.proofs.rebuild.Goals as goal

pub number-requires : goal.number-requires
number-requires c = call_fits c.rebuild.ensures.answers (rebuilt-short c.rebuild.ensures.rebuilds)

pub returns : goal.returns
returns c =
    record { answer = c.rebuild.ensures.answer; rebuilds = c.rebuild.ensures.rebuilds; sees = call-seen c.rebuild.ensures.answers c.number.ensures }
