-- `forecast`: what the crate below said, as the tracker's number; a forecast has 16 bytes.
-- Assumes nothing.
use Rattle.rcl2000.proofs.CallLaws.{call_fits, call-seen}
use Rattle.rcl2000.proofs.ForecastLaws.{forecast-short}
use Rattle.rcl2000.proofs.forecast.Goals as goal

pub number-requires : goal.number-requires
number-requires c = call_fits c.forecast.ensures (forecast-short _ _)

pub returns : goal.returns
returns c = call-seen c.forecast.ensures c.number.ensures
