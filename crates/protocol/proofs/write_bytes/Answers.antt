-- `protocol::write_bytes` writes `field_of`: `-` for no bytes, else their digits.
-- Assumes nothing.
use Rattle.protocol.proofs.HexLaws.{dash-written, hex-written}
use Rattle.protocol.proofs.write_bytes.Goals as goal

pub returns-then-b-eq0 : goal.returns-then-b-eq0
returns-then-b-eq0 c = dash-written _ _ c.if-b-eq0.true c.requires

pub returns : goal.returns
returns c = hex-written _ c.if-b-eq0.false c.write_pairs.ensures
