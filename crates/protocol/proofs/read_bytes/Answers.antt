-- `protocol::read_bytes` writes the bytes of `bytes_of`: an empty field, `-`, another single byte, pairs.
-- Assumes nothing.
use Rattle.protocol.proofs.HexLaws.{empty-field, dash-field, short-field, long-field}
use Rattle.protocol.proofs.read_bytes.Goals as goal

pub returns-then-field-eq0 : goal.returns-then-field-eq0
returns-then-field-eq0 c = empty-field _ _ _ c.if-field-eq0.true

pub returns-then-field-eq45 : goal.returns-then-field-eq45
returns-then-field-eq45 c = dash-field _ _ c.if-field-eq1.true c.if-field-eq45.true

pub returns-then-field-eq1 : goal.returns-then-field-eq1
returns-then-field-eq1 c = short-field _ _ _ c.if-field-eq1.true c.if-field-eq45.false

pub returns : goal.returns
returns c = long-field _ c.if-field-eq0.false c.if-field-eq1.false c.read_pairs.ensures
