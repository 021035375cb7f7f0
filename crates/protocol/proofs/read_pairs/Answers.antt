-- `protocol::read_pairs` writes the bytes of `pairs`. The invariant: the digits passed gave the n bytes written.
-- Assumes nothing.
use native.Mathlib.Omega.{arith}
use Rattle.protocol.proofs.HexLaws.{paired-next, no-high, no-low, odd-one, all-pairs}
use Rattle.protocol.proofs.read_pairs.Goals as goal

pub loop-n-preserved : goal.loop-n-preserved
loop-n-preserved c = paired-next c.loop-n.invariant (omega arith) c.in_ok-high.ensures c.in_ok-low.ensures (omega (arith, c.requires)) (omega arith)

pub returns-in_err-high : goal.returns-in_err-high
returns-in_err-high c = rw c.from_residual.ensures (no-high c.loop-n.invariant (omega arith) c.in_err-high.ensures)

pub returns-in_err-low : goal.returns-in_err-low
returns-in_err-low c = rw c.from_residual-in_err-low.ensures (no-low c.loop-n.invariant (omega arith) c.in_ok-high.ensures.1 c.in_err-low.ensures)

pub returns-then-count-field : goal.returns-then-count-field
returns-then-count-field c = odd-one c.loop-n.invariant (omega arith) (omega arith)

pub returns : goal.returns
returns c = all-pairs c.loop-n.invariant (omega arith) (omega arith)
