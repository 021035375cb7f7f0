-- `protocol::value` gives `hex_value`: each arm is one range of bytes.
-- Assumes nothing.
use native.Mathlib.Omega.{arith}
use Rattle.protocol.proofs.HexLaws.{decimal-digit, letter-digit, below-digits, between-digits, above-digits}
use Rattle.protocol.proofs.value.Goals as goal

pub returns-in-48-to-57 : goal.returns-in-48-to-57
returns-in-48-to-57 c = let e = decimal-digit c.args.c (omega arith) (omega arith) in (omega (arith, e), omega (arith, e))

pub returns-in-97-to-102 : goal.returns-in-97-to-102
returns-in-97-to-102 c = let e = letter-digit c.args.c (omega arith) (omega arith) in (omega (arith, e), omega (arith, e))

pub returns-in_default : goal.returns-in_default
returns-in_default c = omega (arith, below-digits c.args.c (omega arith))

pub returns-in_default-2 : goal.returns-in_default-2
returns-in_default-2 c = omega (arith, between-digits c.args.c (omega arith) (omega arith))

pub returns-in_default-3 : goal.returns-in_default-3
returns-in_default-3 c = omega (arith, above-digits c.args.c (omega arith))
