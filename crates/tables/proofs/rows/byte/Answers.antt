-- `tables::rows::byte` reads the byte at its place, and refuses where the bytes end.
-- Assumes nothing.
use mathlib.Core.Path.{sym}
use native.Mathlib.Omega.{arith}
use Rattle.tables.specs.Code.Reads.{stops, takes}
use Rattle.tables.proofs.ReadLaws.{byte-took, byte_cut}
use Rattle.tables.proofs.rows.byte.Goals as goal

pub returns-then-at-bytes : goal.returns-then-at-bytes
returns-then-at-bytes c =
    takes (byte-took c.args.bytes.now c.args.at c.if-at-bytes.true) (omega arith) (sym c.from.ensures)

pub returns : goal.returns
returns c =
    stops (byte_cut c.args.bytes.now c.args.at c.if-at-bytes.false)
