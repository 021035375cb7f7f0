-- `tables::rows::word_within` refuses a word with a bit at or above its count.
-- Assumes nothing.
use Prim.Native.Nat.{◌+◌}
use mathlib.Core.Path.{refl}
use lib.ListN.{take, drop}
use Rattle.tables.specs.Code.Reads.{stops, takes}
use Rattle.tables.proofs.ReadLaws.{within-over, within-took}
use Rattle.tables.proofs.rows.word_within.Goals as goal

pub returns-then-outside : goal.returns-then-outside
returns-then-outside c =
    stops (within-over c.args.n (take 8 (drop c.args.at c.args.bytes.now)) (drop (c.args.at + 8) c.args.bytes.now) c.word-w.ensures c.outside.ensures c.if-outside.true)

pub returns : goal.returns
returns c =
    takes (within-took c.args.n (take 8 (drop c.args.at c.args.bytes.now)) (drop (c.args.at + 8) c.args.bytes.now) c.word-w.ensures c.outside.ensures c.if-outside.false) c.requires.at_in_bounds refl
