-- `words::item` meets its contract: a one shifted to place i, which fits where i is below 64.
-- Assumes nothing.
use mathlib.Core.Path.{sym}
use native.Mathlib.Omega.{arith}
use lib.Pow.{shl_exact}
use lib.Dec.{lit<}
use Rattle.words.proofs.WordsLaws.{item-pow, item-none}
use Rattle.words.proofs.item.Goals as goal

pub returns-then-i-lt64 : goal.returns-then-i-lt64
returns-then-i-lt64 c = omega (arith, shl_exact {a = 1} 1 c.args.i 64 (lit< tt) (omega arith), item-pow c.args.i c.if-i-lt64.true)

pub returns-else-i-lt64 : goal.returns-else-i-lt64
returns-else-i-lt64 c = sym (item-none c.args.i c.if-i-lt64.false)
