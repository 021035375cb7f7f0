-- `words::all` meets its contract: 2 ^ n - 1 has the first n bits.
-- Assumes nothing.
use native.Mathlib.Omega.{arith}
use lib.Pow.{shl_exact}
use lib.Dec.{lit<}
use Rattle.words.proofs.WordsLaws.{all_ones, all-full}
use Rattle.words.proofs.all.Goals as goal

pub returns-then-n-lt64 : goal.returns-then-n-lt64
returns-then-n-lt64 c = omega (arith, shl_exact {a = 1} 1 c.args.n 64 (lit< tt) (omega arith), all_ones c.args.n (omega arith))

pub returns-else-n-lt64 : goal.returns-else-n-lt64
returns-else-n-lt64 c = omega (arith, all-full c.args.n c.if-n-lt64.false)
