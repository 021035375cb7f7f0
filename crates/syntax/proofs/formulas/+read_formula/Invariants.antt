-- `read_formula` reads quantifiers and the rule behind them. The measure is the number of quantifiers that it may read.
-- Assumes nothing.
use Prim.Native.Nat.{◌-◌}
use Rattle.syntax.proofs.formulas.+read_formula.Given as goal

abbrev pub decreases-read_formula : goal.decreases-read_formula
decreases-read_formula l = 9 - l.k
