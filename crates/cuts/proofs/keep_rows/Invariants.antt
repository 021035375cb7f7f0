-- `cuts::keep_rows`: of the first i users the rows are kept.
-- Assumes nothing.
use Rattle.cuts.proofs.KeepLaws.{Rows}
use Rattle.cuts.proofs.keep_rows.Given as goal

abbrev pub invariant-loop-i : goal.invariant-loop-i
invariant-loop-i l = Rows l.reader l.rows l.kept l.i
