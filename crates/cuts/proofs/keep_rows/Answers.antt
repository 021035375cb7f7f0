-- `cuts::keep_rows`: of the first i users the rows are kept.
-- Assumes nothing.
use native.Mathlib.Omega.{arith}
use Rattle.cuts.proofs.KeepLaws.{rows_none, rows_in, rows_out}
use Rattle.cuts.proofs.keep_rows.Goals as goal
use Rattle.cuts.proofs.keep_rows.Goals.{then-contains, else-contains}

pub loop-i-init : goal.loop-i-init
loop-i-init c = rows_none _ _ c.requires.kept_value

pub loop-i-preserved : goal.loop-i-preserved
loop-i-preserved c =
    elim c.if-contains.branch [
      | then-contains w ↦ rows_in c.requires.rows_len_bound c.loop-i.invariant (omega arith) c.contains.ensures w.if-contains.true w.kept-is
      | else-contains w ↦ rows_out c.requires.rows_len_bound c.loop-i.invariant (omega arith) c.contains.ensures w.if-contains.false w.kept-is
    ]
