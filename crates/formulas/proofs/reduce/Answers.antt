-- `reduce`: the refusal that was found; 17 where the formula's length, which is measured first, has no room; or the formula.
-- Assumes nothing.
use Rattle.answers.proofs.AnswerLaws.{exit-refused}
use Rattle.formulas.proofs.ReduceLaws.{reduce-rejected, reduce-short, reduce-made}
use Rattle.formulas.proofs.reduce.Goals as goal

pub returns-then-out-l : goal.returns-then-out-l
returns-then-out-l c =
    reduce-short c.find.ensures c.in_ok-n.was c.formula_length-l.ensures c.if-out-l.true

pub returns-in_err-n : goal.returns-in_err-n
returns-in_err-n c =
    rw (exit-refused c.from_residual.ensures.1) (reduce-rejected _ _ c.find.ensures c.in_err-n.was)

pub returns : goal.returns
returns c =
    reduce-made c.find.ensures c.in_ok-n.was c.formula_length-l.ensures c.if-out-l.false c.write_formula.ensures
