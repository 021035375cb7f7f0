-- `lend` meets its contract: what does not fit is 17, what fits is copied to the front.
-- Assumes nothing.
use mathlib.Core.Path.{refl}
use Rattle.answers.proofs.AnswerLaws.{kept-short, lent_written}
use Rattle.answers.proofs.lend.Goals as goal

pub returns-then-out-text : goal.returns-then-out-text
returns-then-out-text c = kept-short _ _ c.if-out-text.true

pub returns : goal.returns
returns c = lent_written _ _ c.if-out-text.false (rw c.copy_from_slice.ensures.after refl)
