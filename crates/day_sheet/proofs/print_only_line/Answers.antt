-- `day_sheet::print_only_line` is safe: the line lies within the lent bytes.
-- Assumes nothing.
use mathlib.Core.Path.{sym}
use lib.Seq.{length-take-le}
use Rattle.answers.proofs.AnswerLaws.{lent-within}
use Rattle.day_sheet.proofs.print_only_line.Goals as goal

pub slice_bounds-line-end-2 : goal.slice_bounds-line-end-2
slice_bounds-line-end-2 c = lent-within _ c.line.ensures c.in-Ok.is

pub slice_bounds-print_line-end : goal.slice_bounds-print_line-end
slice_bounds-print_line-end c = sym (length-take-le _ _ (lent-within _ c.line.ensures c.in-Ok.is))
