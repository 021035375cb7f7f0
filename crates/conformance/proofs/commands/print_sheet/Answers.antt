-- `conformance::commands::print_sheet` is safe: the line lies within the lent bytes.
-- Assumes nothing.
use mathlib.Core.Path.{sym}
use lib.Seq.{length-take-le}
use Rattle.answers.proofs.AnswerLaws.{lent-within}
use Rattle.conformance.proofs.commands.print_sheet.Goals as goal

pub slice_bounds-line-end-in-Ok : goal.slice_bounds-line-end-in-Ok
slice_bounds-line-end-in-Ok c = lent-within _ c.line.ensures c.in-Ok.is

pub slice_bounds-print_bytes-end : goal.slice_bounds-print_bytes-end
slice_bounds-print_bytes-end c = sym (length-take-le _ _ (lent-within _ c.line.ensures c.in-Ok.is))
