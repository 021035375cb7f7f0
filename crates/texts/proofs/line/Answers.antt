-- `texts::line` finds line k: it starts where `seek` says, if any byte is left there, and runs to the next byte 10.
-- Assumes nothing.
use native.Mathlib.Omega.{arith}
use Rattle.texts.proofs.SpansLaws.{at-nowhere, at-start, line-found, no_line}
use Rattle.texts.proofs.line.Goals as goal

pub returns-in_err-from : goal.returns-in_err-from
returns-in_err-from c = rw c.from_residual.ensures (at-nowhere c.in_err-from.ensures _ (omega arith))

pub returns-then-from-s : goal.returns-then-from-s
returns-then-from-s c = no_line (at-start c.in_ok-from.ensures) c.if-from-s.true

pub returns : goal.returns
returns c = line-found (at-start c.in_ok-from.ensures) c.line_end.ensures c.if-from-s.false
