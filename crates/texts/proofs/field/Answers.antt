-- `texts::field` finds field k: it starts where `seek` says and runs to the next blank.
-- Assumes nothing.
use native.Mathlib.Omega.{arith}
use Rattle.texts.proofs.SpansLaws.{sought, at-nowhere, at-start, field_found}
use Rattle.texts.proofs.field.Goals as goal

pub returns-in_err-from : goal.returns-in_err-from
returns-in_err-from c = rw c.from_residual.ensures (at-nowhere c.in_err-from.ensures _ (omega arith))

pub returns : goal.returns
returns c = let b = at-start c.in_ok-from.ensures in field_found b (sought b.within c.find.ensures.is c.find.ensures.within)
