-- `write_formula`: the quantifiers, the colon and the rule.
-- Assumes nothing.
use native.Mathlib.Omega.{arith}
use Rattle.std.proofs.Common.{rules}
use Rattle.printer.proofs.PrintsLaws.{appends-front}
use Rattle.printer.proofs.RulePrintsLaws.{quantified-none, quantified-more, appends-formula}
use Rattle.printer.proofs.rules.write_formula.Goals as goal

pub loop-d-init : goal.loop-d-init
loop-d-init c = quantified-none _

pub loop-d-preserved : goal.loop-d-preserved
loop-d-preserved c = quantified-more c.loop-d-test.true c.loop-d.invariant c.quantifier.ensures

pub returns : goal.returns
returns c =
    rw c.end.ensures
    (appends-front c.new-sheet.ensures.bytes c.new-sheet.ensures.end (search rules)
    (appends-formula _ (omega (arith, c.loop-d-test.false)) c.loop-d.invariant c.put.ensures c.clauses.ensures))
