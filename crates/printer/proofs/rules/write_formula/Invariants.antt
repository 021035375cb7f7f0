-- `write_formula` has written the quantifiers of the choices so far.
-- Assumes nothing.
use Rattle.printer.proofs.RulePrintsLaws.{Quantified}
use Rattle.printer.proofs.rules.write_formula.Given as goal

abbrev pub invariant-loop-d : goal.invariant-loop-d
invariant-loop-d l = Quantified l.nodes l.vars l.d l.initial.sheet l.sheet
