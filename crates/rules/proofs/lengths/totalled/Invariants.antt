-- `rules::lengths::totalled` adds the quantifiers to the rule one by one.
-- Assumes nothing.
use Rattle.rules.proofs.FormulaLengthLaws.{Totalled}
use Rattle.rules.proofs.lengths.totalled.Given as goal

abbrev pub invariant-loop-v : goal.invariant-loop-v
invariant-loop-v l = Totalled l.lens l.vars l.root l.v-index l.total
