-- `clauses` calls itself on the right index of its node, which stands below it.
-- Assumes nothing.
use Rattle.printer.proofs.nodes.Tree.+clauses.Given as goal

abbrev pub decreases-clauses : goal.decreases-clauses
decreases-clauses l = l.k
