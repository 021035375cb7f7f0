-- `rules::check_tree`: the checks 14 and 15, one after the other.
-- Assumes nothing.
use native.Mathlib.Omega.{arith}
use Rattle.rules.proofs.WalkLaws.{walked_all}
use Rattle.rules.proofs.ParseLaws.{check-tree-mismatch, check-tree-choices, check-tree-fit}
use Rattle.rules.proofs.check_tree.Goals as goal

pub returns-then-not-kinds : goal.returns-then-not-kinds
returns-then-not-kinds c =
    check-tree-mismatch c.kinds.ensures c.requires.root_lt_n c.if-not-kinds.true

pub returns-then-count-gt-CHOICES_LIMIT : goal.returns-then-count-gt-CHOICES_LIMIT
returns-then-count-gt-CHOICES_LIMIT c =
    check-tree-choices c.kinds.ensures c.requires.root_lt_n c.if-not-kinds.false (walked_all c.requires.vars_len c.walk-count.ensures) (omega (arith, c.if-count-gt-CHOICES_LIMIT.true))

pub returns : goal.returns
returns c =
    check-tree-fit c.kinds.ensures c.requires.root_lt_n c.if-not-kinds.false (walked_all c.requires.vars_len c.walk-count.ensures) (omega (arith, c.if-count-gt-CHOICES_LIMIT.false))
