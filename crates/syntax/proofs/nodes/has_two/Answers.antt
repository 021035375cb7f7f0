-- `has_two`: the pairs and tests of two terms, and all from the comparisons of two counts on, have two nodes below.
-- Assumes nothing.
use mathlib.Core.Path.{sym}
use borrow.Author.Tests.{le-leb, le-ltb}
use Rattle.syntax.specs.Code.Arena.{has_two}
use Rattle.syntax.specs.Code.Nodes.{first_pair, first_empty}
use Rattle.syntax.proofs.ArenaLaws.{two-less, two-low}
use Rattle.syntax.proofs.nodes.has_two.Goals as goal

pub returns-then-op-lt-FIRST_PAIR : goal.returns-then-op-lt-FIRST_PAIR
returns-then-op-lt-FIRST_PAIR c = sym (two-less c.args.op c.if-op-lt-FIRST_PAIR.true)

pub returns-then-op-lt-IS_EMPTY : goal.returns-then-op-lt-IS_EMPTY
returns-then-op-lt-IS_EMPTY c = sym (two-low c.args.op c.if-op-lt-FIRST_PAIR.false c.if-op-lt-IS_EMPTY.true)

pub returns : goal.returns
unfolding has_two
returns c = rw (le-leb first_pair c.args.op c.if-op-lt-FIRST_PAIR.false, le-ltb c.args.op first_empty c.if-op-lt-IS_EMPTY.false)
