-- `walks::after` meets its contract. The loop's invariant: the answer from i on is the answer.
-- Assumes nothing.
use mathlib.Core.Path.{◌≡◌}
use lib.ListN.{drop}
use Rattle.walks.specs.Order.{is_after, named_by}
use Rattle.walks.proofs.after.Given as goal

abbrev pub invariant-loop-i : goal.invariant-loop-i
invariant-loop-i l = is_after (named_by l.names) (drop l.i l.order) ≡ is_after (named_by l.names) l.order
