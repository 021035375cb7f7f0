-- `join_clauses` joins from the last clause on: the rule of the clauses from k on is at a node.
-- Assumes nothing.
use mathlib.Core.Path.{refl}
use native.Mathlib.Omega.{arith}
use Rattle.syntax.proofs.ClauseLaws.{join-start, join-next, join-end}
use Rattle.syntax.proofs.tests.join_clauses.Goals as goal

pub loop-k-init : goal.loop-k-init
loop-k-init c = (join-start c.requires, refl)

pub loop-k-preserved : goal.loop-k-preserved
loop-k-preserved c =
    (join-next c.requires c.loop-k.invariant.0 (omega arith) c.intern-p.ensures.interned, c.intern-p.ensures.behind)

pub returns : goal.returns
returns c = record { rule = join-end c.requires c.loop-k.invariant.0 (omega arith); behind = c.loop-k.invariant.1 }
