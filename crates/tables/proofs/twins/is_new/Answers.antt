-- `tables::twins::is_new`: what is noted of the words passed.
-- Assumes nothing.
use mathlib.Core.Path.{ap}
use mathlib.Core.Bool.{not}
use lib.ListN.{length}
use native.Mathlib.Omega.{arith}
use borrow.Author.Tests.{eq-eqb, ne_eqb}
use Rattle.tables.proofs.AllLaws.{noted-none, noted_more, noted-not, noted-all}
use Rattle.tables.proofs.twins.is_new.Goals as goal
use Rattle.tables.proofs.twins.is_new.Goals.{then-w-word, else-w-word}

pub loop-w-init : goal.loop-w-init
loop-w-init c = noted-none (length c.args.words.now) _

pub loop-w-preserved : goal.loop-w-preserved
loop-w-preserved c =
    elim c.if-w-word.branch [
      | then-w-word w ↦ noted-not c.loop-w.invariant (omega arith) (ap not (eq-eqb _ _ w.if-w-word.true)) w.twin-is
      | else-w-word w ↦ noted_more c.loop-w.invariant (omega arith) (ap not (ne_eqb _ _ w.if-w-word.false)) w.twin-is
    ]

pub returns : goal.returns
returns c = noted-all c.loop-w.invariant (omega arith)
