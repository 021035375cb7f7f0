-- `tables::twins::is_new`: what is noted of the words passed.
-- Assumes nothing.
use mathlib.Core.Bool.{not}
use lib.Dec.{eqb}
use lib.ListN.{length, get_or}
use Rattle.tables.proofs.AllLaws.{Noted}
use Rattle.tables.proofs.twins.is_new.Given as goal

abbrev pub invariant-loop-w : goal.invariant-loop-w
invariant-loop-w l = Noted (length l.words) (λ j. not (eqb (get_or l.words j 0) l.word)) l.w-index l.twin
