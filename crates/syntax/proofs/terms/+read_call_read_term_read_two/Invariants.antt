-- The reader of terms meets its contract: each way out is one law of ReadingLaws. The measure is twice the number of bytes left, and one more in brackets.
-- Assumes nothing.
use Prim.Native.Nat.{◌+◌, ◌-◌, ◌*◌}
use lib.ListN.{length}
use Rattle.syntax.proofs.terms.+read_call_read_term_read_two.Given as goal

abbrev pub decreases-read_call : goal.decreases-read_call
decreases-read_call l = 2 * (length l.s.now - l.at) + 1

abbrev pub decreases-read_term : goal.decreases-read_term
decreases-read_term l = 2 * (length l.s.now - l.at)

abbrev pub decreases-read_two : goal.decreases-read_two
decreases-read_two l = 2 * (length l.s.now - l.at) + 1
