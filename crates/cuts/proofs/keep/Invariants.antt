-- `cuts::keep`: of the words passed those of the reader's users are kept, and the others are left.
-- Assumes nothing.
use lib.ListN.{length}
use Rattle.cuts.proofs.KeepLaws.{KeepingTo}
use Rattle.cuts.proofs.keep.Given as goal

abbrev pub invariant-loop-user : goal.invariant-loop-user
invariant-loop-user l = KeepingTo l.reader l.users l.column l.kept l.n (length l.yielded) l.user-iterator.a.rest.now l.user-iterator.b.rest.now
