-- `read_test` reads a test.
-- Assumes nothing.
use native.Mathlib.Omega.{arith}
use Rattle.syntax.proofs.ArenaLaws.{stays-refl}
use Rattle.syntax.proofs.NameLaws.{hit, miss}
use Rattle.syntax.proofs.ReadingLaws.{agree-from, ready_at}
use Rattle.syntax.proofs.TestLaws.{test-sized, test-related}
use Rattle.syntax.proofs.tests.read_test.Goals as goal

pub read_sized-requires : goal.read_sized-requires
read_sized-requires c =
    let h = hit c.stands.ensures c.if-stands.true c.requires.within in
    ready_at c.requires (omega arith) h.fits

pub returns-then-stands : goal.returns-then-stands
returns-then-stands c =
    λ σ w.
    let h = hit c.stands.ensures c.if-stands.true c.requires.within in
    rw (test-sized σ c.args.s.now c.args.at h) (agree-from (stays-refl _) (omega arith) (c.read_sized.ensures σ w))

pub returns : goal.returns
returns c =
    λ σ w. rw (test-related σ c.args.s.now c.args.at (miss c.stands.ensures c.if-stands.false)) (c.read_related.ensures σ w)
