-- `tables::twins::apart`: each word passed is new, and its slot is taken.
-- Assumes nothing.
use mathlib.Core.Path.{refl, ◌∙◌}
use native.Mathlib.Omega.{arith}
use lib.ListN.{length}
use Rattle.tables.specs.Checks.{apart}
use Rattle.tables.specs.Code.Reads.{new_at}
use Rattle.tables.proofs.AllLaws.{passed_none, passed-more, passed-not, passed-all}
use Rattle.tables.proofs.TwinLaws.{slots-none, slots-more, slot-free, new-before}
use Rattle.tables.proofs.twins.apart.Goals as goal
use Rattle.tables.proofs.twins.apart.Goals.{else-taken-s-ne0-via-then-taken-s-ne0+else-not-is_new, else-taken-s-ne0-via-else-taken-s-ne0}

pub loop-i-init : goal.loop-i-init
loop-i-init c = (passed_none (length c.args.words.now) (new_at c.args.words.now), slots-none c.args.words.now)

pub returns-then-not-is_new : goal.returns-then-not-is_new
unfolding apart new_at
returns-then-not-is_new c =
    passed-not c.loop-i.invariant.0 c.loop-i-test.true (c.is_new.ensures ∙ new-before c.args.words.now c.loop-i.i (omega arith)) c.if-not-is_new.true

pub loop-i-preserved : goal.loop-i-preserved
loop-i-preserved c =
    let rest = slots-more c.loop-i.invariant.1 c.slot-s.ensures in
    elim c.else-taken-s-ne0.branch [
      | else-taken-s-ne0-via-then-taken-s-ne0+else-not-is_new w ↦
          (passed-more c.loop-i.invariant.0 c.loop-i-test.true (w.is_new.ensures ∙ new-before c.args.words.now c.loop-i.i (omega arith)) w.if-not-is_new.false, rest)
      | else-taken-s-ne0-via-else-taken-s-ne0 w ↦
          (passed-more c.loop-i.invariant.0 c.loop-i-test.true (slot-free c.loop-i.invariant.1 c.slot-s.ensures (omega (arith, w.if-taken-s-ne0.false))) refl, rest)
    ]

pub returns : goal.returns
unfolding apart new_at
returns c = passed-all c.loop-i.invariant.0 (omega arith)
