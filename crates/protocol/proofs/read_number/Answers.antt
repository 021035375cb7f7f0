-- `protocol::read_number` gives `value_of`. The invariant: the digits passed stand for n.
-- Assumes nothing.
use mathlib.Core.Path.{ap, sym}
use native.Mathlib.Omega.{arith}
use Rattle.protocol.specs.Code.Taken.{took}
use Rattle.protocol.proofs.NumbersLaws.{value-first, value_none, value-next, too-low, too-high, too_much, value-all}
use Rattle.protocol.proofs.read_number.Goals as goal
use Rattle.protocol.proofs.read_number.Goals.{then-c-lt48-via-then-c-lt48, then-c-lt48-via-else-c-lt48+then-c-gt57}

pub returns-then-field-eq0 : goal.returns-then-field-eq0
returns-then-field-eq0 c = (ap took (sym (value_none _ _ c.if-field-eq0.true)), tt)

pub loop-c-init : goal.loop-c-init
loop-c-init c = (omega arith, value-first _ _ c.if-field-eq0.false)

pub returns-then-c-lt48 : goal.returns-then-c-lt48
returns-then-c-lt48 c =
    elim c.then-c-lt48.branch [
      | then-c-lt48-via-then-c-lt48 w ↦ (ap took (sym (too-low c.loop-c.invariant.1 c.loop-c-test.true w.if-c-lt48.true)), tt)
      | then-c-lt48-via-else-c-lt48+then-c-gt57 w ↦ (ap took (sym (too-high c.loop-c.invariant.1 c.loop-c-test.true w.if-c-lt48.false w.if-c-gt57.true)), tt)
    ]

pub returns-then-most-more : goal.returns-then-most-more
returns-then-most-more c =
    (ap took (sym (too_much c.loop-c.invariant.1 _ c.loop-c-test.true c.if-c-lt48.false c.if-c-gt57.false (omega arith) c.if-most-more.true)), tt)

pub loop-c-preserved : goal.loop-c-preserved
loop-c-preserved c = (c.if-most-more.false, value-next c.loop-c.invariant.1 _ c.loop-c-test.true c.if-c-lt48.false c.if-c-gt57.false (omega arith) c.if-most-more.false)

pub returns : goal.returns
returns c = (ap took (sym (value-all c.loop-c.invariant.1 c.loop-c-test.false)), c.loop-c.invariant.0)
