-- `texts::digits` writes the digits of `digits_to`: none, one, or those of n / 10 and the last one. The measure is how many may be needed.
-- Assumes nothing.
use native.Mathlib.Omega.{arith}
use Rattle.texts.proofs.DecimalLaws.{digits-none, digits-one, digits_more, digits-room}
use Rattle.texts.proofs.OverwrittenLaws.{written-length}
use Rattle.texts.proofs.+digits.Goals as goal

pub returns-then-left-eq0 : goal.returns-then-left-eq0
returns-then-left-eq0 t c = digits-none _ _ _ c.if-left-eq0.true

pub returns-then-n-lt10 : goal.returns-then-n-lt10
returns-then-n-lt10 t c = rw c.digit.ensures (digits-one _ _ _ c.if-left-eq0.false c.if-n-lt10.true c.requires)

pub bounds-out-k : goal.bounds-out-k
bounds-out-k t c =
    let w = c.digits-k.ensures in omega (arith, c.requires, c.if-left-eq0.false, digits-room _ _ w, written-length w)

pub returns : goal.returns
returns t c =
    rw c.digit-2.ensures (digits_more _ _ c.if-left-eq0.false c.if-n-lt10.false c.requires c.digits-k.ensures)
