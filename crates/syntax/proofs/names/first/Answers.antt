-- `first` passes the names that do not stand there: those that begin with another byte, and those that go on otherwise.
-- Assumes nothing.
use borrow.Author.Tests.{false-ltb}
use Rattle.syntax.proofs.NameLaws.{from_all, table-here, table-past, table-other, table-none, table-end}
use Rattle.syntax.proofs.names.first.Goals as goal
use Rattle.syntax.proofs.names.first.Goals.{else-name-begin-via-then-name-begin+else-stands, else-name-begin-via-else-name-begin}

pub returns-in_err-begin : goal.returns-in_err-begin
returns-in_err-begin c = rw c.from_residual.ensures (table-none _ (false-ltb _ _ c.in_err-begin.ensures.lookup.0) c.requires.spelt)

pub loop-name-init : goal.loop-name-init
loop-name-init c = (from_all _ c.requires.at_in_bounds, c.requires.spelt)

pub returns-then-stands : goal.returns-then-stands
returns-then-stands c = table-here _ _ _ c.loop-name.invariant.0 c.loop-name.invariant.1 c.loop-name-test.true c.stands.ensures c.if-stands.true

pub loop-name-preserved : goal.loop-name-preserved
loop-name-preserved c =
    let x = c.in_ok-begin.ensures.lookup.3 in
    elim c.else-name-begin.branch [
      | else-name-begin-via-then-name-begin+else-stands w ↦ table-past _ _ _ c.loop-name.invariant.0 c.loop-name.invariant.1 c.loop-name-test.true w.stands.ensures w.if-stands.false
      | else-name-begin-via-else-name-begin w ↦ table-other _ _ _ c.loop-name.invariant.0 c.loop-name.invariant.1 c.loop-name-test.true x.0 (x.1 0) w.if-name-begin.false
    ]

pub returns : goal.returns
returns c = table-end _ _ c.loop-name.invariant.0 c.loop-name-test.false
