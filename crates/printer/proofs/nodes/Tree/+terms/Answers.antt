-- The writers of terms call each other on nodes below their own: three times the index falls, a helper one below its caller.
-- Assumes nothing.
use native.Mathlib.Omega.{arith}
use Rattle.printer.proofs.PrintsLaws.{appends-as, appends-then, add-appends, appends-add, appends-never, ready-left, ready-right}
use Rattle.syntax.proofs.ArenaLaws.{two-low}
use Rattle.printer.proofs.PrintsLaws.{term-leaf, term-call, term-new, term-choice, term-others, term-two, no-term, others-text}
use Rattle.printer.proofs.nodes.Tree.+terms.Goals as goal

pub one-closed-requires : goal.one-closed-requires
one-closed-requires t c =
    let z = ready-left c.requires.ready c.left-i.ensures (omega (arith, c.requires)) in
    (omega (arith, z.1), (z.0, omega (arith, c.op-op.ensures, c.requires)))

pub one-returns-then-op-lt-OE : goal.one-returns-then-op-lt-OE
one-returns-then-op-lt-OE t c =
    term-call c.requires.ready c.op-op.ensures c.left-i.ensures (omega (arith, c.op-op.ensures, c.requires)) c.if-op-lt-OE.true c.closed.ensures

pub one-closed-requires-then-d-self : goal.one-closed-requires-then-d-self
one-closed-requires-then-d-self t c =
    let z = ready-left c.requires.ready c.left-i.ensures (omega (arith, c.requires)) in
    (omega (arith, z.1), (z.0, omega (arith, c.op-op.ensures, c.requires)))

pub one-returns-then-d-self : goal.one-returns-then-d-self
one-returns-then-d-self t c =
    term-new c.requires.ready c.op-op.ensures c.left-i.ensures c.if-op-lt-OE.false c.seek-d.ensures (omega (arith, c.op-op.ensures, c.requires)) (omega (arith, c.if-d-self.true)) c.closed-then-d-self.ensures

pub one-returns-then-op-eq-OE : goal.one-returns-then-op-eq-OE
one-returns-then-op-eq-OE t c =
    term-choice c.requires.ready c.op-op.ensures c.left-i.ensures c.if-op-lt-OE.false c.seek-d.ensures c.if-op-eq-OE.true (omega (arith, c.seek-d.ensures.within, c.if-d-self.false)) c.choice.ensures

pub one-others-requires : goal.one-others-requires
one-others-requires t c =
    let z = ready-left c.requires.ready c.left-i.ensures (omega (arith, c.requires)) in
    (omega (arith, z.1), (z.0, omega (arith, c.requires.ready.few, c.seek-d.ensures.within, c.if-d-self.false)))

pub one-returns-else-op-eq-OE : goal.one-returns-else-op-eq-OE
one-returns-else-op-eq-OE t c =
    term-others c.requires.ready c.op-op.ensures c.left-i.ensures c.if-op-lt-OE.false c.seek-d.ensures (omega (arith, c.if-op-lt-OE.false, c.if-op-eq-OE.false)) (omega (arith, c.op-op.ensures, c.requires)) (omega (arith, c.seek-d.ensures.within, c.if-d-self.false)) c.others.ensures

pub others-returns : goal.others-returns
others-returns t c =
    appends-as
    (λ σ a y x. record { thing = a; held = x; written = others-text _ _ })
    (appends-add (add-appends c.put.ensures c.term.ensures) c.without.ensures)

pub term-returns-then-op-lt-FIRST_CALL : goal.term-returns-then-op-lt-FIRST_CALL
term-returns-then-op-lt-FIRST_CALL t c = term-leaf c.requires c.op-op.ensures c.if-op-lt-FIRST_CALL.true c.sign.ensures

pub term-returns-else-op-lt-MEMBER : goal.term-returns-else-op-lt-MEMBER
term-returns-else-op-lt-MEMBER t c = appends-never _ (λ u x. no-term _ _ u (omega (arith, c.op-op.ensures, c.if-op-lt-MEMBER.false)) x)

pub two-term-requires : goal.two-term-requires
two-term-requires t c =
    let z = ready-left c.requires.ready c.left.ensures (omega (arith, c.requires)) in
    (omega (arith, z.1), z.0)

pub two-closed-requires : goal.two-closed-requires
two-closed-requires t c =
    let z = ready-right c.requires.ready c.right.ensures (two-low _ c.requires.op.0 (omega (arith, c.requires))) in
    (omega (arith, z.1), (z.0, omega (arith, c.requires, c.op-op.ensures)))

pub two-returns : goal.two-returns
two-returns t c =
    term-two c.requires.ready c.op-op.ensures c.left.ensures c.right.ensures (omega (arith, c.op-op.ensures, c.requires)) (omega (arith, c.op-op.ensures, c.requires))
    (appends-then (add-appends c.open.ensures c.term.ensures) c.closed.ensures)
