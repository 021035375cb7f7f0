-- `rules::variables::walk`: each way out is one of those of a walk; the index falls at each call.
-- Assumes nothing.
use mathlib.Core.Path.{sym, ◌∙◌}
use native.Mathlib.Omega.{arith}
use Rattle.rules.proofs.NodeLaws.{left_below, right-below}
use Rattle.syntax.proofs.ArenaLaws.{two-less}
use Rattle.rules.proofs.WalkLaws.{walked-bare, walked-single, walked-choosing, walked-double}
use Rattle.rules.proofs.variables.+walk.Goals as goal

pub returns-then-op-lt-FIRST_CALL : goal.returns-then-op-lt-FIRST_CALL
returns-then-op-lt-FIRST_CALL t c = walked-bare c.operation-op.ensures c.if-op-lt-FIRST_CALL.true

pub walk-c-requires : goal.walk-c-requires
walk-c-requires t c =
    let l = left_below c.requires.tidy c.requires.k_lt_n c.operation-op.ensures c.left-below.ensures c.if-op-lt-FIRST_CALL.false in
    (omega (arith, c.requires), (c.requires.tidy, (omega (arith, c.requires), c.requires.vars_len)))

pub returns-then-op-lt-OE : goal.returns-then-op-lt-OE
returns-then-op-lt-OE t c =
    walked-single c.operation-op.ensures c.left-below.ensures c.walk-c.ensures c.if-op-lt-FIRST_CALL.false (λ h. absurd (omega arith)) (two-less _ (omega arith))

pub returns-then-op-lt-FIRST_PAIR : goal.returns-then-op-lt-FIRST_PAIR
returns-then-op-lt-FIRST_PAIR t c =
    let l = left_below c.requires.tidy c.requires.k_lt_n c.operation-op.ensures c.left-below.ensures c.if-op-lt-FIRST_CALL.false in
    walked-choosing c.operation-op.ensures c.left-below.ensures c.walk-c.ensures c.if-op-lt-OE.false c.if-op-lt-FIRST_PAIR.true c.requires.tidy.apart (omega (arith, c.requires)) c.requires.vars_len c.add.ensures

pub walk-requires : goal.walk-requires
walk-requires t c =
    let l = right-below c.requires.tidy c.requires.k_lt_n c.operation-op.ensures c.right.ensures (sym c.has_two.ensures ∙ c.if-has_two.true) in
    (omega (arith, c.requires), (c.requires.tidy, (omega (arith, c.requires), c.walk-c.ensures.size ∙ c.requires.vars_len)))

pub returns-then-has_two : goal.returns-then-has_two
returns-then-has_two t c =
    walked-double c.operation-op.ensures c.left-below.ensures c.walk-c.ensures (sym c.has_two.ensures ∙ c.if-has_two.true) c.if-op-lt-FIRST_PAIR.false c.right.ensures c.walk.ensures

pub returns : goal.returns
returns t c =
    walked-single c.operation-op.ensures c.left-below.ensures c.walk-c.ensures c.if-op-lt-FIRST_CALL.false (λ _. c.if-op-lt-FIRST_PAIR.false) (sym c.has_two.ensures ∙ c.if-has_two.false)
