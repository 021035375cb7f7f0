-- `digit_at` gives the digit in front, where one stands there.
-- Assumes nothing.
use native.Mathlib.Omega.{arith}
use borrow.Author.Tests.{false-ltb}
use Rattle.syntax.proofs.NumberLaws.{digit-end, digit_low, digit-high, digit-is}
use Rattle.syntax.proofs.names.digit_at.Goals as goal
use Rattle.syntax.proofs.names.digit_at.Goals.{then-c-lt48-via-then-c-lt48, then-c-lt48-via-else-c-lt48+then-c-gt57}

pub returns-in_err-c : goal.returns-in_err-c
returns-in_err-c c = rw c.from_residual.ensures (digit-end _ _ (false-ltb _ _ c.in_err-c.ensures.lookup.0))

pub returns-then-c-lt48 : goal.returns-then-c-lt48
returns-then-c-lt48 c =
    let x = c.in_ok-c.ensures.lookup.3 in
    elim c.then-c-lt48.branch [
      | then-c-lt48-via-then-c-lt48 w ↦ digit_low _ _ x.0 (omega (arith, x.1 0, w.if-c-lt48.true))
      | then-c-lt48-via-else-c-lt48+then-c-gt57 w ↦ digit-high _ _ x.0 (omega (arith, x.1 0, w.if-c-lt48.false)) (omega (arith, x.1 0, w.if-c-gt57.true))
    ]

pub returns : goal.returns
returns c =
    let x = c.in_ok-c.ensures.lookup.3 in
    digit-is _ _ x.0 (omega (arith, x.1 0)) (omega (arith, x.1 0)) (omega (arith, x.1 0))
