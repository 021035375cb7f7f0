-- `number_at` reads the largest number up to 64 whose digits stand in front.
-- Assumes nothing.
use native.Mathlib.Omega.{arith}
use Rattle.syntax.proofs.NameLaws.{as-unknown, as-name, unnamed}
use Rattle.syntax.proofs.NumberLaws.{digit-small, number-fail, number-zero, number-single, number-one, number-two}
use Rattle.syntax.proofs.names.number_at.Goals as goal

pub returns-in_err-a : goal.returns-in_err-a
returns-in_err-a c = unnamed c.from_residual.ensures (number-fail c.args.s.now c.args.at (as-unknown c.in_err-a.ensures))

pub returns-then-a-eq0 : goal.returns-then-a-eq0
returns-then-a-eq0 c = number-zero (as-name c.in_ok-a.ensures) c.if-a-eq0.true

pub returns-in_default : goal.returns-in_default
returns-in_default c =
    number-single (as-name c.in_ok-a.ensures) (as-unknown c.in_default.ensures)

pub overflow_mul-m : goal.overflow_mul-m
overflow_mul-m c =
    omega (arith, digit-small (as-name c.in_ok-a.ensures))

pub overflow_add-m : goal.overflow_add-m
overflow_add-m c =
    omega (arith, digit-small (as-name c.in_ok-a.ensures), digit-small (as-name c.in-Some.ensures))

pub returns-then-m-lt65 : goal.returns-then-m-lt65
returns-then-m-lt65 c =
    number-two (as-name c.in_ok-a.ensures) (as-name c.in-Some.ensures) c.if-a-eq0.false c.if-m-lt65.true

pub returns : goal.returns
returns c =
    number-one (as-name c.in_ok-a.ensures) (as-name c.in-Some.ensures) c.if-m-lt65.false
