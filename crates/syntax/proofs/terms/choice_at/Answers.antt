-- `choice_at` gives the node of a known choice.
-- Assumes nothing.
use native.Mathlib.Omega.{arith}
use borrow.Author.Tests.{false-ltb}
use Rattle.syntax.proofs.NameLaws.{choice-end, choice-low, choice-high, choice-is}
use Rattle.syntax.proofs.terms.choice_at.Goals as goal

pub returns-in_err-c : goal.returns-in_err-c
returns-in_err-c c = rw c.from_residual.ensures (choice-end (false-ltb _ _ c.in_err-c.ensures.lookup.0))

pub returns-then-c-lt49 : goal.returns-then-c-lt49
returns-then-c-lt49 c = let x = c.in_ok-c.ensures.lookup.3 in choice-low x.0 (omega (arith, x.1 0))

pub returns-in_err-v : goal.returns-in_err-v
returns-in_err-v c =
    let x = c.in_ok-c.ensures.lookup.3 in
    rw c.from_residual-in_err-v.ensures (choice-high x.0 (omega (arith, x.1 0)) (omega (arith, x.1 0, false-ltb _ _ c.in_err-v.ensures.lookup.0)))

pub returns : goal.returns
returns c =
    let x = c.in_ok-c.ensures.lookup.3 in
    choice-is x.0 (omega arith) (x.1 0) c.in_ok-v.ensures.lookup.3.0 (c.in_ok-v.ensures.lookup.3.1 0)
