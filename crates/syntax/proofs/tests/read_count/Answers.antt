-- `read_count` reads a number or a count behind a comparison.
-- Assumes nothing.
use native.Mathlib.Omega.{arith}
use Rattle.syntax.specs.Code.Reading.{no_thing}
use Rattle.syntax.proofs.NameLaws.{hit, miss, as-unknown, as-name}
use Rattle.syntax.proofs.ReadingLaws.{as_none, as_some, ready_at, fresh-two, lost}
use Rattle.syntax.proofs.TestLaws.{count-lost, number-fresh, number-found, count_none, count-open, count-found}
use Rattle.syntax.proofs.tests.read_count.Goals as goal

pub returns-in_err-h : goal.returns-in_err-h
returns-in_err-h c = λ σ o a w q y. lost c.from_residual.ensures (count-lost σ o a _ (miss c.stands.ensures c.if-not-stands.true) (as-unknown c.in_err-h.ensures))

pub intern-requires : goal.intern-requires
intern-requires c =
    number-fresh c.requires.readable c.requires.c_bound.1 c.requires.c_bound.0 (as-name c.in_ok-h.ensures)

pub returns-then-not-stands : goal.returns-then-not-stands
returns-then-not-stands c =
    λ σ o a w q y.
    number-found σ o a c.requires.readable c.requires.c_bound.1 c.requires.c_bound.0 q y (miss c.stands.ensures c.if-not-stands.true) (as-name c.in_ok-h.ensures) c.intern.ensures

pub read_term-requires : goal.read_term-requires
read_term-requires c =
    let h = hit c.stands.ensures c.if-not-stands.false c.requires.readable.within in
    ready_at c.requires.readable (omega arith) h.fits

pub returns-in_err-p : goal.returns-in_err-p
returns-in_err-p c =
    λ σ o a w q y.
    let h = hit c.stands.ensures c.if-not-stands.false c.requires.readable.within in
    lost c.from_residual-in_err-p.ensures (count_none σ o a h (as_none (c.in_err-p.ensures σ w)))

pub returns-then-not-stands-2 : goal.returns-then-not-stands-2
returns-then-not-stands-2 c =
    λ σ o a w q y.
    let h = hit c.stands.ensures c.if-not-stands.false c.requires.readable.within in
    let f = as_some (c.in_ok-p.ensures σ w) in
    no_thing (count-open σ o a h f (miss c.stands-2.ensures c.if-not-stands-2.true))

pub intern-requires-2 : goal.intern-requires-2
intern-requires-2 c =
    let f = as_some (c.in_ok-p.ensures c.requires.readable.choices c.requires.readable.knows) in
    let h = hit c.stands.ensures c.if-not-stands.false c.requires.readable.within in
    fresh-two (omega (arith, c.requires.readable.room, c.requires.readable.count, f.count, f.end, f.stays.size)) f.tidy (omega (arith, c.requires.c_bound.0)) (omega (arith, c.requires.c_bound.1, f.stays.more)) f.within

pub returns : goal.returns
returns c =
    λ σ o a w q y.
    let h = hit c.stands.ensures c.if-not-stands.false c.requires.readable.within in
    let f = as_some (c.in_ok-p.ensures σ w) in
    let h' = hit c.stands-2.ensures c.if-not-stands-2.false f.end in
    count-found σ o a h f c.requires.readable c.requires.c_bound.1 c.requires.c_bound.0 q y h' c.intern-2.ensures
