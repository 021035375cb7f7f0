-- `read_sized` reads a test of a count.
-- Assumes nothing.
use native.Mathlib.Omega.{arith}
use Rattle.syntax.specs.Code.Reading.{no_thing}
use Rattle.syntax.proofs.ArenaLaws.{knows-later}
use Rattle.syntax.proofs.NameLaws.{hit, miss, as-unknown, as-name}
use Rattle.syntax.proofs.ReadingLaws.{as_none, as_some, ready_on, lost}
use Rattle.syntax.proofs.TestLaws.{cmp-small, sized-none, sized-open, sized-lost, sized-found}
use Rattle.syntax.proofs.tests.read_sized.Goals as goal

pub returns-in_err-p : goal.returns-in_err-p
returns-in_err-p c = λ σ w. lost c.from_residual.ensures (sized-none σ _ (as_none (c.in_err-p.ensures σ w)))

pub returns-then-not-stands : goal.returns-then-not-stands
returns-then-not-stands c =
    λ σ w.
    let f = as_some (c.in_ok-p.ensures σ w) in
    no_thing (sized-open σ f (miss c.stands.ensures c.if-not-stands.true))

pub cmp_at-requires : goal.cmp_at-requires
cmp_at-requires c =
    let f = as_some (c.in_ok-p.ensures c.requires.choices c.requires.knows) in
    (hit c.stands.ensures c.if-not-stands.false f.end).fits

pub returns-in_err-h : goal.returns-in_err-h
returns-in_err-h c =
    λ σ w.
    let f = as_some (c.in_ok-p.ensures σ w) in
    let h = hit c.stands.ensures c.if-not-stands.false f.end in
    lost c.from_residual-in_err-h.ensures (sized-lost σ f h (as-unknown c.in_err-h.ensures))

pub read_count-requires : goal.read_count-requires
read_count-requires c =
    let f = as_some (c.in_ok-p.ensures c.requires.choices c.requires.knows) in
    let x = as-name c.in_ok-h.ensures in
    record { readable = ready_on c.requires f (omega (arith, x.more)) x.fits; c_bound = (omega (arith, x.number_is, cmp-small x.thing), f.within) }

pub returns : goal.returns
returns c =
    λ σ w.
    let f = as_some (c.in_ok-p.ensures σ w) in
    let h = hit c.stands.ensures c.if-not-stands.false f.end in
    let x = as-name c.in_ok-h.ensures in
    sized-found σ f h x (c.read_count.ensures σ x.thing f.thing (knows-later f.stays w) x.number_is f.holds)
