-- `read_less` reads the rest of a term without a choice, which is AO of the term.
-- Assumes nothing.
use native.Mathlib.Omega.{arith}
use Rattle.syntax.specs.Code.Reading.{no_thing}
use Rattle.syntax.proofs.NameLaws.{hit, miss, as-no-choice, as-choice, knows-length}
use Rattle.syntax.proofs.ReadingLaws.{less_none, less-lost, less-found, lost}
use Rattle.syntax.proofs.terms.read_less.Goals as goal

pub returns-in_err-c : goal.returns-in_err-c
returns-in_err-c c = λ σ a w y. lost c.from_residual.ensures (less_none σ a _ (as-no-choice c.in_err-c.ensures σ (knows-length w)))

pub returns-then-not-stands : goal.returns-then-not-stands
returns-then-not-stands c =
    λ σ a w y. no_thing (less-lost c.requires.readable (as-choice c.in_ok-c.ensures) σ a w (miss c.stands.ensures c.if-not-stands.true))

pub returns : goal.returns
returns c =
    λ σ a w y.
    let x = as-choice c.in_ok-c.ensures in
    less-found c.requires.readable x σ a w c.requires.i_lt_n y (hit c.stands.ensures c.if-not-stands.false (omega (arith, x.behind, x.fits))) c.intern.ensures
