-- `read_choice` reads a known choice as OE of its argument.
-- Assumes nothing.
use Rattle.syntax.proofs.NameLaws.{as-no-choice, as-choice, knows-length}
use Rattle.syntax.proofs.ReadingLaws.{choice-none, choice-found, lost}
use Rattle.syntax.proofs.terms.read_choice.Goals as goal

pub returns-in_err-c : goal.returns-in_err-c
returns-in_err-c c = λ σ w. lost c.from_residual.ensures (choice-none σ _ (as-no-choice c.in_err-c.ensures σ (knows-length w)))

pub returns : goal.returns
returns c =
    λ σ w. choice-found c.requires (as-choice c.in_ok-c.ensures) σ w c.intern.ensures
