-- `sheets::text::says` writes what each outcome says.
-- Assumes nothing.
use Rattle.sheets.specs.Line.{counts_of, shared_of, says_of}
use Rattle.sheets.proofs.text.says.Goals as goal

pub returns-in-Refused : goal.returns-in-Refused
unfolding says_of shared_of counts_of
returns-in-Refused c =
    rw c.in-Refused.is (rw c.from.ensures at c.labelled.ensures)

pub returns-in-Held : goal.returns-in-Held
unfolding says_of shared_of counts_of
returns-in-Held c = rw c.in-Held.is c.shared.ensures

pub returns-in-Idle : goal.returns-in-Idle
unfolding says_of shared_of counts_of
returns-in-Idle c = rw c.in-Idle.is c.idle.ensures

pub returns-in-Broken : goal.returns-in-Broken
unfolding says_of shared_of counts_of
returns-in-Broken c = rw c.in-Broken.is c.broken.ensures
