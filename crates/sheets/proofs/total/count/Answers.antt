-- `sheets::total::count` counts one line more, by its outcome.
-- Assumes nothing.
use Rattle.sheets.specs.Code.Turns.{counted}
use Rattle.sheets.proofs.total.count.Goals as goal

pub returns-in-Refused : goal.returns-in-Refused
unfolding counted
returns-in-Refused c = rw c.in-Refused.is

pub returns-in-Held : goal.returns-in-Held
unfolding counted
returns-in-Held c = rw c.in-Held.is

pub returns-in-Idle : goal.returns-in-Idle
unfolding counted
returns-in-Idle c = rw c.in-Idle.is

pub returns-in-Broken : goal.returns-in-Broken
unfolding counted
returns-in-Broken c = rw c.in-Broken.is
