-- `pages::tallies::tallied` judges line by line. The invariant: the first k lines are judged, and those known have their counts from k on.
-- Assumes nothing.
use Rattle.pages.specs.Code.Tallies.{Lanes, TalliesOn}
use Rattle.pages.proofs.SheafLaws.{KnownFrom}
use Rattle.pages.proofs.tallies.tallied.Given as goal

abbrev pub invariant-loop-k : goal.invariant-loop-k
invariant-loop-k l = Lanes l.fulls l.breakings l.firsts × TalliesOn l.words l.page l.k l.fulls l.breakings l.firsts × KnownFrom l.words l.page l.fulls l.breakings l.known l.k
