-- `forecasts::put` makes the two words by themselves, and lends them.
-- Assumes nothing.
use Rattle.forecasts.proofs.TellingLaws.{two-written}
use borrow.Author.Rules.{rules}
use Rattle.forecasts.proofs.put.Goals as goal

pub returns : goal.returns
returns c =
    rw (two-written c.args.size c.args.most (search rules) c.word_behind.ensures c.word_behind-2.ensures) at c.lend.ensures
