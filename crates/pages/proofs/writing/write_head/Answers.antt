-- `pages::writing::write_head` writes four parts one behind the other.
-- Assumes nothing.
use Rattle.pages.proofs.WritingLaws.{head-written}
use Rattle.pages.proofs.writing.write_head.Goals as goal

pub returns : goal.returns
returns c =
    head-written c.args.sums c.args.walks c.requires c.word_behind.ensures c.word_behind-2.ensures
