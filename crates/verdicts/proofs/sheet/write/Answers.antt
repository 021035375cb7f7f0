-- `verdicts::sheet::write` meets its contract: five parts one behind the other.
-- Assumes nothing.
use mathlib.Core.Path.{◌≡◌}
use lib.ListN.{length}
use Rattle.verdicts.proofs.SheetLaws.{all-written}
use borrow.Author.Rules.{rules}
use Rattle.verdicts.proofs.sheet.write.Goals as goal

pub returns : goal.returns
returns c =
    let eight : length c.args.verdict.first ≡ 8 = search rules in
    all-written c.args.word c.args.verdict c.requires eight c.word_behind.ensures c.word_behind-2.ensures c.put.ensures
