-- `walks::small` meets its contract.
-- Assumes nothing.
use mathlib.Core.Path.{◌∙◌}
use lib.Dec.{ltb}
use borrow.Author.Rules.{rules}
use borrow.Author.Tests.{tests}
use Rattle.std.proofs.lemmas.Iterator.{YieldsList-from_slice}
use Rattle.std.proofs.lemmas.Iterator.Search.{all_from_yields_List}
use Rattle.walks.proofs.LoopLaws.{all-small}
use Rattle.walks.proofs.small.Goals as goal

pub returns : goal.returns
returns c =
    all_from_yields_List (λ v. ltb v c.args.n) _ _ _ c.all.ensures.ran (YieldsList-from_slice c.args.order.now cc) (λ x b q k. search (rules, tests))
    ∙ all-small c.args.n c.args.order.now
