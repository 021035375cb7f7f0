-- `walks::times` meets its contract.
-- Assumes nothing.
use mathlib.Core.Path.{◌∙◌}
use lib.Dec.{eqb}
use borrow.Author.Rules.{rules}
use borrow.Author.Tests.{tests}
use Rattle.std.proofs.lemmas.Iterator.{YieldsList-from_slice}
use Rattle.std.proofs.lemmas.Iterator.Consumers.{YieldsList-from_filter, count_from_yields_List}
use Rattle.walks.proofs.LoopLaws.{count-filter}
use Rattle.walks.proofs.times.Goals as goal

pub returns : goal.returns
returns c =
    count_from_yields_List c.filter.result _ c.count.ensures.ran
    (YieldsList-from_filter _ (λ v. eqb c.args.u v) (YieldsList-from_slice c.args.order.now cc) c.filter.ensures.closure (λ x b q k. search (rules, tests)))
    ∙ count-filter c.args.u c.args.order.now
