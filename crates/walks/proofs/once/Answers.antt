-- `walks::once` meets its contract.
-- Assumes nothing.
use mathlib.Core.Path.{refl, ◌∙◌}
use native.Mathlib.Omega.{arith}
use lib.Dec.{eqb}
use borrow.Author.Rules.{rules}
use borrow.Author.Tests.{tests}
use Rattle.std.proofs.lemmas.Iterator.{YieldsList-from_range}
use Rattle.std.proofs.lemmas.Iterator.Search.{all_from_yields_List}
use Rattle.walks.specs.Order.{count}
use Rattle.walks.proofs.LoopLaws.{all-once}
use Rattle.walks.proofs.once.Goals as goal

pub returns : goal.returns
returns c =
    all_from_yields_List (λ k. eqb (count k c.args.order.now) 1) _ _ _ c.all.ensures.ran (YieldsList-from_range 0 c.args.n c.args.n refl (omega arith)) (λ x b q k. search (rules, tests))
    ∙ all-once c.args.order.now c.args.n
