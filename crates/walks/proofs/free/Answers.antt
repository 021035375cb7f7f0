-- `walks::free` meets its contract.
-- Assumes nothing.
use mathlib.Core.Path.{◌∙◌}
use mathlib.Core.Bool.{not}
use lib.ListN.{get_or}
use native.Mathlib.Omega.{arith}
use borrow.Author.Rules.{rules}
use borrow.Author.Tests.{tests}
use Rattle.std.proofs.lemmas.Grind.{get_or_default_zero}
use Rattle.std.proofs.lemmas.Iterator.{YieldsList-from_slice}
use Rattle.std.proofs.lemmas.Iterator.Adapters.{serves_from_places}
use Rattle.std.proofs.lemmas.Iterator.Search.{all_from_yields_List}
use Rattle.words.specs.Words.{has}
use Rattle.walks.proofs.LoopLaws.{all-free}
use Rattle.walks.proofs.free.Goals as goal

pub all-requires-clause-callable : goal.all-requires-clause-callable
all-requires-clause-callable c =
    serves_from_places (YieldsList-from_slice c.args.later.now cc) (λ x q k. search rules) (λ x k l e p r n same f g t. omega (arith, c.requires.1 k, get_or_default_zero c.args.later.now k x.now))

pub returns : goal.returns
returns c =
    all_from_yields_List (λ w. not (has (get_or c.args.names.now c.args.v 0) w)) _ _ _ c.all.ensures.ran (YieldsList-from_slice c.args.later.now cc) (λ x b q k. search (rules, tests))
    ∙ all-free c.args.names.now c.args.v c.args.later.now
