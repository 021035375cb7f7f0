-- `verdicts::of_accepted` meets its contract: the slices of an accepted rule hold it, and its verdict is that along the order.
-- Assumes nothing.
use mathlib.Core.Path.{◌≡◌}
use lib.ListN.{length}
use Rattle.verdicts.proofs.ParsedLaws.{parsed-lent, parsed-judged}
use borrow.Author.Rules.{rules}
use Rattle.verdicts.proofs.of_accepted.Goals as goal

pub along-requires : goal.along-requires
along-requires c =
    let ln : length c.args.parsed.nodes ≡ 256 = search rules in
    let lk : length c.args.parsed.kinds ≡ 256 = search rules in
    let lv : length c.args.parsed.vars ≡ 8 = search rules in
    parsed-lent c.requires.some_rule.parses c.requires.loaded ln lk lv

pub returns : goal.returns
returns c = λ s p T H. parsed-judged p c.args.order.now c.along.ensures H
