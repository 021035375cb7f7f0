-- `verdicts::accepted_in_turn` meets its contract: the variables in turn are an order, and the walk along it has the verdict's numbers.
-- Assumes nothing.
use mathlib.Core.Path.{◌≡◌, ◌∙◌}
use lib.ListN.{length}
use Rattle.verdicts.proofs.ParsedLaws.{parsed-lent}
use Rattle.verdicts.proofs.CountedLaws.{turn-ordered, turn-fits, turn-ruled}
use borrow.Author.Rules.{rules}
use Rattle.verdicts.proofs.accepted_in_turn.Goals as goal

pub whole-requires : goal.whole-requires
whole-requires c =
    let nodes-room : length c.args.parsed.nodes ≡ 256 = search rules in
    let kinds-room : length c.args.parsed.kinds ≡ 256 = search rules in
    let vars-room : length c.args.parsed.vars ≡ 8 = search rules in
    (parsed-lent c.requires.some_rule.parses c.requires.loaded nodes-room kinds-room vars-room, turn-ordered c.requires.some_rule.parses vars-room)

pub ruled-requires : goal.ruled-requires
ruled-requires c = turn-fits c.requires.some_rule.parses c.requires.loaded c.whole.ensures

pub returns : goal.returns
returns c = λ s P T H. c.ruled.ensures ∙ turn-ruled P c.requires.loaded c.whole.ensures T H
