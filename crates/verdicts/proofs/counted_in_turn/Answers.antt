-- `verdicts::counted_in_turn` meets its contract: the rule is parsed once, and the known counts are those of the walk in turn.
-- Assumes nothing.
use mathlib.Core.Path.{◌≡◌, ◌∙◌}
use lib.ListN.{length}
use Rattle.rules.proofs.ParseLaws.{as-parsed, as-refused}
use Rattle.verdicts.proofs.ParsedLaws.{parsed-lent}
use Rattle.verdicts.proofs.CountedLaws.{turn-refused, turn-ordered, turn-counts, turn-fits, turn-ruled}
use borrow.Author.Rules.{rules}
use Rattle.verdicts.proofs.counted_in_turn.Goals as goal

pub known-requires : goal.known-requires
known-requires c =
    let f = as-parsed c.parse.ensures c.in-Ok.is in
    let nodes-room : length c.in-Ok.parsed.nodes ≡ 256 = search rules in
    let kinds-room : length c.in-Ok.parsed.kinds ≡ 256 = search rules in
    let vars-room : length c.in-Ok.parsed.vars ≡ 8 = search rules in
    (parsed-lent f c.requires.loaded nodes-room kinds-room vars-room, turn-ordered f vars-room, turn-counts f c.requires.loaded c.requires.known_counts)

pub ruled-requires : goal.ruled-requires
ruled-requires c = turn-fits (as-parsed c.parse.ensures c.in-Ok.is) c.requires.loaded c.known.ensures

pub returns-in-Err : goal.returns-in-Err
returns-in-Err c = λ T H. c.refused.ensures ∙ turn-refused _ (as-refused c.parse.ensures c.in-Err.is) T

pub returns-in-Ok : goal.returns-in-Ok
returns-in-Ok c = λ T H. c.ruled.ensures ∙ turn-ruled (as-parsed c.parse.ensures c.in-Ok.is) c.requires.loaded c.known.ensures T H
