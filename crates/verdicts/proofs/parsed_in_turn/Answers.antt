-- `verdicts::parsed_in_turn` meets its contract: a refused rule gives its refusal, an accepted one its verdict in turn.
-- Assumes nothing.
use mathlib.Core.Path.{◌∙◌}
use Rattle.rules.proofs.ParseLaws.{as-parsed, as-refused}
use Rattle.verdicts.proofs.CountedLaws.{turn-refused}
use Rattle.verdicts.proofs.parsed_in_turn.Goals as goal

pub accepted_in_turn-requires : goal.accepted_in_turn-requires
accepted_in_turn-requires c =
    let s = c.requires.some_text in
    record { loaded = c.requires.loaded; some_rule = record { text = s.text; parses = as-parsed s.parses c.in-Ok.is } }

pub returns-in-Err : goal.returns-in-Err
returns-in-Err c = λ s P T H. c.refused.ensures ∙ turn-refused s (as-refused P c.in-Err.is) T

pub returns-in-Ok : goal.returns-in-Ok
returns-in-Ok c = λ s P. c.accepted_in_turn.ensures s (as-parsed P c.in-Ok.is)
