-- `verdicts::of_parsed` meets its contract: a refused rule gives its refusal, an accepted one its verdict along the order.
-- Assumes nothing.
use mathlib.Core.Path.{◌∙◌}
use Rattle.rules.proofs.ParseLaws.{as-parsed, as-refused}
use Rattle.verdicts.proofs.ParsedLaws.{parsed-refused}
use Rattle.verdicts.proofs.of_parsed.Goals as goal

pub of_accepted-requires : goal.of_accepted-requires
of_accepted-requires c =
    let s = c.requires.some_text in
    record { loaded = c.requires.loaded; some_rule = record { text = s.text; parses = as-parsed s.parses c.in-Ok.is } }

pub returns-in-Err : goal.returns-in-Err
returns-in-Err c = λ s P T H. c.refused.ensures ∙ parsed-refused s (as-refused P c.in-Err.is) T c.args.order.now

pub returns-in-Ok : goal.returns-in-Ok
returns-in-Ok c = λ s P. c.of_accepted.ensures s (as-parsed P c.in-Ok.is)
