-- `sessions::state::put_current`: the verdict in turn, written with its word.
-- Assumes nothing.
use mathlib.Core.Path.{◌∙◌}
use Rattle.rules.specs.Code.Parsed.{parsed}
use Rattle.sessions.proofs.CurrentLaws.{current-written}
use Rattle.sessions.proofs.StateLaws.{current-length}
use Rattle.sessions.proofs.StepLaws.{given-at}
use Rattle.sessions.proofs.state.put_current.Goals as goal

pub parsed_in_turn-verdict-requires-clause-some_text : goal.parsed_in_turn-verdict-requires-clause-some_text
parsed_in_turn-verdict-requires-clause-some_text c = let s = c.requires.some_rule in record { text = s.text; parses = parsed s.parses }

pub returns : goal.returns
returns c =
    let P = c.requires.some_rule.parses in
    let own = current-written _ P (c.parsed_in_turn-verdict.ensures _ (parsed P)) c.word_of.ensures c.write.ensures in
    record {
      puts_current = λ rule Q. current-written rule Q (c.parsed_in_turn-verdict.ensures rule (parsed Q)) c.word_of.ensures c.write.ensures;
      value = (own c.requires.loaded.tables P.rule.tree c.requires.loaded.holds P.rule.reads).count ∙ current-length (given-at c.requires.loaded.holds P P.rule.reads);
    }
