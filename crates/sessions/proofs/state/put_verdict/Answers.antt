-- `sessions::state::put_verdict`: the verdict afresh, or the one in front.
-- Assumes nothing.
use mathlib.Core.Path.{sym, ap, ◌∙◌}
use native.Mathlib.Omega.{arith}
use lib.Seq.{length-take-le}
use Rattle.mentions.specs.Mention.{mentions}
use Rattle.sessions.proofs.LayLaws.{to_end}
use Rattle.sessions.proofs.CurrentLaws.{verdict-afresh, verdict-kept}
use borrow.Author.Rules.{rules}
use Rattle.sessions.proofs.state.put_verdict.Goals as goal

pub returns-then-sessions : goal.returns-then-sessions
returns-then-sessions c =
    record { puts_verdict = verdict-afresh c.args.front.now (c.sessions.ensures ∙ ap mentions (to_end 28 c.args.front.now)) c.if-sessions.true (c.put_current.ensures.puts_current _ c.requires.front.parses); value = c.put_current.ensures.value }

pub slice_bounds-put-end : goal.slice_bounds-put-end
slice_bounds-put-end c =
    sym (length-take-le 26 c.args.front.now (omega (arith, c.requires.front.long)))

pub put-requires : goal.put-requires
put-requires c =
    let long = length-take-le 26 c.args.front.now (omega (arith, c.requires.front.long)) in search rules

pub returns : goal.returns
returns c =
    let long = length-take-le 26 c.args.front.now (omega (arith, c.requires.front.long)) in
    record { puts_verdict = verdict-kept c.args.front.now (c.sessions.ensures ∙ ap mentions (to_end 28 c.args.front.now)) c.if-sessions.false c.put.ensures; value = c.put.ensures.count ∙ long }
