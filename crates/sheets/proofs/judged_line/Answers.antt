-- `sheets::judged_line` writes the line of accepted tables: rules too long, the line of a rule, or what is behind the lines.
-- Assumes nothing.
use Prim.Native.Nat.{◌<◌}
use native.Mathlib.Omega.{arith}
use lib.ListN.{length}
use Rattle.sheets.proofs.JudgedLaws.{long-made, zero-made, no-line-at, found-made}
use Rattle.sheets.proofs.judged_line.Goals as goal

pub returns-then-place-eq0 : goal.returns-then-place-eq0
returns-then-place-eq0 c = λ T H. zero-made T c.args.rules.now _ _ c.if-place-eq0.true

pub foot-requires-clause-rules_len_bound : goal.foot-requires-clause-rules_len_bound
foot-requires-clause-rules_len_bound c =
    (c.if-rules-gt-RULES_LIMIT.false, no-line-at c.args.rules.now c.args.place c.in_default.ensures c.if-place-eq0.false)

pub returns : goal.returns
returns c =
    λ T H. found-made T _ _ c.if-rules-gt-RULES_LIMIT.false c.if-place-eq0.false c.in-Some.ensures (c.rule_line.ensures T H)
