-- `rule` reads with no choices known, as deep and as many clauses as there are bytes.
-- Assumes nothing.
use mathlib.Core.List.{[]}
use native.Mathlib.Omega.{arith}
use lib.ListN.{length, replicate}
use lib.Seq.{length-take-le}
use Rattle.syntax.specs.Rule.{rule_of}
use Rattle.syntax.specs.Code.Reading.{clause_room}
use Rattle.syntax.proofs.ArenaLaws.{tidy-none}
use Rattle.syntax.proofs.FormulaLaws.{knows-none, reads-alike}
use Rattle.syntax.proofs.rule.Goals as goal

pub read_rule-p-requires : goal.read_rule-p-requires
read_rule-p-requires c = record { room = c.requires.0; within = omega arith; count = omega (arith, c.requires); tidy = tidy-none _ c.requires.1; choices = []; knows = knows-none }

pub returns : goal.returns
unfolding rule_of
returns c =
    reads-alike (length-take-le (length c.args.s.now) (replicate clause_room 0) (omega (arith, c.requires))) (c.ended.ensures _ _ _ (c.read_rule-p.ensures [] knows-none))
