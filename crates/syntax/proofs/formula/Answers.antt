-- `formula` reads at most 8 quantifiers, and as many clauses as there is room for.
-- Assumes nothing.
use mathlib.Core.List.{[]}
use native.Mathlib.Omega.{arith}
use Rattle.syntax.proofs.ArenaLaws.{tidy-none}
use Rattle.syntax.proofs.FormulaLaws.{knows-none}
use borrow.Author.Rules.{rules}
use Rattle.syntax.proofs.formula.Goals as goal

pub read_formula-p-requires : goal.read_formula-p-requires
read_formula-p-requires c = record { readable = record { room = c.requires.0; within = omega arith; count = omega (arith, c.requires); tidy = tidy-none _ c.requires.1; choices = []; knows = knows-none }; vars_len = (search rules, omega arith) }
