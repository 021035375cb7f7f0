-- Rebuilding by reading, printing and comparing: the answer of `rebuild` as a function. `RebuildLaws.rebuilt-answer` says that it is the one
-- of `Rebuilds`. Internal: contracts of entry points do not speak of it. Assumes nothing.
use Rattle.std.specs.Prelude.{[], Bool, true, false}
use Rattle.std.proofs.Math.Option.{Option, none, some}
use Rattle.answers.specs.Answer.{Answer}
use Rattle.answers.specs.declared.Refusal.TheVariants.{NoRulesFormula}
use Rattle.syntax.specs.Bytes.{Bytes, same}
use Rattle.syntax.specs.Rule.{rule_text, rule_of_formula}
use Rattle.rules.specs.Accept.{accepted}
use Rattle.formulas.specs.Formulas.{formula_of, wrote_or}

-- The text s, where it is accepted and its formula g is f byte for byte.
unfoldable pub kept : Bool → Option Bytes → Bytes → Bytes → Option Bytes
kept false g f s = none
kept true none f s = none
kept true (some g) f s = elim (same g f) [ false ↦ none | true ↦ some s ]

-- Read the formula, write its tree with no choices known, and keep that text where it is accepted and has the formula.
unfoldable pub rebuilt : Bytes → Option Bytes
rebuilt f = elim (rule_of_formula f) [ none ↦ none | some ρ ↦ kept (accepted (rule_text [] ρ)) (formula_of (rule_text [] ρ)) f (rule_text [] ρ) ]

unfoldable pub rebuilt_answer : Bytes → Answer
rebuilt_answer f = wrote_or NoRulesFormula (rebuilt f)
