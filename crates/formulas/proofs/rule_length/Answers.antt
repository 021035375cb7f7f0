-- `rule_length` measures the tree with no choices known.
-- Assumes nothing.
use mathlib.Core.Path.{◌∙◌}
use Rattle.formulas.proofs.ReduceLaws.{rule-measured}
use Rattle.formulas.proofs.rule_length.Goals as goal

pub returns : goal.returns
returns c =
    λ ρ h. c.length_at.ensures ∙ rule-measured c.lengths.ensures c.requires.root_lt_n ρ h
