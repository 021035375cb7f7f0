-- Document 01, "Formula": the formula of a rule text, the rule of a formula, and what the two entry points answer.
-- Assumes nothing.
use Rattle.std.specs.Prelude.{◌≡◌, true, length}
use Rattle.std.proofs.Math.Option.{Option, none, some}
use Rattle.answers.specs.Answer.{Answer, refused, wrote, lent}
use Rattle.answers.specs.Written.{Answers}
use Rattle.answers.specs.declared.Refusal.{Refusal}
use Rattle.answers.specs.declared.Refusal.TheVariants.{NotARule, NoRulesFormula}
use Rattle.answers.specs.Written.{Written}
use Rattle.syntax.specs.Bytes.{Bytes}
use Rattle.syntax.specs.Rule.{formula, rule_of}
use Rattle.rules.specs.Accept.{refusal, accepted}

-- "The formula is `[v1@X1][v2@X2]..:` and the rule": the formula of a rule text, none where the text is no rule.
unfoldable pub formula_of : Bytes → Option Bytes
formula_of s = elim (rule_of s) [ none ↦ none | some ρ ↦ some (formula ρ) ]

-- The bytes to be written, or the refusal where there are none.
abbrev pub wrote_or : Refusal → Option Bytes → Answer
wrote_or r none = refused r
wrote_or r (some b) = wrote b

-- What `reduce` answers, but for 17: 11 to 15, else the formula. (An accepted text is a rule, so the 13 here is never given.)
unfoldable pub reduced : Bytes → Answer
reduced s = elim (refusal s) [ some r ↦ refused r | none ↦ wrote_or NotARule (formula_of s) ]

-- "the formulas of accepted rules": s is an accepted rule, and f is its formula.
pub record RuleOf (f s : Bytes) : Type 0 where
  pub accepts : accepted s ≡ true
  pub formula : formula_of s ≡ some f

-- "Rebuilding .. accepts exactly the formulas of accepted rules": what `rebuild` answers, but for 17, is the accepted rule whose formula this is,
-- or 16, "no accepted rule has this formula". `RebuildLaws.rebuilds-once` says that there is one such answer.
pub data Rebuilds (f : Bytes) : Answer → Type 0 where
  gives : {s : Bytes} → RuleOf f s → Rebuilds f (wrote s)
  gives_none : ((s : Bytes) → RuleOf f s → ⊥) → Rebuilds f (refused NoRulesFormula)

-- `rebuild` on f says w and turns the output old into new.
pub record RebuildAnswers (f old new : Bytes) (w : Written) : Type 0 where
  pub answer : Answer
  pub rebuilds : Rebuilds f answer
  pub answers : Answers (lent (length old) answer) old new w
