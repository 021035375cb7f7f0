-- Document 01, "Turned back", refusals 11 to 15: which rule texts are accepted, and the first refusal of the others.
-- Assumes nothing.
use Rattle.std.specs.Prelude.{[], ◌∷◌, Bool, true, false, ◌&&◌, ◌||◌, ℕ, suc, ◌+◌, eqb, ltb, leb, length}
use Rattle.std.proofs.Math.Option.{Option, none, some}
use Rattle.answers.specs.declared.Refusal.{Refusal}
use Rattle.answers.specs.declared.Refusal.TheVariants.{RuleLength, Deep, NotARule, KindMismatch, Choices}
use Rattle.syntax.specs.Bytes.{Bytes}
use Rattle.syntax.specs.Rule.{Rule, rule_vars, rule_of}
use Rattle.rules.specs.Kind.{rule_kinds}

-- 11: "0 or above 256 bytes".
abbrev pub rule_limit : ℕ
rule_limit = 256

-- 12: ".. passes 32".
abbrev pub depth_limit : ℕ
depth_limit = 32

-- 15: "more than 8 variables".
abbrev pub choices_limit : ℕ
choices_limit = 8

-- 12: "the count of `(` less the count of `)` read so far, which may fall below zero, passes 32":
-- somewhere in s, where o brackets were opened and c closed before it. (The bytes 40 and 41 are `(` and `)`.)
unfoldable pub deep : ℕ → ℕ → Bytes → Bool
deep o c [] = false
deep o c (x ∷ s) = elim (eqb x 40) [ true ↦ ltb (c + depth_limit) (suc o) || deep (suc o) c s | false ↦ elim (eqb x 41) [ true ↦ deep o (suc c) s | false ↦ deep o c s ] ]

-- 14: "kinds do not fit"; 15: "more than 8 variables".
unfoldable pub tree_refusal : Rule → Option Refusal
tree_refusal ρ = elim (rule_kinds ρ) [ false ↦ some KindMismatch | true ↦ elim (leb (length (rule_vars [] ρ)) choices_limit) [ false ↦ some Choices | true ↦ none ] ]

-- "Rules are checked 11 to 15 in order": the first refusal, none where the text is accepted.
unfoldable pub refusal : Bytes → Option Refusal
refusal s =
    elim (ltb 0 (length s) && leb (length s) rule_limit) [
      | false ↦ some RuleLength
      | true ↦ elim (deep 0 0 s) [ true ↦ some Deep | false ↦ elim (rule_of s) [ none ↦ some NotARule | some ρ ↦ tree_refusal ρ ] ]
    ]

-- "a rule [is accepted] when none of 11 to 15 [refuses]"
abbrev pub is_none : Option Refusal → Bool
is_none none = true
is_none (some r) = false

abbrev pub accepted : Bytes → Bool
accepted s = is_none (refusal s)
