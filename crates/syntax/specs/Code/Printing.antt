-- How a formula is printed and read: each quantifier with the choices before it. `Closed.formula-in` says that this is the formula.
-- Internal: contracts of entry points do not speak of it. Assumes nothing.
use Rattle.std.specs.Prelude.{[], ◌∷◌, ◌++◌, ◌+◌, length}
use Rattle.syntax.specs.Bytes.{Bytes, ascii}
use Rattle.syntax.specs.Term.{Choices, text}
use Rattle.syntax.specs.Rule.{Rule, rule_text, rule_vars}

-- The quantifiers of the choices xs, which come after those of σ. Each names only choices before it.
unfoldable pub quantifiers_after : Choices → Choices → Bytes
quantifiers_after σ [] = []
quantifiers_after σ (x ∷ xs) = ascii "[v" ++ ((49 + length σ) ∷ (ascii "@" ++ (text σ x ++ (ascii "]" ++ quantifiers_after (σ ++ (x ∷ [])) xs))))

unfoldable pub printed : Rule → Bytes
printed ρ = quantifiers_after [] (rule_vars [] ρ) ++ (ascii ":" ++ rule_text (rule_vars [] ρ) ρ)
