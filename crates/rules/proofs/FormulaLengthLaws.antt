-- The length of a formula is that of its quantifiers and of its rule.
-- Assumes nothing.
use mathlib.Core.Path.{◌≡◌, refl, ◌∙◌}
use mathlib.Core.List.{List, [], ◌∷◌}
use Prim.Native.Nat.{ℕ, suc, ◌+◌, ◌<◌, ◌≤◌}
use native.Mathlib.Numerals.{add-one}
use native.Mathlib.Omega.{arith}
use lib.ListN.{length, get_or, drop, length-append, drop_of_length-le}
use lib.Seq.{drop-cons}
use Rattle.syntax.specs.Term.{Choices}
use Rattle.syntax.specs.Rule.{Rule, rule_text, rule_vars, quantifiers, formula_with, formula}
use Rattle.syntax.specs.Code.Arena.{HoldsAll, HoldsRule}
use Rattle.syntax.specs.Code.Reading.{mk, Knows}
use Rattle.rules.specs.Code.Thing.{term, rule}
use Rattle.rules.specs.Code.Lengths.{length_cap, capped, Measured, quantifier_length, FormulaLength}

-- The lengths of the quantifiers, which are capped one by one, against those of their texts.
quantifiers-length : (ns ls : List ℕ) (n : ℕ) (τ : Choices) → Measured ns τ n ls → (vs : List ℕ) (d : ℕ) (xs : Choices) → HoldsAll ns vs xs → ((i : ℕ) → i < length vs → get_or vs i 0 < n) → capped (quantifier_length ls vs) ≡ capped (length (quantifiers τ d xs))
unfolding quantifier_length quantifiers
quantifiers-length ns ls n τ m [] d [] y b = refl
quantifiers-length ns ls n τ m [] d (x ∷ xs) y b = absurd y
quantifiers-length ns ls n τ m (v ∷ vs) d [] y b = absurd y
quantifiers-length ns ls n τ m (v ∷ vs) d (x ∷ xs) y b =
    simp length-append
    (omega (arith, m.at v (term x) (b 0 (omega arith)) y.0, quantifiers-length ns ls n τ m vs (suc d) xs y.1 (λ i h. b (suc i) (omega arith))))

capped-sum : (r q a b : ℕ) → r ≡ capped a → capped q ≡ capped b → capped (1 + capped r + q) ≡ capped (b + (1 + a))
capped-sum r q a b e f = omega arith

capped_small : (t q l : ℕ) → t ≤ length_cap → q ≡ 0 → capped (t + q) ≡ l → t ≡ l
capped_small t q l h e f = omega arith

-- A loop has added the first i quantifiers to the rule's length.
pub record Totalled (ls vs : List ℕ) (root i t : ℕ) : Type 0 where
  pub small : t ≤ length_cap
  pub is : capped (t + quantifier_length ls (drop i vs)) ≡ capped (1 + capped (get_or ls root 0) + quantifier_length ls vs)

module _ {ls vs : List ℕ} {root i t : ℕ} (w : Totalled ls vs root i t) where
  pub totalled-next : {l u : ℕ} → i < length vs → l ≡ capped (get_or ls (get_or vs i 0) 0) → u ≡ capped (t + 5 + l) → Totalled ls vs root (i + 1) u
  unfolding quantifier_length
  totalled-next {l} {u} h e f =
      let q : quantifier_length ls (drop i vs) ≡ 5 + capped (get_or ls (get_or vs i 0) 0) + quantifier_length ls (drop (i + 1) vs) = rw (drop-cons vs i 0 h, add-one) in
      record { small = omega arith; is = omega (arith, w.is, w.small) }

  pub totalled-all : length vs ≤ i → FormulaLength ls vs root t
  unfolding quantifier_length formula formula_with
  totalled-all h =
      let q : quantifier_length ls (drop i vs) ≡ 0 = rw (drop_of_length-le vs h) in
      record { is = λ ns n ρ l x c m. go ns n ρ l x c m q }
    where
      go : (ns : List ℕ) (n : ℕ) (ρ : Rule) → root < n → HoldsRule ns root ρ → Knows (mk ns n) vs (rule_vars [] ρ) → Measured ns (rule_vars [] ρ) n ls → quantifier_length ls (drop i vs) ≡ 0 → t ≡ capped (length (formula ρ))
      go ns n ρ l x c m q =
          let σ : Choices = rule_vars [] ρ in
          capped_small t (quantifier_length ls (drop i vs)) (capped (1 + capped (get_or ls root 0) + quantifier_length ls vs)) w.small q w.is
          ∙ capped-sum (get_or ls root 0) (quantifier_length ls vs) (length (rule_text σ ρ)) (length (quantifiers σ 49 σ)) (m.at root (rule ρ) l x)
          (quantifiers-length ns ls n σ m vs 49 σ c.holds c.below)
          ∙ simp length-append (refl)
