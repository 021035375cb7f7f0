-- Internal: choices among the first m items, whatever the sorts; the walk counts these with m 64, the items that a word can have.
-- Assumes nothing.
use Rattle.std.specs.Prelude.{◌≡◌, true, List, [], ◌∷◌, ℕ, ◌<◌, length, get_or, set}
use Rattle.words.specs.Words.{gate, has}
use Rattle.walks.specs.Choices.{Items, Sets, sum_to, variables, full_on}
use Rattle.walks.specs.Order.{count}
use Rattle.walks.specs.Meaning.{Every}

-- g added over all ways to give each variable of the list one item below m.
unfoldable pub total_among : ℕ → List ℕ → (List ℕ → ℕ) → List ℕ → ℕ
total_among m [] g c = g c
total_among m (v ∷ vs) g c = sum_to m (λ x. total_among m vs g (set c v x))

-- The full choices among m items each.
unfoldable pub count_among : ℕ → Sets → (List ℕ → ℕ) → ℕ → List ℕ → ℕ
count_among m s g n base = total_among m (variables n) (λ c. gate (full_on s (variables n) c) (g c)) base

-- c is base with an item below m at each of the variables.
pub record ChoiceAmong (m : ℕ) (vs base c : List ℕ) : Type 0 where
  pub long : length c ≡ length base
  pub items : Every (λ v. get_or c v 0 < m) vs
  pub rest : (u : ℕ) → count u vs ≡ 0 → get_or c u 0 ≡ get_or base u 0

-- Under a full choice of n variables each has one of its own items, and these are among the 64 of a word.
pub record Within (items : Items) (s : Sets) (n : ℕ) : Type 0 where
  pub full : (c : List ℕ) → full_on s (variables n) c ≡ true → (v : ℕ) → v < n → has (items v) (get_or c v 0) ≡ true
  pub few : (v x : ℕ) → has (items v) x ≡ true → x < 64
