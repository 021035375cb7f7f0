-- A loop over the items of a word, from the lowest up: the sum so far, what is left of the word, and the least item that counts.
-- Internal: contracts of entry points do not speak of it. Assumes nothing.
use Rattle.std.specs.Prelude.{◌≡◌, true, false, ℕ, ◌+◌, ◌<◌, ◌^◌}
use Rattle.words.specs.Words.{has}
use Rattle.walks.specs.Choices.{sum_over}

-- The items of w but those of rest are added.
pub record Summed (w : ℕ) (f : ℕ → ℕ) (rest sum : ℕ) : Type 0 where
  pub small : rest < 2 ^ 64
  pub inside : (x : ℕ) → x < 64 → has rest x ≡ true → has w x ≡ true
  pub sums : sum + sum_over rest f ≡ sum_over w f

-- x is the least item of w that counts.
pub record Least (w : ℕ) (f : ℕ → ℕ) (x : ℕ) : Type 0 where
  pub item : x < 64
  pub inside : has w x ≡ true
  pub counts : 0 < f x
  pub before : (y : ℕ) → y < x → has w y ≡ true → f y ≡ 0

-- The items of w but those of rest were looked at: none counts, or x is the least that does.
pub record Sought (w : ℕ) (f : ℕ → ℕ) (rest sum x : ℕ) : Type 0 where
  pub none : sum ≡ 0 → (y : ℕ) → y < 64 → has w y ≡ true → has rest y ≡ false → f y ≡ 0
  pub least : 0 < sum → Least w f x
