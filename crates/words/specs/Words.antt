-- Sets as words: bit i of a word stands for item i (document 01, "Tables"). Everything is said by bits.
-- Assumes nothing.
use Rattle.std.specs.Prelude.{◌≡◌, Bool, true, false, ◌&&◌, ◌||◌, not, List, ℕ, zero, suc, ◌+◌, ◌/◌, ◌%◌, ◌^◌, ◌≤◌, ◌<◌, eqb, ltb, get_or}

-- Item i is in the word.
unfoldable pub has : ℕ → ℕ → Bool
has w i = eqb (w / 2 ^ i % 2) 1

-- n where the test holds, else 0.
abbrev pub gate : Bool → ℕ → ℕ
gate true n = n
gate false n = 0

-- The word of the items below n of which f holds.
unfoldable pub word_of : ℕ → (ℕ → Bool) → ℕ
word_of zero f = 0
word_of (suc n) f = word_of n f + gate (f n) (2 ^ n)

-- f holds of some number below n.
unfoldable pub any_to : ℕ → (ℕ → Bool) → Bool
any_to zero f = false
any_to (suc n) f = any_to n f || f n

-- How many numbers below n have f.
unfoldable pub count_to : ℕ → (ℕ → Bool) → ℕ
count_to zero f = 0
count_to (suc n) f = count_to n f + gate (f n) 1

-- "it is the number of items in the set"
unfoldable pub size_of : ℕ → ℕ
size_of w = count_to 64 (has w)

-- r is the smallest item of w, or 64 where w has none.
pub record Lowest (w r : ℕ) : Type 0 where
  pub within : r ≤ 64
  pub least : (i : ℕ) → i < r → has w i ≡ false
  pub found : r < 64 → has w r ≡ true

-- The items 0 to n - 1; the one item i (none where i is no item of a word).
unfoldable pub all_of : ℕ → ℕ
all_of n = word_of 64 (λ i. ltb i n)

unfoldable pub item_of : ℕ → ℕ
item_of x = word_of 64 (λ i. eqb i x)

-- Intersection, union, and the items of the first that are not in the second.
unfoldable pub meet_of : ℕ → ℕ → ℕ
meet_of a b = word_of 64 (λ i. has a i && has b i)

unfoldable pub join_of : ℕ → ℕ → ℕ
join_of a b = word_of 64 (λ i. has a i || has b i)

unfoldable pub less_of : ℕ → ℕ → ℕ
less_of a b = word_of 64 (λ i. has a i && not (has b i))

-- The union of the rows of the items of w.
unfoldable pub image_of : List ℕ → ℕ → ℕ
image_of rows w = word_of 64 (λ x. any_to 64 (λ i. has w i && has (get_or rows i 0) x))

-- The items whose row meets w.
unfoldable pub preimage_of : List ℕ → ℕ → ℕ
preimage_of rows w = word_of 64 (λ i. any_to 64 (λ x. has (get_or rows i 0) x && has w x))
