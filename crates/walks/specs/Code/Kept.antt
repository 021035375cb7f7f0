-- Counts that are kept, each with the choice that it was counted under, as flat lists of numbers.
-- Internal: contracts of entry points do not speak of it. Assumes nothing.
use Rattle.std.specs.Prelude.{◌≡◌, true, List, [], ◌∷◌, ◌⊎◌, ℕ, zero, suc, ◌+◌, ◌-◌, ◌*◌, ◌/◌, ◌%◌, ◌^◌, ◌<◌, length, get_or, set, drop}
use Rattle.words.specs.Words.{has, join_of, less_of}
use Rattle.walks.specs.Choices.{Sets, each}
use Rattle.walks.specs.Walk.{walk}
use Rattle.walks.specs.Code.Clauses.{Clauses, weight_of}
use Rattle.walks.specs.Code.Context.{Alike}

-- The choice that a word has, its lowest byte the item of the variable 0.
unfoldable pub bytes_from : ℕ → ℕ → List ℕ
bytes_from zero w = []
bytes_from (suc n) w = w % 256 ∷ bytes_from n (w / 256)

abbrev pub choice_of : ℕ → List ℕ
choice_of w = bytes_from 8 w

-- The mask has all the bits of the bytes of those variables: of the first n, and of all.
abbrev pub MasksTo : ℕ → ℕ → ℕ → Type 0
MasksTo n word mask = (u i : ℕ) → u < n → i < 8 → has word u ≡ true → has mask (8 * u + i) ≡ true

abbrev pub Masks : ℕ → ℕ → Type 0
Masks word mask = MasksTo 8 word mask

-- The word of a choice with x put at the variable v.
abbrev pub put_in : ℕ → ℕ → ℕ → ℕ
put_in w v x = join_of (less_of w (255 * 2 ^ (8 * v))) (x * 2 ^ (8 * v))

-- The two counts below a choice of the first d variables of the order, in a mode.
pub record Counted (s : Sets) (K : Clauses) (levels order : List ℕ) (mode d : ℕ) (c : List ℕ) (full breaking : ℕ) : Type 0 where
  pub fulls : full ≡ walk 64 s each (drop d order) c
  pub breakings : breaking ≡ walk 64 s (weight_of K levels mode (d + 1)) (drop d order) c

-- What is kept of a full count is one more than it, so that a slot of zeros is one that was not written.
abbrev pub unwritten : ℕ
unwritten = 0

-- A slot for each of 8 depths and 2 modes, and as many for each item.
abbrev pub slot_at : ℕ → ℕ → ℕ → ℕ
slot_at mode d i = 16 * i + (8 * mode + d)

-- Three numbers for each slot: full and 1, breaking, and the choice as one word. What is written is right for every choice that agrees with the
-- slot's own at the context.
pub record KeptRight (s : Sets) (K : Clauses) (levels order contexts kept : List ℕ) : Type 0 where
  pub right : (k : ℕ) → 3 * k + 2 < length kept → (get_or kept (3 * k) 0 ≡ unwritten → ⊥)
      → (c : List ℕ) → length c ≡ 8 → Alike (get_or contexts (k % 16) 0) (choice_of (get_or kept (3 * k + 2) 0)) c
      → Counted s K levels order (k % 16 / 8) (k % 8) c (get_or kept (3 * k) 0 - 1) (get_or kept (3 * k + 1) 0)

-- The first n numbers are those of slots that were not written.
abbrev pub Unwritten : ℕ → List ℕ → Type 0
Unwritten n kept = (j : ℕ) → j < n → get_or kept j 0 ≡ unwritten

-- The slot's entry was written, under that key, and has those counts.
pub record Found (kept : List ℕ) (k key full breaking : ℕ) : Type 0 where
  pub fits : 3 * k + 2 < length kept
  pub there : get_or kept (3 * k) 0 ≡ unwritten → ⊥
  pub under : get_or kept (3 * k + 2) 0 ≡ key
  pub fulls : full ≡ get_or kept (3 * k) 0 - 1
  pub breakings : breaking ≡ get_or kept (3 * k + 1) 0

-- An entry is written.
abbrev pub written : List ℕ → ℕ → ℕ → ℕ → ℕ → List ℕ
written kept k full breaking choice = set (set (set kept (3 * k) (full + 1)) (3 * k + 1) breaking) (3 * k + 2) choice

-- So it is, where the slot is one of those that there are; otherwise nothing is.
abbrev pub Keeping : List ℕ → List ℕ → ℕ → ℕ → ℕ → ℕ → Type 0
Keeping old new k full breaking choice = (new ≡ old) ⊎ ((3 * k + 2 < length old) × (new ≡ written old k full breaking choice))
