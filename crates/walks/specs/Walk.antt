-- Document 01, "Verdict": "Judging walks the choices variable by variable, the last in the order fastest, smallest item first."
-- Assumes nothing.
use Rattle.std.specs.Prelude.{Bool, true, false, List, [], ◌∷◌, ℕ, zero, suc, set}
use Rattle.std.proofs.Math.Option.{Option, none, some}
use Rattle.words.specs.Words.{gate}
use Rattle.walks.specs.Choices.{Sets, sum_to, nothing_chosen}

-- What the walk along an order adds up: only items of the next variable's set are tried, under what is chosen so far.
unfoldable pub walk : ℕ → Sets → (List ℕ → ℕ) → List ℕ → List ℕ → ℕ
walk m s g [] c = g c
walk m s g (v ∷ vs) c = sum_to m (λ x. gate (s v c x) (walk m s g vs (set c v x)))

abbrev pub or_else : Option (List ℕ) → Option (List ℕ) → Option (List ℕ)
or_else (some a) b = some a
or_else none b = b

abbrev pub gate_o : Bool → Option (List ℕ) → Option (List ℕ)
gate_o true o = o
gate_o false o = none

-- The first of f 0, f 1, .., f (k - 1) that is there.
unfoldable pub first_to : ℕ → (ℕ → Option (List ℕ)) → Option (List ℕ)
first_to zero f = none
first_to (suc k) f = or_else (first_to k f) (f k)

-- "the first breaking choice in that order", if there is one.
unfoldable pub walk_first : ℕ → Sets → (List ℕ → Bool) → List ℕ → List ℕ → Option (List ℕ)
walk_first m s b [] c = gate_o (b c) (some c)
walk_first m s b (v ∷ vs) c = first_to m (λ x. gate_o (s v c x) (walk_first m s b vs (set c v x)))

-- "8 bytes by variable number, 255 where unused or none"
abbrev pub choice_bytes : Option (List ℕ) → List ℕ
choice_bytes none = nothing_chosen
choice_bytes (some c) = c
