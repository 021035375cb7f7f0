-- Internal: what the tally of judging says.
-- Assumes nothing.
use Rattle.std.specs.Prelude.{◌≡◌, Bool, List, ℕ}
use Rattle.std.proofs.Math.Option.{Option}
use Rattle.walks.specs.Choices.{Sets, each, if_breaks}
use Rattle.walks.specs.Walk.{walk, walk_first, choice_bytes}
use Rattle.walks.specs.declared.Tally.{Tally}

-- r carries these two counts and this first breaking choice.
pub record Says (full breaking : ℕ) (first : Option (List ℕ)) (r : Tally) : Type 0 where
  pub fulls : r.full ≡ full
  pub breakings : r.breaking ≡ breaking
  pub firsts : r.first ≡ choice_bytes first

-- r is what the walk along vs from the choice c gives.
abbrev pub Walked : Sets → (List ℕ → Bool) → List ℕ → List ℕ → Tally → Type 0
Walked s b vs c r = Says (walk 64 s each vs c) (walk 64 s (if_breaks b) vs c) (walk_first 64 s b vs c) r
