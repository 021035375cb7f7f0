-- What the laws of the walk say, in plain propositions: an order, a choice, the first breaking choice.
-- Assumes nothing.
use Rattle.std.specs.Prelude.{◌≡◌, Bool, true, false, List, [], ◌∷◌, ◌⊎◌, ℕ, ◌<◌, ◌≤◌, length, get_or}
use Rattle.std.proofs.Math.Option.{Option, none, some}
use Rattle.words.specs.Words.{has}
use Rattle.walks.specs.Choices.{Items, Sets, variables, full_on}
use Rattle.walks.specs.Order.{count}

-- P of each member.
abbrev pub Every : (ℕ → Type 0) → List ℕ → Type 0
Every P [] = Unit {0}
Every P (v ∷ vs) = P v × Every P vs

-- The list has each of the n variables once, and nothing else.
abbrev pub Once : ℕ → List ℕ → Type 0
Once n vs = (u : ℕ) → (u < n → count u vs ≡ 1) × (n ≤ u → count u vs ≡ 0)

-- Each variable comes after those that its set names: it names neither itself nor a later one.
abbrev pub After : (ℕ → ℕ → Bool) → List ℕ → Type 0
After names [] = Unit {0}
After names (v ∷ vs) = Every (λ w. names v w ≡ false) (v ∷ vs) × After names vs

-- "An order lists the variable numbers, .. once each, every variable after those its set names."
pub record Admissible (names : ℕ → ℕ → Bool) (n : ℕ) (vs : List ℕ) : Type 0 where
  pub once : Once n vs
  pub after : After names vs

-- The set of a variable reads a choice only at the variables that it names.
abbrev pub Reads : Sets → (ℕ → ℕ → Bool) → Type 0
Reads s names = (v : ℕ) (c d : List ℕ) → ((u : ℕ) → names v u ≡ true → get_or c u 0 ≡ get_or d u 0) → (x : ℕ) → s v c x ≡ s v d x

-- e comes no later than d in the walk along the order: the first variable in which they differ decides, by the smaller item.
abbrev pub NoLater : List ℕ → List ℕ → List ℕ → Type 0
NoLater [] e d = Unit {0}
NoLater (v ∷ vs) e d = (get_or e v 0 < get_or d v 0) ⊎ ((get_or e v 0 ≡ get_or d v 0) × NoLater vs e d)

-- "A choice gives each variable one item of its sort": c is base with an item of each of the variables.
pub record Choice (items : Items) (vs base c : List ℕ) : Type 0 where
  pub long : length c ≡ length base
  pub chosen : Every (λ v. has (items v) (get_or c v 0) ≡ true) vs
  pub rest : (u : ℕ) → count u vs ≡ 0 → get_or c u 0 ≡ get_or base u 0

-- "the first breaking choice in that order": a choice of n variables, full and breaking, and no such choice comes earlier.
pub record FirstBreaking (items : Items) (n : ℕ) (s : Sets) (b : List ℕ → Bool) (order base d : List ℕ) : Type 0 where
  pub choice : Choice items (variables n) base d
  pub full : full_on s (variables n) d ≡ true
  pub breaks : b d ≡ true
  pub least : (e : List ℕ) → Choice items (variables n) base e → full_on s (variables n) e ≡ true → b e ≡ true → NoLater order d e

-- Something was found.
abbrev pub there : Option (List ℕ) → Bool
there none = false
there (some c) = true
