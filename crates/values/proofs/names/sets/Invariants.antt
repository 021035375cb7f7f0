-- `values::names::sets` meets its contract. The invariant: the words of the first v variables are right.
-- Assumes nothing.
use mathlib.Core.Path.{◌≡◌}
use mathlib.Core.List.{List}
use Prim.Native.Nat.{ℕ, ◌<◌}
use lib.ListN.{length, get_or}
use Rattle.syntax.specs.Term.{Choices}
use Rattle.rules.specs.Accept.{choices_limit}
use Rattle.values.specs.Code.Nodes.{NamesTo, Variables, Named}
use Rattle.values.proofs.names.sets.Given as goal

abbrev pub invariant-loop-v : goal.invariant-loop-v
invariant-loop-v l = (length l.words ≡ choices_limit) × ((ns : List ℕ) (n : ℕ) → NamesTo ns n l.vars l.found n → ((i : ℕ) → i < length l.vars → get_or l.vars i 0 < n) → (σ : Choices) → Variables ns n l.vars σ → Named l.v l.words σ)
