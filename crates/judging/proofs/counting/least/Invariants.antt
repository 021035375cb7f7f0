-- `judging::counting::least` meets its contract. The invariant: below the items but those of rest nothing breaks, and the cache and what is
-- kept are right. Assumes nothing.
use mathlib.Core.Path.{◌≡◌}
use Prim.Native.Nat.{◌+◌, ◌<◌, ◌^◌}
use lib.ListN.{length}
use Rattle.tables.specs.Tables.{Tables}
use Rattle.syntax.specs.Rule.{Rule}
use Rattle.judging.specs.Code.Planning.{Layout, Planned, Caches, Keeps}
use Rattle.judging.proofs.DescendLaws.{Seeking, breaks_below}
use Rattle.judging.proofs.counting.least.Given as goal

abbrev pub invariant-loop-rest : goal.invariant-loop-rest
invariant-loop-rest l = (length l.cache ≡ length l.initial.cache) × (length l.kept ≡ length l.initial.kept) × (l.rest < 2 ^ 64) × ((y : Layout) (T : Tables) (ρ : Rule) → (P : Planned l.t l.plan y T ρ)
    → Caches l.t y l.choice l.initial.cache (l.d + 1) → Keeps l.plan y T ρ l.initial.kept → Seeking l.initial.rest (breaks_below P l.mode l.d l.choice) l.rest × Caches l.t y l.choice l.cache (l.d + 1) × Keeps l.plan y T ρ l.kept)

abbrev pub decreases-loop-rest : goal.decreases-loop-rest
decreases-loop-rest l = l.rest
