-- `judging::counting::entered` meets its contract. The invariant: the levels below this one were entered.
-- Assumes nothing.
use mathlib.Core.Path.{◌≡◌}
use Prim.Native.Nat.{◌<◌}
use lib.ListN.{length, drop}
use Rattle.tables.specs.Tables.{Tables}
use Rattle.syntax.specs.Rule.{Rule}
use Rattle.walks.specs.Code.Clauses.{ModeIs}
use Rattle.walks.specs.Code.Kept.{choice_of}
use Rattle.values.specs.Code.Plan.{levels_from}
use Rattle.values.proofs.ClausesLaws.{clauses_of}
use Rattle.judging.specs.Code.Planning.{Layout, Planned, Caches}
use Rattle.judging.proofs.counting.entered.Given as goal

abbrev pub invariant-loop-level : goal.invariant-loop-level
invariant-loop-level l = (l.mode < 2) × (length l.cache ≡ length l.initial.cache)
    × ((y : Layout) (T : Tables) (ρ : Rule) → Planned l.t l.plan y T ρ → Caches l.t y l.choice l.cache l.level × ModeIs (clauses_of T ρ) (drop levels_from l.plan) l.mode l.level (choice_of l.choice))
