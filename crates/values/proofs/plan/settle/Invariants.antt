-- `values::plan::settle` meets its contract. The invariant: of the level the cache has the nodes below k.
-- Assumes nothing.
use mathlib.Core.Path.{◌≡◌}
use mathlib.Core.List.{List}
use Prim.Native.Nat.{ℕ, ◌-◌}
use lib.ListN.{length}
use Rattle.walks.specs.Code.Kept.{choice_of}
use Rattle.values.specs.Code.Levels.{Levels}
use Rattle.values.specs.Code.Cache.{Stored}
use Rattle.values.specs.Code.Plan.{NodesIn}
use Rattle.values.proofs.SettleLaws.{Partly}
use Rattle.values.proofs.plan.settle.Given as goal

abbrev pub invariant-loop-k : goal.invariant-loop-k
invariant-loop-k l = (length l.cache ≡ length l.initial.cache) × ((ns : List ℕ) (m : ℕ) (ks vs order levels : List ℕ) → NodesIn l.plan ns m ks vs levels → Levels ns m vs order levels
    → Stored l.t ns m ks vs (choice_of l.choice) l.initial.cache levels l.level → Partly l.t ns m ks vs (choice_of l.choice) l.cache levels l.level l.k)

abbrev pub decreases-loop-k : goal.decreases-loop-k
decreases-loop-k l = l.n - l.k
