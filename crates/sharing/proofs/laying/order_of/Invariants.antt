-- `sharing::laying::order_of` meets its contract. The invariant: the first d variables are there.
-- Assumes nothing.
use mathlib.Core.Path.{◌≡◌}
use Prim.Native.Nat.{ℕ, ◌+◌, ◌<◌}
use lib.ListN.{length, get_or}
use Rattle.judging.specs.Code.Planning.{order_from}
use Rattle.sharing.proofs.laying.order_of.Given as goal

abbrev pub invariant-loop-d : goal.invariant-loop-d
invariant-loop-d l = (length l.order ≡ 8) × ((e : ℕ) → e < l.d → get_or l.order e 0 ≡ get_or l.plan (order_from + e) 0)
