-- `tables::sections::name_permissions`: the permissions below p are named.
-- Assumes nothing.
use Prim.Native.Nat.{◌≤◌}
use mathlib.Core.Path.{◌≡◌}
use Rattle.tables.specs.Code.Reads.{with_names}
use Rattle.tables.specs.Code.Layout.{Whole}
use Rattle.tables.proofs.sections.name_permissions.Given as goal

abbrev pub invariant-loop-p : goal.invariant-loop-p
invariant-loop-p l = (l.p ≤ l.n) × (l.words ≡ with_names l.initial.words l.p l.objects) × (Whole l.words)
