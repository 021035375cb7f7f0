-- `values::plan::chosen` meets its contract.
-- Assumes nothing.
use mathlib.Core.Path.{sym}
use Prim.Native.Nat.{◌≤◌}
use native.Mathlib.Omega.{arith}
use lib.ListN.{length, get_or-eq_default}
use Rattle.walks.specs.Code.Kept.{choice_of}
use Rattle.walks.proofs.BytesLaws.{bytes-length}
use Rattle.values.proofs.plan.chosen.Goals as goal

pub returns-else-u-lt8 : goal.returns-else-u-lt8
returns-else-u-lt8 c = let l : length (choice_of c.args.choice) ≤ c.args.u = omega (arith, bytes-length 8 c.args.choice, c.if-u-lt8.false) in sym (get_or-eq_default (choice_of c.args.choice) 0 l)
