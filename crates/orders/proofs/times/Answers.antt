-- `orders::times` meets its contract: the product fits.
-- Assumes nothing.
use Prim.Native.Nat.{◌≤◌}
use native.Mathlib.Nat.{mul-le-mul}
use native.Mathlib.Omega.{arith}
use Rattle.orders.specs.Code.Desk.{most}
use Rattle.orders.proofs.times.Goals as goal

pub overflow_mul-min : goal.overflow_mul-min
overflow_mul-min c =
    let few : c.min.result ≤ most = omega (arith, c.min.ensures) in
    let narrow : c.min-2.result ≤ 64 = omega (arith, c.min-2.ensures) in
    omega (arith, mul-le-mul few narrow)
