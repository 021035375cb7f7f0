-- `values::levels::level` meets its contract: what is tested are variables of the order, from the last on.
-- Assumes nothing.
use mathlib.Core.List.{List}
use Prim.Native.Nat.{ℕ, ◌-◌, ◌<◌}
use native.Mathlib.Omega.{arith}
use lib.ListN.{length}
use borrow.Author.Rules.{rules}
use Rattle.std.proofs.lemmas.Grind.{get_or_default_zero}
use Rattle.std.proofs.lemmas.Iterator.Adapters.{serves_from_places}
use Rattle.std.proofs.lemmas.List.{get_or-reverse, length-reverse}
use Rattle.values.proofs.LevelLaws.{from-the-back}
use Rattle.values.proofs.levels.level.Goals as goal

pub rposition-requires-clause-callable : goal.rposition-requires-clause-callable
rposition-requires-clause-callable c =
    let O : List ℕ = c.args.order.now in
    serves_from_places (from-the-back O cc) (λ x q k. search rules) (λ x k l e p r n same f g t.
    let m : k < length O = omega (arith, l, length-reverse O) in
    let h : length O - 1 - k < length O = omega arith in
    omega (arith, c.requires.1 (length O - 1 - k) h, get_or-reverse O k x.now m, get_or_default_zero O (length O - 1 - k) x.now h))
