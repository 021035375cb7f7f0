-- `values::plan::settle` meets its contract. The invariant: of the level the cache has the nodes below k.
-- Assumes nothing.
use mathlib.Core.Path.{◌∙◌}
use Prim.Native.Nat.{◌<◌}
use native.Mathlib.Omega.{arith}
use lib.ListN.{length-set}
use Rattle.values.proofs.SettleLaws.{partly-next, partly-all}
use Rattle.values.proofs.plan.settle.Goals as goal

pub loop-k-preserved : goal.loop-k-preserved
loop-k-preserved c = (
  length-set c.loop-k.cache c.loop-k.k c.step.result ∙ c.loop-k.invariant.0,
  λ ns m ks vs order levels N M S.
      let h : c.loop-k.k < m = omega (arith, N.many, c.loop-k-test.true) in
      rw (N.each c.loop-k.k h).goes
      (partly-next N.tidy M N.linked c.loop-k.k c.step.result h (omega (arith, N.many))
      (c.step.ensures ns m ks vs N.next c.loop-k.k N.tidy N.kinded h (N.each c.loop-k.k h)) (c.loop-k.invariant.1 ns m ks vs order levels N M S)),
)

pub returns : goal.returns
returns c =
    λ ns m ks vs order levels N M S. partly-all c.loop-k.k (omega (arith, N.many, c.loop-k-test.false)) (omega (arith, N.many, c.requires.1.few_nodes, c.requires.2, c.loop-k.invariant.0)) (c.loop-k.invariant.1 ns m ks vs order levels N M S)
