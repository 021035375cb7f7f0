-- `judging::planning::by_sets` meets its contract. The invariant: the word has those of the variables that were passed.
-- Assumes nothing.
use mathlib.Core.Path.{◌≡◌, ◌∙◌}
use mathlib.Core.List.{◌∷◌, []}
use mathlib.Core.Logic.{⊎_elim}
use Prim.Native.Nat.{ℕ, ◌+◌, ◌<◌, ◌≤◌, ◌^◌}
use native.Mathlib.Nat.{eq-or-lt_of_le}
use native.Mathlib.Omega.{arith}
use lib.ListN.{length, get_or, drop}
use lib.Seq.{get_or-drop}
use Rattle.std.proofs.Common.{◌++◌, length-append}
use Rattle.std.proofs.lemmas.Grind.{get_or_default_zero}
use Rattle.std.proofs.lemmas.Iterator.{YieldsList-from_slice}
use Rattle.std.proofs.lemmas.Iterator.Adapters.{YieldsList-from_skip}
use Rattle.std.proofs.lemmas.Iterator.Consumers.{YieldsList-turn}
use Rattle.words.specs.Words.{has}
use Rattle.judging.proofs.PlanningLaws.{joined-left, joined-right, joined_small}
use Rattle.judging.proofs.planning.by_sets.Goals as goal

pub loop-v-preserved : goal.loop-v-preserved
loop-v-preserved c =
    let k : ℕ = length c.loop-v.yielded in
    let more : length (c.loop-v.yielded ++ c.in-Some.field-0 ∷ []) ≡ k + 1 = search (arith, length-append) in
    let turn = YieldsList-turn (YieldsList-from_skip c.args.d (YieldsList-from_slice c.args.order.now cc) cc) c.loop-v.yielded _ c.loop-v.yielded_by _ _ c.in-Some.field-0 c.in-Some.is c.next.ensures.steps in
    let at : c.in-Some.field-0.now ≡ get_or c.args.order.now (c.args.d + k) 0 = turn.1 ∙ get_or_default_zero (drop c.args.d c.args.order.now) k _ turn.0 ∙ get_or-drop c.args.d c.args.order.now k 0 in
    let w : ℕ = get_or c.args.names.now c.in-Some.field-0.now 0 in
    let fit : w < 2 ^ 64 = omega (arith, c.type_inv.names c.in-Some.field-0.now) in (
      joined_small c.loop-v.found w c.join-found.result c.join-found.ensures,
      λ i l.
          let at_most : i ≤ k = omega (arith, more) in
          ⊎_elim
          (λ (q : i ≡ k). rw (q, ← at) (joined-right c.loop-v.found w c.join-found.result c.join-found.ensures fit))
          (λ (q : i < k). joined-left c.loop-v.found w c.join-found.result (has (get_or c.args.names.now (get_or c.args.order.now (c.args.d + i) 0) 0)) c.join-found.ensures c.loop-v.invariant.0 (c.loop-v.invariant.1 i q))
          (eq-or-lt_of_le at_most),
    )
