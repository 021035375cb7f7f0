-- `judging::planning::by_clauses` meets its contract. The invariant: the word has those of the first i clauses above level d.
-- Assumes nothing.
use mathlib.Core.Path.{◌≡◌, ◌∙◌}
use mathlib.Core.List.{List}
use mathlib.Core.Logic.{⊎_elim}
use Prim.Native.Nat.{ℕ, ◌+◌, ◌<◌, ◌≤◌, ◌^◌}
use native.Mathlib.Nat.{eq-or-lt_of_le}
use native.Mathlib.Omega.{arith}
use lib.ListN.{get_or, drop}
use lib.Seq.{get_or-drop}
use Rattle.words.specs.Words.{has}
use Rattle.values.specs.Code.Plan.{levels_from}
use Rattle.judging.proofs.PlanningLaws.{joined-left, joined-right, joined_small}
use Rattle.judging.proofs.planning.by_clauses.Goals as goal
use Rattle.judging.proofs.planning.by_clauses.Goals.{then-d-plan, else-d-plan}

pub loop-i-preserved : goal.loop-i-preserved
loop-i-preserved c =
    let P : List ℕ = c.args.plan.now in
    let w : ℕ = get_or c.args.scopes.now c.loop-i.i 0 in
    let level : get_or (drop levels_from P) c.loop-i.i 0 ≡ get_or P (levels_from + c.loop-i.i) 0 = get_or-drop levels_from P c.loop-i.i 0 in
    elim c.if-d-plan.branch [
      | then-d-plan h ↦
          let fit : w < 2 ^ 64 = omega (arith, c.type_inv.scopes c.loop-i.i) in
          let e = h.found-is ∙ h.join-found.ensures in (
            joined_small c.loop-i.found w c.if-d-plan.found e,
            λ j b l k.
                let at_most : j ≤ c.loop-i.i = omega arith in
                ⊎_elim
                (λ (q : j ≡ c.loop-i.i). rw q (joined-right c.loop-i.found w c.if-d-plan.found e fit))
                (λ (q : j < c.loop-i.i). joined-left c.loop-i.found w c.if-d-plan.found (has (get_or c.args.scopes.now j 0)) e c.loop-i.invariant.0 (c.loop-i.invariant.1 j b q k))
                (eq-or-lt_of_le at_most),
          )
      | else-d-plan h ↦ (
        rw h.found-is c.loop-i.invariant.0,
        λ j b l k.
            let at_most : j ≤ c.loop-i.i = omega arith in
            ⊎_elim
            (λ (q : j ≡ c.loop-i.i). let high : c.args.d < get_or (drop levels_from P) c.loop-i.i 0 = rw q at k in absurd (omega (arith, h.if-d-plan.false, level)))
            (λ (q : j < c.loop-i.i). rw h.found-is (c.loop-i.invariant.1 j b q k))
            (eq-or-lt_of_le at_most),
      )
    ]
