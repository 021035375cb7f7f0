-- `values::plan::holds_among` meets its contract. The invariant: those of the level from `from` on, among the first i, hold.
-- Assumes nothing.
use mathlib.Core.Path.{◌≡◌, sym, ◌∙◌}
use mathlib.Core.List.{List, []}
use Prim.Native.Nat.{ℕ, ◌+◌, ◌<◌}
use native.Mathlib.Omega.{arith}
use lib.ListN.{get_or, drop}
use lib.Seq.{get_or-drop}
use Rattle.syntax.specs.Rule.{rule_vars}
use Rattle.values.specs.Code.Clauses.{clause_count, clause_at}
use Rattle.values.specs.Code.Plan.{levels_from}
use Rattle.values.proofs.PlanLaws.{holds-start, holds-true, holds-false, holds-out}
use Rattle.values.proofs.plan.holds_among.Goals as goal
use Rattle.values.proofs.plan.holds_among.Goals.{then-plan-i+else-not-clause, else-plan-i}

pub loop-i-init : goal.loop-i-init
loop-i-init c =
    λ ns n ρ C T d K. holds-start T ρ (drop levels_from c.args.plan.now) c.args.level c.args.from d

pub returns-then-not-clause : goal.returns-then-not-clause
returns-then-not-clause c =
    λ ns n ρ C T d K.
    let i : ℕ = c.loop-i.i in
    let h : i < clause_count ρ = omega (arith, C.many, c.requires.3) in
    let P : List ℕ = c.args.plan.now in
    let at : get_or (drop levels_from P) i 0 ≡ get_or P (levels_from + i) 0 = get_or-drop levels_from P i 0 in
    holds-false T ρ (drop levels_from P) c.args.level c.args.from d c.args.to i (omega arith) c.clause.result (omega arith) (at ∙ c.if-plan-i.true)
    (c.clause.ensures ns n (clause_at ρ i) (C.each i h) T (rule_vars [] ρ) d (K i h (at ∙ c.if-plan-i.true))) c.if-not-clause.true

pub loop-i-preserved : goal.loop-i-preserved
loop-i-preserved c =
    λ ns n ρ C T d K.
    let i : ℕ = c.loop-i.i in
    let h : i < clause_count ρ = omega (arith, C.many, c.requires.3) in
    let P : List ℕ = c.args.plan.now in
    let at : get_or (drop levels_from P) i 0 ≡ get_or P (levels_from + i) 0 = get_or-drop levels_from P i 0 in
    let q = c.loop-i.invariant ns n ρ C T d K in
    elim c.if-plan-i.branch [
      | then-plan-i+else-not-clause w ↦ holds-true T ρ (drop levels_from P) c.args.level c.args.from d i q w.clause.result (omega arith) (at ∙ w.if-plan-i.true)
          (w.clause.ensures ns n (clause_at ρ i) (C.each i h) T (rule_vars [] ρ) d (K i h (at ∙ w.if-plan-i.true))) w.if-not-clause.false
      | else-plan-i w ↦ holds-out T ρ (drop levels_from P) c.args.level c.args.from d i q (λ e. w.if-plan-i.false (sym at ∙ e))
    ]

pub returns : goal.returns
returns c =
    λ ns n ρ C T d K.
    let done : c.loop-i.i ≡ c.args.to = omega arith in
    rw (← done) (c.loop-i.invariant ns n ρ C T d K)
