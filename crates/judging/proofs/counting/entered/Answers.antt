-- `judging::counting::entered` meets its contract. The invariant: the levels below this one were entered.
-- Assumes nothing.
use mathlib.Core.Path.{◌≡◌, refl, ◌∙◌}
use native.Mathlib.Omega.{arith}
use lib.ListN.{drop}
use Rattle.walks.specs.Code.Kept.{choice_of}
use Rattle.walks.proofs.ClauseLaws.{mode-start}
use Rattle.values.specs.Code.Plan.{levels_from}
use Rattle.values.proofs.ClausesLaws.{clauses_of}
use Rattle.judging.proofs.DescendLaws.{caches-none, mode-next}
use Rattle.judging.proofs.counting.entered.Goals as goal

pub loop-level-init : goal.loop-level-init
loop-level-init c =
    (omega arith, refl, λ y T ρ P. (caches-none P c.args.choice c.requires.2, mode-start (clauses_of T ρ) (drop levels_from c.args.plan.now) (choice_of c.args.choice)))

pub loop-level-preserved : goal.loop-level-preserved
loop-level-preserved c = (
  c.enter-mode.ensures.modes,
  c.enter-mode.ensures.room ∙ c.loop-level.invariant.1,
  λ y T ρ P. let r = c.loop-level.invariant.2 y T ρ P in let e = c.enter-mode.ensures.goes y T ρ P r.0 in (e.0, mode-next P e.1 r.1),
)

pub returns-2 : goal.returns-2
returns-2 c =
    let all : c.loop-level.level ≡ c.args.d = omega (arith, c.loop-level-test.true) in record {
      modes = c.enter-mode.ensures.modes;
      room = c.enter-mode.ensures.room ∙ c.loop-level.invariant.1;
      goes = λ y T ρ P. let r = c.loop-level.invariant.2 y T ρ P in let e = c.enter-mode.ensures.goes y T ρ P r.0 in rw (← all) (e.0, mode-next P e.1 r.1);
    }
