-- `judging::walking::Guide::turn` meets its contract.
-- Assumes nothing.
use mathlib.Core.Path.{◌∙◌}
use native.Mathlib.Omega.{arith}
use Rattle.judging.proofs.WalkingLaws.{once-in, after-in}
use Rattle.judging.proofs.CountingLaws.{plan-runs}
use Rattle.judging.proofs.DescendLaws.{keeps-none, ready_on}
use Rattle.judging.proofs.walking.Guide.turn.Goals as goal

pub returns-then-self-d : goal.returns-then-self-d
returns-then-self-d c =
    record { small = c.requires.2.small; long = c.requires.2.long; room = c.requires.2.room; ready = λ T ρ C. ready_on (once-in c.requires.0 C) (after-in c.requires.0 C) c.requires.1 c.if-self-d.true (c.requires.2.ready T ρ C) }

pub entered-requires : goal.entered-requires
entered-requires c =
    (c.requires.0.lent.lent.ready.whole, plan-runs (c.lay.ensures.along c.requires.0.lent.lent.tables c.requires.0.lent.lent.rule c.requires.0.lent.lent.is_case).planned, c.requires.2.room, omega (arith, c.requires.1, c.requires.0.ordered.list.short))

pub returns : goal.returns
returns c =
    record {
      small = c.entered.ensures.modes;
      long = c.lay.ensures.long;
      room = c.entered.ensures.room ∙ c.requires.2.room;
      ready = λ T ρ C.
          let A = c.lay.ensures.along T ρ C in
          let e = c.entered.ensures.goes A.layout T ρ A.planned in
          record { along = A; stored = e.0; keeps = keeps-none A.planned _ (λ j l. c.clear.ensures.1 j (omega (arith, c.clear.ensures.0))); modes = e.1 };
    }
