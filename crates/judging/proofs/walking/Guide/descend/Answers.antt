-- `judging::walking::Guide::descend` meets its contract. The invariant: the choice has the items of the first breaking choice that were found, and all is ready.
-- Assumes nothing.
use mathlib.Core.Path.{◌≡◌, ◌∙◌}
use Prim.Native.Nat.{◌+◌, ◌-◌}
use native.Mathlib.Omega.{arith}
use lib.ListN.{length}
use Rattle.judging.proofs.WalkingLaws.{once-in, after-in}
use Rattle.judging.proofs.DescendLaws.{runs-in, standing-in, ready-next, descending-next}
use Rattle.judging.proofs.walking.Guide.descend.Goals as goal

pub least-x-requires : goal.least-x-requires
least-x-requires c = (standing-in c.requires.0 c.turn-here.ensures _ (omega (arith, c.loop-depth-test.true)), omega (arith, c.loop-depth-test.true))

pub enter-at-requires : goal.enter-at-requires
enter-at-requires c =
    (c.requires.0.lent.lent.ready.whole, runs-in c.requires.0 c.turn-here.ensures, c.least-x.ensures.1.room ∙ c.turn-here.ensures.room, omega (arith, c.loop-depth-test.true, c.requires.0.ordered.list.short), c.turn-here.ensures.small)

pub loop-depth-preserved : goal.loop-depth-preserved
loop-depth-preserved c =
    let left : length c.args.walk.now.order.now - c.loop-depth.depth + c.loop-depth.depth ≡ length c.args.walk.now.order.now = omega (arith, c.loop-depth-test.true) in (
      record {
        small = c.enter-at.ensures.modes;
        long = c.turn-here.ensures.long;
        room = c.enter-at.ensures.room ∙ c.least-x.ensures.1.room ∙ c.turn-here.ensures.room;
        ready = λ T ρ C. ready-next (once-in c.requires.0 C) (after-in c.requires.0 C) c.put-choice.result c.least-x.result c.loop-depth-test.true (c.turn-here.ensures.ready T ρ C) c.put-choice.ensures _ left c.least-x.ensures.1 c.enter-at.ensures;
      },
      λ T ρ C some. descending-next (once-in c.requires.0 C) (after-in c.requires.0 C) c.put-choice.result c.least-x.result c.loop-depth-test.true (c.turn-here.ensures.ready T ρ C) c.put-choice.ensures _ left c.least-x.ensures.1 c.enter-at.ensures (c.loop-depth.invariant.1 T ρ C some),
    )

pub returns : goal.returns
returns c =
    let all : c.loop-depth.depth ≡ length c.args.walk.now.order.now = omega (arith, c.loop-depth-test.false, c.loop-depth.invariant.0) in rw all at c.loop-depth.invariant.1
