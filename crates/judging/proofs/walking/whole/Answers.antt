-- `judging::walking::whole` meets its contract.
-- Assumes nothing.
use mathlib.Core.Path.{◌≡◌, refl}
use native.Mathlib.Omega.{arith}
use lib.ListN.{length}
use Rattle.judging.proofs.WalkingLaws.{once-for, after-for}
use Rattle.judging.proofs.CountingLaws.{plan-runs}
use Rattle.judging.proofs.DescendLaws.{stands-first, walks-bare}
use Rattle.judging.proofs.NothingLaws.{none-counted}
use borrow.Author.Rules.{rules}
use Rattle.judging.proofs.walking.whole.Goals as goal

pub known-requires : goal.known-requires
known-requires c =
    (c.requires.0, c.requires.1, none-counted c.requires.0 c.requires.1 c.lay_first-many.ensures.ceiling_by c.if-many-eq0.true)

pub entered-mode-requires : goal.entered-mode-requires
entered-mode-requires c =
    (c.requires.0.lent.ready.whole, plan-runs (c.lay_first-many.ensures.lays.along c.requires.0.lent.tables c.requires.0.lent.rule c.requires.0.lent.is_case).planned, refl, omega arith)

pub returns-then-is_empty : goal.returns-then-is_empty
returns-then-is_empty c = λ T ρ C.
    let A = c.lay_first-many.ensures.lays.along T ρ C in
    let bare : length c.args.order.now ≡ 0 = search rules in
    walks-bare (once-for c.requires.0 c.requires.1 C) (after-for c.requires.0 c.requires.1 C) A bare c.entered-mode.result c.entered-mode.ensures.modes (c.entered-mode.ensures.goes A.layout T ρ A.planned).1

pub counted-requires : goal.counted-requires
counted-requires c =
    (record { lent = c.requires.0; ordered = c.requires.1 }, stands-first 384 c.lay_first-many.ensures.lays c.entered-mode.ensures refl)

pub counted-requires-2 : goal.counted-requires-2
counted-requires-2 c =
    (record { lent = c.requires.0; ordered = c.requires.1 }, stands-first 3072 c.lay_first-many.ensures.lays c.entered-mode.ensures refl)
