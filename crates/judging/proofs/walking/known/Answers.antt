-- `judging::walking::known` meets its contract.
-- Assumes nothing.
use mathlib.Core.Path.{refl}
use native.Mathlib.Omega.{arith}
use Rattle.judging.proofs.WalkingLaws.{once-for, after-for}
use Rattle.judging.proofs.CountingLaws.{plan-runs}
use Rattle.judging.proofs.DescendLaws.{stands-first, known-none, known-breaks, known_some}
use Rattle.judging.proofs.walking.known.Goals as goal

pub returns-then-breaking-eq0 : goal.returns-then-breaking-eq0
returns-then-breaking-eq0 c =
    λ T ρ C.
    let n = c.requires.2 T ρ C in
    known-none T ρ c.args.order.now (once-for c.requires.0 c.requires.1 C) (after-for c.requires.0 c.requires.1 C) n.0 n.1 c.if-breaking-eq0.true

pub entered-mode-requires : goal.entered-mode-requires
entered-mode-requires c =
    (c.requires.0.lent.ready.whole, plan-runs (c.lay_first.ensures.lays.along c.requires.0.lent.tables c.requires.0.lent.rule c.requires.0.lent.is_case).planned, refl, omega arith)

pub descend-requires : goal.descend-requires
descend-requires c =
    (record { lent = c.requires.0; ordered = c.requires.1 }, stands-first 3072 c.lay_first.ensures.lays c.entered-mode.ensures refl)

pub returns : goal.returns
returns c =
    λ T ρ C.
    let n = c.requires.2 T ρ C in
    let o = once-for c.requires.0 c.requires.1 C in
    let a = after-for c.requires.0 c.requires.1 C in
    let d = c.descend.ensures T ρ C (known-breaks T ρ c.args.order.now o a n.0 n.1 (omega (arith, c.if-breaking-eq0.false))) in
    known_some T ρ c.args.order.now o a n.0 n.1 c.descend.result d c.bytes-first.result c.bytes-first.ensures
