-- `tables::checks::checked`: the checks 20, 7, 8 and 9 in that order.
-- Assumes nothing.
use mathlib.Core.Path.{sym, ap, ◌∙◌}
use mathlib.Core.Bool.{not}
use Rattle.tables.specs.Checks.{ranked, late_checks, first_failing}
use Rattle.tables.proofs.RankLaws.{step-ranked}
use Rattle.tables.proofs.checks.checked.Goals as goal

pub returns-then-not-leavers_gone : goal.returns-then-not-leavers_gone
unfolding late_checks first_failing
returns-then-not-leavers_gone c =
    λ T f b e.
    let g = sym (c.leavers_gone.ensures T f b e) ∙ c.if-not-leavers_gone.true in
    rw g

pub returns-then-is_some : goal.returns-then-is_some
unfolding late_checks first_failing ranked
returns-then-is_some c =
    λ T f b e.
    let g = sym (c.leavers_gone.ensures T f b e) ∙ c.if-not-leavers_gone.false in
    let r = step-ranked _ _ (c.failing_step.ensures T f b e) ∙ ap not (sym c.is_some.ensures ∙ c.if-is_some.true) in
    rw (g, r)

pub returns-then-not-reaches : goal.returns-then-not-reaches
unfolding late_checks first_failing ranked
returns-then-not-reaches c =
    λ T f b e.
    let g = sym (c.leavers_gone.ensures T f b e) ∙ c.if-not-leavers_gone.false in
    let r = step-ranked _ _ (c.failing_step.ensures T f b e) ∙ ap not (sym c.is_some.ensures ∙ c.if-is_some.false) in
    let o = sym (c.reaches.ensures T f b r e) ∙ c.if-not-reaches.true in
    rw (g, r, o)

pub returns-then-not-collections_apart : goal.returns-then-not-collections_apart
unfolding late_checks first_failing ranked
returns-then-not-collections_apart c =
    λ T f b e.
    let g = sym (c.leavers_gone.ensures T f b e) ∙ c.if-not-leavers_gone.false in
    let r = step-ranked _ _ (c.failing_step.ensures T f b e) ∙ ap not (sym c.is_some.ensures ∙ c.if-is_some.false) in
    let o = sym (c.reaches.ensures T f b r e) ∙ c.if-not-reaches.false in
    let w = sym (c.collections_apart.ensures T f e) ∙ c.if-not-collections_apart.true in
    rw (g, r, o, w)

pub returns : goal.returns
unfolding late_checks first_failing ranked
returns c =
    λ T f b e.
    let g = sym (c.leavers_gone.ensures T f b e) ∙ c.if-not-leavers_gone.false in
    let r = step-ranked _ _ (c.failing_step.ensures T f b e) ∙ ap not (sym c.is_some.ensures ∙ c.if-is_some.false) in
    let o = sym (c.reaches.ensures T f b r e) ∙ c.if-not-reaches.false in
    let w = sym (c.collections_apart.ensures T f e) ∙ c.if-not-collections_apart.false in
    rw (g, r, o, w)
