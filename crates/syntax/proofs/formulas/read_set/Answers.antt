-- `read_set` reads a quantifier behind `[v`.
-- Assumes nothing.
use native.Mathlib.Omega.{arith}
use Rattle.syntax.specs.Code.Reading.{no_thing, some_thing}
use borrow.Author.Tests.{false-ltb}
use Rattle.syntax.proofs.NameLaws.{hit, miss, knows-length}
use Rattle.syntax.proofs.ReadingLaws.{as_none, as_some, ready_at, lost}
use Rattle.syntax.proofs.FormulaLaws.{set-end, set_other, set-open, set-none, set-left, set_found}
use Rattle.syntax.proofs.formulas.read_set.Goals as goal
use Rattle.syntax.proofs.formulas.read_set.Goals.{then-c-vars-via-then-c-vars, then-c-vars-via-else-c-vars+then-not-stands}

pub returns-in_err-c : goal.returns-in_err-c
returns-in_err-c c = λ σ w. lost c.from_residual.ensures (set-end σ _ _ (false-ltb _ _ c.in_err-c.ensures.lookup.0))

pub returns-then-c-vars : goal.returns-then-c-vars
returns-then-c-vars c =
    λ σ w.
    let x = c.in_ok-c.ensures.lookup.3 in
    elim c.then-c-vars.branch [
      | then-c-vars-via-then-c-vars v ↦ no_thing (set_other σ c.args.s.now c.args.at x.0 (λ e. v.if-c-vars.true (omega (arith, x.1 0, e, knows-length w))))
      | then-c-vars-via-else-c-vars+then-not-stands v ↦ no_thing (set-open σ c.args.s.now c.args.at x.0 (omega (arith, x.1 0, v.if-c-vars.false, knows-length w)) (miss v.stands.ensures v.if-not-stands.true))
    ]

pub read_term-requires : goal.read_term-requires
read_term-requires c =
    let x = c.in_ok-c.ensures.lookup.3 in
    let h = hit c.stands.ensures c.if-not-stands.false (omega (arith, x.0)) in
    ready_at c.requires.readable (omega arith) (omega (arith, h.fits))

pub returns-in_err-p : goal.returns-in_err-p
returns-in_err-p c =
    λ σ w.
    let x = c.in_ok-c.ensures.lookup.3 in
    let h = hit c.stands.ensures c.if-not-stands.false (omega (arith, x.0)) in
    lost c.from_residual-in_err-p.ensures (set-none σ c.args.s.now c.args.at x.0 (omega (arith, x.1 0, c.if-c-vars.false, knows-length w)) h (as_none (c.in_err-p.ensures σ w)))

pub returns-then-not-stands-2 : goal.returns-then-not-stands-2
returns-then-not-stands-2 c =
    λ σ w.
    let x = c.in_ok-c.ensures.lookup.3 in
    let h = hit c.stands.ensures c.if-not-stands.false (omega (arith, x.0)) in
    let f = as_some (c.in_ok-p.ensures σ w) in
    no_thing (set-left σ c.args.s.now c.args.at x.0 (omega (arith, x.1 0, c.if-c-vars.false, knows-length w)) h f (miss c.stands-2.ensures c.if-not-stands-2.true))

pub returns : goal.returns
returns c =
    λ σ w.
    let x = c.in_ok-c.ensures.lookup.3 in
    let h = hit c.stands.ensures c.if-not-stands.false (omega (arith, x.0)) in
    let f = as_some (c.in_ok-p.ensures σ w) in
    some_thing (set_found σ c.args.s.now c.args.at x.0 (omega (arith, x.1 0, c.if-c-vars.false, knows-length w)) h f (hit c.stands-2.ensures c.if-not-stands-2.false f.end))
