-- `read_clauses` reads clause after clause: those with `^` behind them are passed.
-- Assumes nothing.
use Prim.Native.Nat.{◌<◌}
use native.Mathlib.Omega.{arith}
use lib.ListN.{length}
use Rattle.syntax.specs.Code.Reading.{no_clause, some_clauses}
use Rattle.syntax.proofs.ArenaLaws.{knows-later}
use Rattle.syntax.proofs.NameLaws.{hit, miss}
use Rattle.syntax.proofs.ReadingLaws.{as_none, as_some}
use Rattle.syntax.proofs.ClauseLaws.{pass-start, pass-ready, pass-none, pass-last, pass-more, pass-full, uncollected}
use Rattle.syntax.proofs.tests.read_clauses.Goals as goal

pub loop-c-init : goal.loop-c-init
loop-c-init c = pass-start c.requires

pub read_clause-requires : goal.read_clause-requires
read_clause-requires c =
    pass-ready c.loop-c.invariant c.requires

pub returns-in_err-p : goal.returns-in_err-p
returns-in_err-p c =
    λ σ w.
    let l : c.loop-c.c < length c.args.list.now = omega (arith, c.loop-c.invariant.size) in
    uncollected c.from_residual.ensures (pass-none c.loop-c.invariant σ w l (as_none (c.in_err-p.ensures σ (knows-later c.loop-c.invariant.stays w))))

pub overflow_cast-list : goal.overflow_cast-list
overflow_cast-list c =
    let f = as_some (c.in_ok-p.ensures c.requires.choices (knows-later c.loop-c.invariant.stays c.requires.knows)) in
    omega (arith, f.within, f.tidy.fits, f.tidy.size)

pub stands-requires : goal.stands-requires
stands-requires c =
    (as_some (c.in_ok-p.ensures c.requires.choices (knows-later c.loop-c.invariant.stays c.requires.knows))).end

pub returns-then-not-stands : goal.returns-then-not-stands
returns-then-not-stands c =
    λ σ w.
    let l : c.loop-c.c < length c.args.list.now = omega (arith, c.loop-c.invariant.size) in
    let f = as_some (c.in_ok-p.ensures σ (knows-later c.loop-c.invariant.stays w)) in
    some_clauses (pass-last c.loop-c.invariant σ w l f (miss c.stands.ensures c.if-not-stands.true))

pub overflow_add-at : goal.overflow_add-at
overflow_add-at c =
    let f = as_some (c.in_ok-p.ensures c.requires.choices (knows-later c.loop-c.invariant.stays c.requires.knows)) in
    omega (arith, c.requires.room, c.requires.tidy.size, f.end)

pub loop-c-preserved : goal.loop-c-preserved
loop-c-preserved c =
    let l : c.loop-c.c < length c.args.list.now = omega (arith, c.loop-c.invariant.size) in
    let f = as_some (c.in_ok-p.ensures c.requires.choices (knows-later c.loop-c.invariant.stays c.requires.knows)) in
    let h = hit c.stands.ensures c.if-not-stands.false f.end in
    pass-more c.loop-c.invariant c.requires.choices l f c.requires.knows h (λ σ w. as_some (c.in_ok-p.ensures σ (knows-later c.loop-c.invariant.stays w)))

pub returns : goal.returns
returns c = λ σ w. no_clause (pass-full c.loop-c.invariant σ w (omega (arith, c.loop-c.invariant.size)))
