-- `read_clause` reads a test, or two with `=>` between them.
-- Assumes nothing.
use native.Mathlib.Omega.{arith}
use Rattle.syntax.specs.Code.Reading.{some_thing}
use Rattle.syntax.proofs.ArenaLaws.{knows-later}
use Rattle.syntax.proofs.NameLaws.{hit, miss}
use Rattle.syntax.proofs.ReadingLaws.{as_none, as_some, ready_on, fresh-pair, lost}
use Rattle.syntax.proofs.TestLaws.{clause-none, clause-plain, clause-lost, clause-found}
use Rattle.syntax.proofs.tests.read_clause.Goals as goal

pub returns-in_err-p : goal.returns-in_err-p
returns-in_err-p c = λ σ w. lost c.from_residual.ensures (clause-none σ _ (as_none (c.in_err-p.ensures σ w)))

pub returns-then-not-stands : goal.returns-then-not-stands
returns-then-not-stands c =
    λ σ w.
    let f = as_some (c.in_ok-p.ensures σ w) in
    some_thing (clause-plain σ f (miss c.stands.ensures c.if-not-stands.true))

pub read_test-requires-2 : goal.read_test-requires-2
read_test-requires-2 c =
    let f = as_some (c.in_ok-p.ensures c.requires.choices c.requires.knows) in
    let h = hit c.stands.ensures c.if-not-stands.false f.end in
    ready_on c.requires f (omega arith) h.fits

pub returns-in_err-q : goal.returns-in_err-q
returns-in_err-q c =
    λ σ w.
    let f = as_some (c.in_ok-p.ensures σ w) in
    let h = hit c.stands.ensures c.if-not-stands.false f.end in
    lost c.from_residual-in_err-q.ensures (clause-lost σ f h (as_none (c.in_err-q.ensures σ (knows-later f.stays w))))

pub intern-requires : goal.intern-requires
intern-requires c =
    let f = as_some (c.in_ok-p.ensures c.requires.choices c.requires.knows) in
    let f' = as_some (c.in_ok-q.ensures c.requires.choices (knows-later f.stays c.requires.knows)) in
    fresh-pair c.requires f f' (omega arith) (omega arith)

pub returns : goal.returns
returns c =
    λ σ w.
    let f = as_some (c.in_ok-p.ensures σ w) in
    let h = hit c.stands.ensures c.if-not-stands.false f.end in
    let f' = as_some (c.in_ok-q.ensures σ (knows-later f.stays w)) in
    clause-found σ f h f' c.intern.ensures
