-- `read_related` reads a test that begins with a term.
-- Assumes nothing.
use native.Mathlib.Omega.{arith}
use Rattle.syntax.proofs.ArenaLaws.{knows-later}
use Rattle.syntax.proofs.NameLaws.{as-unknown, as-name}
use Rattle.syntax.proofs.ReadingLaws.{as_none, as_some, ready_on, lost}
use Rattle.syntax.proofs.TestLaws.{between-range, related-none, related-lost, empty-fresh, empty-found, related-empty, related-fresh, related-found}
use Rattle.syntax.proofs.tests.read_related.Goals as goal

pub returns-in_err-p : goal.returns-in_err-p
returns-in_err-p c = λ σ w. lost c.from_residual.ensures (related-none σ _ (as_none (c.in_err-p.ensures σ w)))

pub returns-in_err-h : goal.returns-in_err-h
returns-in_err-h c =
    λ σ w.
    let f = as_some (c.in_ok-p.ensures σ w) in
    lost c.from_residual-in_err-h.ensures (related-lost σ f (as-unknown c.in_err-h.ensures))

pub overflow_add-h : goal.overflow_add-h
overflow_add-h c =
    let x = as-name c.in_ok-h.ensures in
    omega (arith, x.number_is, (between-range x.thing).high)

pub intern-requires : goal.intern-requires
intern-requires c =
    let f = as_some (c.in_ok-p.ensures c.requires.choices c.requires.knows) in
    let x = as-name c.in_ok-h.ensures in
    empty-fresh c.requires.choices f x c.empty_at.ensures c.requires

pub returns-then-empty_at : goal.returns-then-empty_at
returns-then-empty_at c =
    λ σ w.
    let f = as_some (c.in_ok-p.ensures σ w) in
    let x = as-name c.in_ok-h.ensures in
    empty-found σ f x c.empty_at.ensures c.if-empty_at.true c.intern.ensures

pub read_term-requires-2 : goal.read_term-requires-2
read_term-requires-2 c =
    let f = as_some (c.in_ok-p.ensures c.requires.choices c.requires.knows) in
    let x = as-name c.in_ok-h.ensures in
    ready_on c.requires f (omega (arith, x.more)) x.fits

pub returns-in_err-q : goal.returns-in_err-q
returns-in_err-q c =
    λ σ w.
    let f = as_some (c.in_ok-p.ensures σ w) in
    let x = as-name c.in_ok-h.ensures in
    lost c.from_residual-in_err-q.ensures (related-empty σ f x c.empty_at.ensures c.if-empty_at.false (as_none (c.in_err-q.ensures σ (knows-later f.stays w))))

pub intern-requires-2 : goal.intern-requires-2
intern-requires-2 c =
    let f = as_some (c.in_ok-p.ensures c.requires.choices c.requires.knows) in
    let x = as-name c.in_ok-h.ensures in
    let f' = as_some (c.in_ok-q.ensures c.requires.choices (knows-later f.stays c.requires.knows)) in
    related-fresh c.requires.choices f x c.empty_at.ensures f' c.requires

pub returns : goal.returns
returns c =
    λ σ w.
    let f = as_some (c.in_ok-p.ensures σ w) in
    let x = as-name c.in_ok-h.ensures in
    let f' = as_some (c.in_ok-q.ensures σ (knows-later f.stays w)) in
    related-found σ f x c.empty_at.ensures f' c.if-empty_at.false c.intern-2.ensures
