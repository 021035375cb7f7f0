-- The reader of terms meets its contract: each way out is one law of ReadingLaws. The measure is twice the number of bytes left, and one more in brackets.
-- Assumes nothing.
use native.Mathlib.Omega.{arith}
use Rattle.syntax.specs.Term.{read_term}
use Rattle.syntax.specs.Code.Reading.{no_thing}
use Rattle.syntax.proofs.ArenaLaws.{stays-refl, knows-later}
use Rattle.syntax.proofs.NameLaws.{hit, miss, as-unknown, as-name}
use Rattle.syntax.proofs.ReadingLaws.{as_none, as_some, agree-from, ready_on, fresh-leaf, fresh_on, fresh-pair, leaf-found, lost}
use Rattle.syntax.proofs.ReadingLaws.{read-unknown, read_one, read-pair, read_known, closed_none, closed-lost, call-found}
use Rattle.syntax.proofs.ReadingLaws.{paired_none, two-lost, away-found, two_none, two-open, two-small, two-found}
use Rattle.syntax.proofs.terms.+read_call_read_term_read_two.Goals as goal

pub read_call-returns-in_err-p : goal.read_call-returns-in_err-p
read_call-returns-in_err-p t c = λ σ make w k. lost c.from_residual.ensures (closed_none _ make _ (as_none (c.in_err-p.ensures σ w)))

pub read_call-returns-then-not-stands : goal.read_call-returns-then-not-stands
read_call-returns-then-not-stands t c =
    λ σ make w k.
    let f = as_some (c.in_ok-p.ensures σ w) in
    no_thing (closed-lost _ make _ f.reads (miss c.stands.ensures c.if-not-stands.true))

pub read_call-intern-requires : goal.read_call-intern-requires
read_call-intern-requires t c =
    let f = as_some (c.in_ok-p.ensures c.requires.readable.choices c.requires.readable.knows) in
    let h = hit c.stands.ensures c.if-not-stands.false f.end in
    fresh_on c.requires.readable f h.fits (omega (arith, c.requires.first_call_le_op.1)) (omega (arith, f.within))

pub read_call-returns : goal.read_call-returns
read_call-returns t c =
    λ σ make w k.
    let f = as_some (c.in_ok-p.ensures σ w) in
    let h = hit c.stands.ensures c.if-not-stands.false f.end in
    call-found (read_term σ) make k c.requires.first_call_le_op.0 (omega (arith, c.requires.first_call_le_op.1)) f h c.intern.ensures

pub read_term-returns-in_err-op : goal.read_term-returns-in_err-op
read_term-returns-in_err-op t c =
    λ σ w. lost c.from_residual.ensures (read-unknown σ c.args.s.now c.args.at (as-unknown c.in_err-op.ensures))

pub read_term-intern-requires : goal.read_term-intern-requires
read_term-intern-requires t c =
    let x = as-name c.in_ok-op.ensures in
    fresh-leaf (omega (arith, c.requires.room, c.requires.count, x.more, x.fits)) c.requires.tidy c.if-op-lt-FIRST_CALL.true

pub read_term-returns-then-op-lt-FIRST_CALL : goal.read_term-returns-then-op-lt-FIRST_CALL
read_term-returns-then-op-lt-FIRST_CALL t c =
    λ σ w. leaf-found σ (as-name c.in_ok-op.ensures) c.if-op-lt-FIRST_CALL.true c.intern.ensures

pub read_term-returns-then-op-lt-FIRST_PAIR : goal.read_term-returns-then-op-lt-FIRST_PAIR
read_term-returns-then-op-lt-FIRST_PAIR t c =
    λ σ w.
    let x = as-name c.in_ok-op.ensures in
    let y = read_one σ _ _ x c.if-op-lt-FIRST_CALL.false c.if-op-lt-FIRST_PAIR.true in
    rw y.is (agree-from (stays-refl _) (omega (arith, x.more)) (c.read_call.ensures σ y.make w y.makes))

pub read_term-returns-then-op-lt-CHOICE_HEAD : goal.read_term-returns-then-op-lt-CHOICE_HEAD
read_term-returns-then-op-lt-CHOICE_HEAD t c =
    λ σ w.
    let x = as-name c.in_ok-op.ensures in
    rw (read-pair σ _ _ x c.if-op-lt-FIRST_PAIR.false c.if-op-lt-CHOICE_HEAD.true) (agree-from (stays-refl _) (omega (arith, x.more)) (c.read_two.ensures σ w))

pub read_term-returns : goal.read_term-returns
read_term-returns t c =
    λ σ w.
    let x = as-name c.in_ok-op.ensures in
    rw (read_known σ _ _ x c.if-op-lt-CHOICE_HEAD.false) (agree-from (stays-refl _) (omega (arith, x.more)) (c.read_choice.ensures σ w))

pub read_two-returns-in_err-p : goal.read_two-returns-in_err-p
read_two-returns-in_err-p t c = λ σ w. lost c.from_residual.ensures (paired_none _ σ _ _ (as_none (c.in_err-p.ensures σ w)))

pub read_two-returns-in_err-h : goal.read_two-returns-in_err-h
read_two-returns-in_err-h t c =
    λ σ w.
    let f = as_some (c.in_ok-p.ensures σ w) in
    lost c.from_residual-in_err-h.ensures (two-lost (read_term σ) σ c.args.op f (as-unknown c.in_err-h.ensures))

pub read_two-read_less-requires : goal.read_two-read_less-requires
read_two-read_less-requires t c =
    let f = as_some (c.in_ok-p.ensures c.requires.readable.choices c.requires.readable.knows) in
    let x = as-name c.in_ok-h.ensures in
    record { readable = ready_on c.requires.readable f (omega (arith, x.more)) x.fits; i_lt_n = f.within }

pub read_two-returns-then-h-eq-AO : goal.read_two-returns-then-h-eq-AO
read_two-returns-then-h-eq-AO t c =
    λ σ w.
    let f = as_some (c.in_ok-p.ensures σ w) in
    let x = as-name c.in_ok-h.ensures in
    away-found (read_term σ) σ c.args.op f x c.if-h-eq-AO.true (c.read_less.ensures σ f.thing (knows-later f.stays w) f.holds)

pub read_two-read_term-requires-2 : goal.read_two-read_term-requires-2
read_two-read_term-requires-2 t c =
    let f = as_some (c.in_ok-p.ensures c.requires.readable.choices c.requires.readable.knows) in
    let x = as-name c.in_ok-h.ensures in
    (omega (arith, c.requires, f.count, f.stays.more, x.more, x.fits), ready_on c.requires.readable f (omega (arith, x.more)) x.fits)

pub read_two-returns-in_err-q : goal.read_two-returns-in_err-q
read_two-returns-in_err-q t c =
    λ σ w.
    let f = as_some (c.in_ok-p.ensures σ w) in
    let x = as-name c.in_ok-h.ensures in
    lost c.from_residual-in_err-q.ensures (two_none (read_term σ) σ c.args.op f x c.if-h-eq-AO.false (as_none (c.in_err-q.ensures σ (knows-later f.stays w))))

pub read_two-stands-requires : goal.read_two-stands-requires
read_two-stands-requires t c =
    let f = as_some (c.in_ok-p.ensures c.requires.readable.choices c.requires.readable.knows) in
    (as_some (c.in_ok-q.ensures c.requires.readable.choices (knows-later f.stays c.requires.readable.knows))).end

pub read_two-returns-then-not-stands : goal.read_two-returns-then-not-stands
read_two-returns-then-not-stands t c =
    λ σ w.
    let f = as_some (c.in_ok-p.ensures σ w) in
    let x = as-name c.in_ok-h.ensures in
    let f' = as_some (c.in_ok-q.ensures σ (knows-later f.stays w)) in
    no_thing (two-open (read_term σ) σ c.args.op f x c.if-h-eq-AO.false f' (miss c.stands.ensures c.if-not-stands.true))

pub read_two-overflow_add-q : goal.read_two-overflow_add-q
read_two-overflow_add-q t c =
    let f = as_some (c.in_ok-p.ensures c.requires.readable.choices c.requires.readable.knows) in
    let f' = as_some (c.in_ok-q.ensures c.requires.readable.choices (knows-later f.stays c.requires.readable.knows)) in
    omega (arith, c.requires.readable.room, c.requires.readable.tidy.size, (hit c.stands.ensures c.if-not-stands.false f'.end).fits)

pub read_two-intern-requires : goal.read_two-intern-requires
read_two-intern-requires t c =
    let f = as_some (c.in_ok-p.ensures c.requires.readable.choices c.requires.readable.knows) in
    let x = as-name c.in_ok-h.ensures in
    let f' = as_some (c.in_ok-q.ensures c.requires.readable.choices (knows-later f.stays c.requires.readable.knows)) in
    fresh-pair c.requires.readable f f' x.more (two-small (read_term c.requires.readable.choices) c.requires.readable.choices c.args.op f x c.if-h-eq-AO.false f')

pub read_two-returns : goal.read_two-returns
read_two-returns t c =
    λ σ w.
    let f = as_some (c.in_ok-p.ensures σ w) in
    let x = as-name c.in_ok-h.ensures in
    let f' = as_some (c.in_ok-q.ensures σ (knows-later f.stays w)) in
    let h = hit c.stands.ensures c.if-not-stands.false f'.end in
    two-found (read_term σ) σ c.args.op f x c.if-h-eq-AO.false f' h c.intern.ensures
