-- `read_formula` reads quantifiers and the rule behind them. The measure is the number of quantifiers that it may read.
-- Assumes nothing.
use mathlib.Core.List.{[], ◌∷◌, ◌++◌}
use native.Mathlib.Omega.{arith}
use lib.ListN.{length, length-take, length-set}
use Rattle.syntax.specs.Code.Reading.{no_thing}
use Rattle.syntax.proofs.ArenaLaws.{stays-refl}
use Rattle.syntax.proofs.NameLaws.{hit, miss}
use Rattle.syntax.proofs.ReadingLaws.{as_none, as_some, agree-from, ready_at, lost}
use Rattle.syntax.proofs.FormulaLaws.{formula-open, formula-rule, formula-full, formula-lost, formula-more, knows_more}
use Prim.Native.Nat.{◌<◌}
use Rattle.syntax.proofs.formulas.+read_formula.Goals as goal

pub returns-then-not-stands-2 : goal.returns-then-not-stands-2
returns-then-not-stands-2 t c =
    λ σ w.
    no_thing (formula-open c.args.k c.requires.vars_len.1 σ c.args.s.now c.args.at (miss c.stands.ensures c.if-not-stands.true) (miss c.stands-then-not-stands.ensures c.if-not-stands-2.true))

pub read_body-requires : goal.read_body-requires
read_body-requires t c =
    let h = hit c.stands-then-not-stands.ensures c.if-not-stands-2.false c.requires.readable.within in
    ready_at c.requires.readable (omega arith) h.fits

pub returns-then-not-stands : goal.returns-then-not-stands
returns-then-not-stands t c =
    λ σ w.
    let h = hit c.stands-then-not-stands.ensures c.if-not-stands-2.false c.requires.readable.within in
    rw (formula-rule c.args.k c.requires.vars_len.1 σ c.args.s.now c.args.at (miss c.stands.ensures c.if-not-stands.true) h)
    (agree-from (stays-refl _) (omega arith) (c.read_body.ensures σ w))

pub returns-then-k-eq8 : goal.returns-then-k-eq8
returns-then-k-eq8 t c =
    λ σ w.
    let h = hit c.stands.ensures c.if-not-stands.false c.requires.readable.within in
    no_thing (formula-full c.args.k c.requires.vars_len.1 σ c.args.s.now c.args.at h c.if-k-eq8.true)

pub read_set-requires : goal.read_set-requires
read_set-requires t c =
    let h = hit c.stands.ensures c.if-not-stands.false c.requires.readable.within in
    record { readable = ready_at c.requires.readable (omega arith) h.fits; vars_len_bound = simp length-take (omega (arith, c.requires.vars_len)) }

pub returns-in_err-p : goal.returns-in_err-p
returns-in_err-p t c =
    λ σ w.
    let h = hit c.stands.ensures c.if-not-stands.false c.requires.readable.within in
    lost c.from_residual.ensures (formula-lost c.args.k c.requires.vars_len.1 σ c.args.s.now c.args.at h (as_none (c.in_err-p.ensures σ w)))

pub read_formula-requires : goal.read_formula-requires
read_formula-requires t c =
    let f = as_some (c.in_ok-p.ensures c.requires.readable.choices c.requires.readable.knows) in
    let l : c.args.k < length c.args.vars.now = omega (arith, c.requires.vars_len, c.if-k-eq8.false) in (
      omega (arith, c.requires, c.if-k-eq8.false),
      (
        record {
          room = omega (arith, c.requires.readable.room, f.stays.size);
          within = f.end;
          count = omega (arith, c.requires.readable.count, f.count, f.stays.size);
          tidy = f.tidy;
          choices = c.requires.readable.choices ++ (f.thing ∷ []);
          knows = knows_more c.args.vars.now c.args.k c.requires.readable.choices l c.requires.readable.knows f;
        },
        (simp length-set c.requires.vars_len.0, omega (arith, c.requires.vars_len, c.if-k-eq8.false)),
      ),
    )

pub returns : goal.returns
returns t c =
    λ σ w.
    let f = as_some (c.in_ok-p.ensures σ w) in
    let h = hit c.stands.ensures c.if-not-stands.false c.requires.readable.within in
    let l : c.args.k < length c.args.vars.now = omega (arith, c.requires.vars_len, c.if-k-eq8.false) in
    rw (formula-more c.args.k c.requires.vars_len.1 σ c.args.s.now c.args.at h f)
    (agree-from f.stays (omega (arith, f.count)) (c.read_formula.ensures (σ ++ (f.thing ∷ [])) (knows_more c.args.vars.now c.args.k σ l w f)))
