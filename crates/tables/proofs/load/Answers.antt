-- `tables::load`: the sections, then what is left over, then the checks of the whole.
-- Assumes nothing.
use mathlib.Core.Path.{sym, ap, ◌∙◌}
use Rattle.std.proofs.lemmas.Result.{err_from_is_err_and}
use Rattle.tables.specs.Flat.{flat}
use Rattle.tables.proofs.ReadLaws.{as-took, as-stop}
use Rattle.tables.proofs.PartLaws.{counts-fit}
use Rattle.tables.proofs.LoadLaws.{load-stop, load-left, late-outcome, late-taken, whole_of, on-ok, read_left, read-once}
use Rattle.tables.proofs.load.Goals as goal

pub returns-in_err-next-clause-value : goal.returns-in_err-next-clause-value
returns-in_err-next-clause-value c =
    let p = err_from_is_err_and c.from_residual.result c.from_residual.ensures.1 in
    rw (p.1, p.2, load-stop c.args.bytes.now (as-stop c.in_err-next.ensures))

pub returns-then-next-bytes-clause-value : goal.returns-then-next-bytes-clause-value
returns-then-next-bytes-clause-value c =
    let w = whole_of c.requires (as-took c.in_ok-next.ensures) in
    rw (load-left c.args.bytes.now w.reads c.if-next-bytes.true)

pub returns-then-next-bytes-clause-words_after_2 : goal.returns-then-next-bytes-clause-words_after_2
returns-then-next-bytes-clause-words_after_2 c =
    let w = whole_of c.requires (as-took c.in_ok-next.ensures) in
    λ T q. read_left c.args.bytes.now q w.reads c.if-next-bytes.true

pub checked-requires : goal.checked-requires
checked-requires c =
    let w = whole_of c.requires (as-took c.in_ok-next.ensures) in
    counts-fit w.tables w.sound.fits w.flatly

pub returns : goal.returns
returns c =
    let w = whole_of c.requires (as-took c.in_ok-next.ensures) in
    let o = c.checked.ensures w.tables w.sound.fits w.sound.bounded w.flatly in
    record {
      value = o ∙ late-outcome c.args.bytes.now w.reads c.if-next-bytes.false;
      words_after = on-ok _ (λ z. rw (late-taken c.args.bytes.now w.reads c.if-next-bytes.false (sym o ∙ z)) w.flatly);
      words_after_2 = λ T q. w.flatly ∙ ap flat (read-once c.args.bytes.now q w.reads);
    }
