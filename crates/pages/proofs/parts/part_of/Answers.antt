-- `pages::parts::part_of`: a refused line gives its refusal, an accepted one its formula and where the part of it ends.
-- Assumes nothing.
use mathlib.Core.Path.{sym}
use lib.Seq.{length-take-le}
use Rattle.std.proofs.lemmas.Result.{err_from_is_err_and}
use Rattle.pages.proofs.PartLaws.{part-refused, part-found, within-lent}
use Rattle.pages.proofs.parts.part_of.Goals as goal

pub slice_bounds-part_length-end : goal.slice_bounds-part_length-end
slice_bounds-part_length-end c =
    within-lent c.args.line.now c.reduce.ensures c.in_ok-n.was

pub slice_bounds-part_length-end-2 : goal.slice_bounds-part_length-end-2
slice_bounds-part_length-end-2 c =
    sym (length-take-le _ _ (within-lent c.args.line.now c.reduce.ensures c.in_ok-n.was))

pub returns-in_err-n : goal.returns-in_err-n
returns-in_err-n c =
    let p = err_from_is_err_and c.from_residual.result c.from_residual.ensures.1 in
    rw (p.1, p.2) (part-refused c.requires c.reduce.ensures c.in_err-n.was)

pub returns : goal.returns
returns c =
    part-found c.requires c.reduce.ensures c.in_ok-n.was c.part_length.ensures
