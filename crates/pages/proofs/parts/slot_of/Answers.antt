-- `pages::parts::slot_of` reduces line k on a sheet, and puts its part in slot k.
-- Assumes nothing.
use borrow.Author.Rules.{rules}
use Rattle.std.proofs.lemmas.Result.{err_from_is_err_and}
use Rattle.pages.proofs.PartLaws.{sheet-refused, sheet-found}
use Rattle.pages.proofs.parts.slot_of.Goals as goal

pub returns-in_err-n : goal.returns-in_err-n
returns-in_err-n c =
    let p = err_from_is_err_and c.from_residual.result c.from_residual.ensures.1 in
    rw (p.1, p.2) (sheet-refused c.part_at.ensures c.in_err-n.was)

pub returns : goal.returns
returns c = sheet-found c.part_at.ensures c.in_ok-n.was (search rules) c.hold.ensures
