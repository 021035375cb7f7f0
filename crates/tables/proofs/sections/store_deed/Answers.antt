-- `tables::sections::store_deed` meets its contract: three words are set.
-- Assumes nothing.
use Rattle.tables.specs.Code.Reads.{deed_at, with_deed}
use Rattle.tables.proofs.sections.store_deed.Goals as goal

pub returns : goal.returns
unfolding deed_at with_deed
returns c = rw (c.item.ensures, c.item-2.ensures, c.item-3.ensures)
