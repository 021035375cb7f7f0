-- `judge_page`: what the crate below said, as the tracker's number with the position.
-- Assumes nothing.
use Rattle.pages.specs.Page.{page_of}
use Rattle.rcl2000.proofs.PageLaws.{bounded, page-call-fits, page-call-seen}
use Rattle.rcl2000.proofs.judge_page.Goals as goal

pub page_number-requires : goal.page_number-requires
page_number-requires c =
    page-call-fits (page_of c.args.tables.now c.args.page.now) c.judge.ensures (bounded _ _)

pub returns : goal.returns
returns c =
    page-call-seen (page_of c.args.tables.now c.args.page.now) c.judge.ensures c.page_number.ensures
