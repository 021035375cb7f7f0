-- `pages::count` counts the lines as far as a page may have. The invariant: the lines counted and those to come are all lines.
-- Assumes nothing.
use Rattle.pages.proofs.LineLaws.{counting-next, counting-all}
use Rattle.pages.proofs.count.Goals as goal

pub loop-at-preserved : goal.loop-at-preserved
loop-at-preserved c = counting-next c.loop-at.invariant c.if-n-gt-PAGE_LIMIT.false c.line_end-at.ensures c.loop-at-test.true

pub returns : goal.returns
returns c = counting-all c.loop-at.invariant c.loop-at-test.false
