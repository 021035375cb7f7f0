-- `pages::writing::write_page` makes the page's bytes by themselves, and lends them.
-- Assumes nothing.
use mathlib.Core.Path.{◌≡◌}
use mathlib.Core.List.{List}
use Prim.Native.Nat.{ℕ, ◌+◌, ◌*◌, ◌-◌}
use native.Mathlib.Omega.{arith}
use lib.Dec.{lit≤}
use lib.ListN.{take, replicate}
use Rattle.pages.specs.Page.{page_bytes}
use Rattle.pages.proofs.WritingLaws.{page-written}
use Rattle.pages.proofs.writing.write_page.Goals as goal

abbrev empty : List ℕ
empty = replicate 850 0

pub returns : goal.returns
returns c =
    let all : 26 * (c.args.many - 0) ≡ 26 * c.args.many = omega arith in
    λ vs rows.
    let page : take (18 + 26 * c.args.many) c.write_head.new.out ≡ page_bytes c.args.walks vs =
    rw all at (page-written empty c.write_from-sums.result c.args.walks (lit≤ tt) (c.write_from-sums.ensures.summed vs rows) (c.write_from-sums.ensures.overwritten vs rows) c.write_head.ensures) in
    rw page at c.lend.ensures
