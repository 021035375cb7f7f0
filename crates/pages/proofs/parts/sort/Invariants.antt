-- `pages::parts::sort` sorts the lines by their quantifier parts. The invariant: the first k are sorted.
-- Assumes nothing.
use Rattle.pages.specs.Code.Parts.{Sorting, Wide}
use Rattle.pages.proofs.parts.sort.Given as goal

abbrev pub invariant-loop-k : goal.invariant-loop-k
invariant-loop-k l = Sorting l.page l.slots l.lens l.groups l.walks l.k × Wide l.slots l.lens l.groups
